-- How deep the parts of a script lie. A statement directly in main's braces has depth 1; a statement in a block, and a
-- body, has one more than the statement around it. An expression has the depth of its statement, and one more inside an
-- expression's brackets, as an argument, or under a unary operator.
--
-- For each lexeme of a tree: the depth of the statement or expression that begins there (all that begin at one lexeme
-- have one depth), or 0 where none begins. As with the lexemes, the last argument is what follows.
use Rattle.std.specs.Prelude.{ℕ, suc, max, List, [], ◌∷◌}
use Rattle.std.proofs.Math.Option.{Option, none, some}
use Rattle.meaning.specs.Trees.{Expr, constant, variable, call, bracket, unary, binary, Args, no_args, args, Exprs, last, more, Stmt, block, define, assign, modify, evaluate, if_then, if_else, while, do_while, for_to, break, continue, return, return_bare, Stmts, nil, cons, Parameter, nothing, takes, Item, extern, global, Script}

-- of an expression at depth d
unfoldable mutual
  pub expr_depths : Expr → ℕ → List ℕ → List ℕ
  expr_depths (constant c) d r = d ∷ r
  expr_depths (variable x) d r = d ∷ r
  expr_depths (call x q xs) d r = d ∷ 0 ∷ args_depths xs (suc d) (0 ∷ r)
  expr_depths (bracket q e) d r = d ∷ expr_depths e (suc d) (0 ∷ r)
  expr_depths (unary u p e) d r = d ∷ expr_depths e (suc d) r
  expr_depths (binary o p a b) d r = expr_depths a d (0 ∷ expr_depths b d r)

  pub args_depths : Args → ℕ → List ℕ → List ℕ
  args_depths no_args d r = r
  args_depths (args es) d r = exprs_depths es d r

  pub exprs_depths : Exprs → ℕ → List ℕ → List ℕ
  exprs_depths (last e) d r = expr_depths e d r
  exprs_depths (more e p es) d r = expr_depths e d (0 ∷ exprs_depths es d r)

-- of a statement at depth d
unfoldable mutual
  pub stmt_depths : Stmt → ℕ → List ℕ → List ℕ
  stmt_depths (block q ss) d r = d ∷ stmts_depths ss (suc d) (0 ∷ r)
  stmt_depths (define t q x e) d r = d ∷ 0 ∷ 0 ∷ expr_depths e d (0 ∷ r)
  stmt_depths (assign x p e q) d r = d ∷ 0 ∷ expr_depths e d (0 ∷ r)
  stmt_depths (modify m x p e q) d r = d ∷ 0 ∷ expr_depths e d (0 ∷ r)
  stmt_depths (evaluate e q) d r = expr_depths e d (0 ∷ r)
  stmt_depths (if_then p q e s) d r = d ∷ 0 ∷ expr_depths e d (0 ∷ stmt_depths s (suc d) r)
  stmt_depths (if_else p q e s o t) d r = d ∷ 0 ∷ expr_depths e d (0 ∷ stmt_depths s (suc d) (0 ∷ stmt_depths t (suc d) r))
  stmt_depths (while p q e s) d r = d ∷ 0 ∷ expr_depths e d (0 ∷ stmt_depths s (suc d) r)
  stmt_depths (do_while p s q e) d r = d ∷ stmt_depths s (suc d) (0 ∷ 0 ∷ expr_depths e d (0 ∷ 0 ∷ r))
  stmt_depths (for_to p q x a b s) d r = d ∷ 0 ∷ 0 ∷ 0 ∷ 0 ∷ expr_depths a d (0 ∷ expr_depths b d (0 ∷ stmt_depths s (suc d) r))
  stmt_depths (break p q) d r = d ∷ 0 ∷ r
  stmt_depths (continue p q) d r = d ∷ 0 ∷ r
  stmt_depths (return p e q) d r = d ∷ expr_depths e d (0 ∷ r)
  stmt_depths (return_bare p q) d r = d ∷ 0 ∷ r

  pub stmts_depths : Stmts → ℕ → List ℕ → List ℕ
  stmts_depths nil d r = r
  stmts_depths (cons s ss) d r = stmt_depths s d (stmts_depths ss d r)

-- outside main's braces nothing has a depth

-- of a parameter
abbrev pub parameter_depths : Parameter → List ℕ → List ℕ
parameter_depths nothing r = r
parameter_depths (takes t p x) r = 0 ∷ 0 ∷ r

-- of `static`, where it stands
abbrev pub static_depths : Option ℕ → List ℕ → List ℕ
static_depths none r = r
static_depths (some p) r = 0 ∷ r

-- of an extern or a global
abbrev pub item_depths : Item → List ℕ → List ℕ
item_depths (extern q t x a) r = 0 ∷ 0 ∷ 0 ∷ 0 ∷ parameter_depths a (0 ∷ 0 ∷ r)
item_depths (global s q t x c) r = static_depths s (0 ∷ 0 ∷ 0 ∷ 0 ∷ 0 ∷ r)

-- of externs and globals, one after another
unfoldable pub items_depths : List Item → List ℕ → List ℕ
items_depths [] r = r
items_depths (i ∷ is) r = item_depths i (items_depths is r)

-- of a script
unfoldable pub script_depths : Script → List ℕ
script_depths s = items_depths s.items (static_depths s.static (0 ∷ 0 ∷ 0 ∷ 0 ∷ 0 ∷ stmts_depths s.body 1 (0 ∷ [])))

-- the greatest of some numbers
unfoldable pub greatest : List ℕ → ℕ
greatest [] = 0
greatest (n ∷ ns) = max n (greatest ns)
