-- How many values an expression needs on the stack, above what lies there.
use Rattle.std.proofs.Common.{ℕ, ◌+◌, ◌≤◌, max, arith}
use Rattle.meaning.specs.Trees.{Unary, negate, invert, Expr, constant, variable, call, bracket, unary, binary, Args, no_args, args, Exprs, last, more, Stmt, block, define, assign, modify, evaluate, if_then, if_else, while, do_while, for_to, break, continue, return, return_bare, Stmts, nil, cons}
use Rattle.meaning.specs.Types.{operator_of}
use Rattle.layout.proofs.Compiled.{Shape, strict, both, either, shape_of}

abbrev pub binary_needs : Shape → ℕ → ℕ → ℕ
binary_needs strict m n = max m (1 + n)
binary_needs both m n = max m n
binary_needs either m n = max m n

abbrev pub unary_needs : Unary → ℕ → ℕ
unary_needs negate n = 1 + n
unary_needs invert n = n

unfoldable mutual
  pub expr_needs : Expr → ℕ
  expr_needs (constant c) = 1
  expr_needs (variable x) = 1
  expr_needs (call x q xs) = max 1 (args_need xs)
  expr_needs (bracket q e) = expr_needs e
  expr_needs (unary u p e) = unary_needs u (expr_needs e)
  expr_needs (binary f p a b) = binary_needs (shape_of f) (expr_needs a) (expr_needs b)

  pub args_need : Args → ℕ
  args_need no_args = 0
  args_need (args es) = exprs_need es

  pub exprs_need : Exprs → ℕ
  exprs_need (last e) = expr_needs e
  exprs_need (more e p es) = max (expr_needs e) (1 + exprs_need es)

shape-needs : (h : Shape) (m n : ℕ) → 1 ≤ m → 1 ≤ binary_needs h m n
shape-needs strict m n l = omega arith
shape-needs both m n l = omega arith
shape-needs either m n l = omega arith

single_needs : (u : Unary) (n : ℕ) → 1 ≤ n → 1 ≤ unary_needs u n
single_needs negate n l = omega arith
single_needs invert n l = l

-- every expression needs room for its value
pub needs-one : (e : Expr) → 1 ≤ expr_needs e
unfolding expr_needs
needs-one (constant c) = omega arith
needs-one (variable x) = omega arith
needs-one (call x q xs) = omega arith
needs-one (bracket q e) = needs-one e
needs-one (unary u p e) = single_needs u (expr_needs e) (needs-one e)
needs-one (binary f p a b) = shape-needs (shape_of f) (expr_needs a) (expr_needs b) (needs-one a)

-- the most that an expression of a statement needs; the stop of a `for` is worked out over its start
unfoldable mutual
  pub stmt_needs : Stmt → ℕ
  stmt_needs (block q ss) = stmts_need ss
  stmt_needs (define t q x e) = expr_needs e
  stmt_needs (assign x p e q) = expr_needs e
  stmt_needs (modify m x p e q) = expr_needs (binary (operator_of m) p (variable x) e)
  stmt_needs (evaluate e q) = expr_needs e
  stmt_needs (if_then p q e s) = max (expr_needs e) (stmt_needs s)
  stmt_needs (if_else p q e s o t) = max (expr_needs e) (max (stmt_needs s) (stmt_needs t))
  stmt_needs (while p q e s) = max (expr_needs e) (stmt_needs s)
  stmt_needs (do_while p s q e) = max (expr_needs e) (stmt_needs s)
  stmt_needs (for_to p q x a b s) = max (expr_needs a) (max (1 + expr_needs b) (stmt_needs s))
  stmt_needs (break p q) = 0
  stmt_needs (continue p q) = 0
  stmt_needs (return p e q) = expr_needs e
  stmt_needs (return_bare p q) = 0

  pub stmts_need : Stmts → ℕ
  stmts_need nil = 0
  stmts_need (cons s ss) = max (stmt_needs s) (stmts_need ss)
