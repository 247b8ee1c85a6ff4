-- Which token lists are scripts, and at which token a list that is none goes wrong. All of it is about scripts: a token
-- is refused where no script goes on with it, or where something too deep begins.
use Rattle.std.specs.Prelude.{◌≡◌, ℕ, suc, pred, ◌<◌, ◌≤◌, Bool, true, false, List, ◌++◌, length, take, slice_index}
use Rattle.lexer.specs.Lexeme.{Lexeme}
use Rattle.meaning.specs.declared.operator.Operator.{Operator}
use Rattle.meaning.specs.declared.operator.Operator.TheVariants.{Add, Subtract, Multiply, Divide, Remainder, Less, LessEqual, Greater, GreaterEqual, Equal, NotEqual, And, Or}
use Rattle.meaning.specs.Trees.{Expr, constant, variable, call, bracket, unary, binary, Args, no_args, args, Exprs, last, more, Stmt, block, define, assign, modify, evaluate, if_then, if_else, while, do_while, for_to, break, continue, return, return_bare, Stmts, nil, cons, Script}
use Rattle.meaning.specs.Written.{script_lexemes}
use Rattle.meaning.specs.Depths.{script_depths, greatest}

-- how loosely an operator binds: `* / %`, then `+ -`, the four relations, `== !=`, `&&`, `||`
abbrev pub looseness : Operator → ℕ
looseness Multiply = 1
looseness Divide = 1
looseness Remainder = 1
looseness Add = 2
looseness Subtract = 2
looseness Less = 3
looseness LessEqual = 3
looseness Greater = 3
looseness GreaterEqual = 3
looseness Equal = 4
looseness NotEqual = 4
looseness And = 5
looseness Or = 6

-- Precedence and grouping to the left. `Grouped n e`: outside brackets no operator of e binds more loosely than n; the
-- left operand of an operator binds no more loosely than the operator, the right one more tightly; and the operand of a
-- unary operator has no operator outside brackets that takes two operands.
abbrev mutual
  pub Grouped : Expr → ℕ → Type 0
  Grouped (constant c) n = Unit {0}
  Grouped (variable x) n = Unit {0}
  Grouped (call x q xs) n = GroupedArgs xs
  Grouped (bracket q e) n = Grouped e 6
  Grouped (unary u p e) n = Grouped e 0
  Grouped (binary o p a b) n = (looseness o ≤ n) × Grouped a (looseness o) × Grouped b (pred (looseness o))

  pub GroupedArgs : Args → Type 0
  GroupedArgs no_args = Unit {0}
  GroupedArgs (args es) = GroupedExprs es

  pub GroupedExprs : Exprs → Type 0
  GroupedExprs (last e) = Grouped e 6
  GroupedExprs (more e p es) = Grouped e 6 × GroupedExprs es

-- whether a statement ends with an `if` that has no `else`, so that an `else` after it would belong there
unfoldable pub ends_open : Stmt → Bool
ends_open (block q ss) = false
ends_open (define t q x e) = false
ends_open (assign x p e q) = false
ends_open (modify m x p e q) = false
ends_open (evaluate e q) = false
ends_open (if_then p q e s) = true
ends_open (if_else p q e s o t) = ends_open t
ends_open (while p q e s) = ends_open s
ends_open (do_while p s q e) = false
ends_open (for_to p q x a b s) = ends_open s
ends_open (break p q) = false
ends_open (continue p q) = false
ends_open (return p e q) = false
ends_open (return_bare p q) = false

-- Every expression of a statement is grouped by precedence, and `else` goes with the nearest `if`.
abbrev mutual
  pub Proper : Stmt → Type 0
  Proper (block q ss) = Propers ss
  Proper (define t q x e) = Grouped e 6
  Proper (assign x p e q) = Grouped e 6
  Proper (modify m x p e q) = Grouped e 6
  Proper (evaluate e q) = Grouped e 6
  Proper (if_then p q e s) = Grouped e 6 × Proper s
  Proper (if_else p q e s o t) = Grouped e 6 × Proper s × (ends_open s ≡ false) × Proper t
  Proper (while p q e s) = Grouped e 6 × Proper s
  Proper (do_while p s q e) = Proper s × Grouped e 6
  Proper (for_to p q x a b s) = Grouped a 6 × Grouped b 6 × Proper s
  Proper (break p q) = Unit {0}
  Proper (continue p q) = Unit {0}
  Proper (return p e q) = Grouped e 6
  Proper (return_bare p q) = Unit {0}

  pub Propers : Stmts → Type 0
  Propers nil = Unit {0}
  Propers (cons s ss) = Proper s × Propers ss

-- a script of the grammar
abbrev pub Grammatical : Script → Type 0
Grammatical s = Propers s.body

-- the depth of what begins at token k of a script
abbrev pub depth_at : Script → ℕ → ℕ
depth_at s k = slice_index (script_depths s) k

-- the lexemes are those of this script
pub record ReadsAs (ls : List Lexeme) (s : Script) : Type 0 where
  pub grammatical : Grammatical s
  pub lexemes : script_lexemes s ≡ ls

-- a script goes on from these lexemes
pub record GoesOn (ls : List Lexeme) (s : Script) : Type 0 where
  pub grammatical : Grammatical s
  pub rest : List Lexeme
  pub lexemes : script_lexemes s ≡ ls ++ rest

-- nothing before token k of the script begins at more than depth 32
abbrev pub ShallowBefore : ℕ → Script → Type 0
ShallowBefore k s = (j : ℕ) → j < k → depth_at s j ≤ 32

-- Accepted: the lexemes are those of a script in which nothing is deeper than 32.
pub record Accepted (ls : List Lexeme) (s : Script) : Type 0 where
  pub reads : ReadsAs ls s
  pub shallow : greatest (script_depths s) ≤ 32

-- Unexpected at token k: some script goes on from the tokens before it, nothing too deep among them, and no script of
-- any depth goes on from these and token k.
pub record Unexpected (ls : List Lexeme) (k : ℕ) : Type 0 where
  pub within : k < length ls
  pub script : Script
  pub before : GoesOn (take k ls) script
  pub shallow : ShallowBefore k script
  pub stops : (s : Script) → GoesOn (take (suc k) ls) s → ⊥

-- Ended early: some script goes on from all the tokens, nothing too deep among them, and none ends there.
pub record EndsEarly (ls : List Lexeme) : Type 0 where
  pub script : Script
  pub before : GoesOn ls script
  pub shallow : ShallowBefore (length ls) script
  pub unfinished : (s : Script) → ReadsAs ls s → ⊥

-- Too deep at token k: in some script that goes on from the tokens up to and with k, something at depth 33 begins at
-- token k, and nothing too deep before it.
pub record TooDeep (ls : List Lexeme) (k : ℕ) : Type 0 where
  pub within : k < length ls
  pub script : Script
  pub before : GoesOn (take (suc k) ls) script
  pub shallow : ShallowBefore k script
  pub deep : depth_at script k ≡ 33
