-- The code of a checked tree: which instructions, in which order, with which targets. Code is laid out for a position;
-- beside each layout stands the position after it.
use Rattle.std.proofs.Common.{ℕ, ◌+◌, Bool, true, false, cond, List, [], ◌∷◌, ◌++◌, ℤ, pos, Some, None, Option}
use Rattle.refusal.specs.Told.{Told, accepted, refused}
use Rattle.meaning.specs.declared.operator.Scalar.{Scalar}
use Rattle.meaning.specs.declared.operator.Scalar.TheVariants.{Bool as bool, Char as char, Int as int}
use Rattle.meaning.specs.declared.operator.Operator.{Operator}
use Rattle.meaning.specs.declared.operator.Operator.TheVariants.{Add, Subtract, Multiply, Divide, Remainder, Less, LessEqual, Greater, GreaterEqual, Equal, NotEqual, And, Or}
use Rattle.meaning.specs.Trees.{Constant, number, character, truth, Unary, negate, invert, Expr, constant, variable, call, bracket, unary, binary, Args, no_args, args, Exprs, last, more, Stmt, block, define, assign, modify, evaluate, if_then, if_else, while, do_while, for_to, break, continue, return, return_bare, Stmts, nil, cons, Item, extern, global, Script}
use Rattle.meaning.specs.Scopes.{Callee, zone, columns, rows, report, main, Names, level, stop, function, Meant, absent, a_variable, a_function, same_name, lookup, cells}
use Rattle.meaning.specs.Scopes
use Rattle.meaning.specs.Types.{operator_of, parameter_types, listed}
use Rattle.meaning.specs.Check.{Scope, type_of}
use Rattle.meaning.specs.Values.{Value, of_bool, of_char, of_int}
use Rattle.machine.specs.declared.instruction.Instruction.{Instruction}

-- an instruction: its code, its operand, and the place that it was made for
abbrev pub ins : ℕ → ℤ → ℕ → Instruction
ins c a p = record { code = pos c; operand = a; place = pos p }

-- a value as the machine holds it
abbrev pub held : Value → ℤ
held (of_bool b) = cond b (pos 1) (pos 0)
held (of_char c) = c
held (of_int n) = n

-- the cell of the variable that a name means: cells are taken in the order of definition
unfoldable pub cell_of : {X : Type 0} → List ℕ → Names X → ℕ
cell_of x [] = 0
cell_of x (level ∷ r) = cell_of x r
cell_of x (Scopes.variable y v ∷ r) = cond (same_name x y) (cells r) (cell_of x r)
cell_of x (stop v ∷ r) = cell_of x r
cell_of x (function f ∷ r) = cell_of x r

abbrev pub is_char : Told Scalar → Bool
is_char (accepted bool) = false
is_char (accepted char) = true
is_char (accepted int) = false
is_char (refused n p) = false

-- the low 8 bits are kept of a char's sum, difference, product and quotient
abbrev pub low : Bool → List ℕ
low true = 9 ∷ []
low false = []

-- the codes of an operator that takes both its operands from the stack; c tells whether they are chars
abbrev pub codes_of : Operator → Bool → List ℕ
codes_of Add c = 4 ∷ low c
codes_of Subtract c = 5 ∷ low c
codes_of Multiply c = 6 ∷ low c
codes_of Divide c = 7 ∷ low c
codes_of Remainder c = 8 ∷ []
codes_of Less c = 10 ∷ []
codes_of LessEqual c = 11 ∷ 13 ∷ []
codes_of Greater c = 11 ∷ []
codes_of GreaterEqual c = 10 ∷ 13 ∷ []
codes_of Equal c = 12 ∷ []
codes_of NotEqual c = 12 ∷ 13 ∷ []
codes_of And c = []
codes_of Or c = []

-- an operator whose right operand may be skipped
pub data Shape : Type 0 where
  strict both either : Shape

abbrev pub shape_of : Operator → Shape
shape_of Add = strict
shape_of Subtract = strict
shape_of Multiply = strict
shape_of Divide = strict
shape_of Remainder = strict
shape_of Less = strict
shape_of LessEqual = strict
shape_of Greater = strict
shape_of GreaterEqual = strict
shape_of Equal = strict
shape_of NotEqual = strict
shape_of And = both
shape_of Or = either

-- instructions with these codes, for one place
abbrev pub plainly : List ℕ → ℕ → List Instruction
plainly [] p = []
plainly (c ∷ cs) p = ins c (pos 0) p ∷ plainly cs p

-- the position after instructions with these codes
abbrev pub past : List ℕ → ℕ → ℕ
past [] o = o
past (c ∷ cs) o = past cs (o + 1)

-- the instruction of a called function
abbrev pub call_code : Meant Scalar → ℕ
call_code absent = 0
call_code (a_variable t) = 0
call_code (a_function zone) = 17
call_code (a_function columns) = 18
call_code (a_function rows) = 19
call_code (a_function report) = 20
call_code (a_function main) = 0

-- the position after an operator with its operands, by where the left operand ends and where a right one begun there ends
abbrev pub binary_end : Shape → List ℕ → (ℕ → ℕ) → ℕ → ℕ
binary_end strict cs right m = past cs (right m)
binary_end both cs right m = right (m + 1) + 1 + 1
binary_end either cs right m = right (m + 1 + 1 + 1)

abbrev pub unary_end : Unary → Bool → (ℕ → ℕ) → ℕ → ℕ
unary_end negate c operand o = past (5 ∷ low c) (operand (o + 1))
unary_end invert c operand o = operand o + 1

-- the position after the code of an expression
unfoldable mutual
  pub expr_end : Expr → Scope → ℕ → ℕ
  expr_end (constant c) Γ o = o + 1
  expr_end (variable x) Γ o = o + 1
  expr_end (call x q xs) Γ o = args_end xs Γ o + 1
  expr_end (bracket q e) Γ o = expr_end e Γ o
  expr_end (unary u p e) Γ o = unary_end u (is_char (type_of e Γ)) (λ m. expr_end e Γ m) o
  expr_end (binary f p a b) Γ o = binary_end (shape_of f) (codes_of f (is_char (type_of a Γ))) (λ m. expr_end b Γ m) (expr_end a Γ o)

  pub args_end : Args → Scope → ℕ → ℕ
  args_end no_args Γ o = o
  args_end (args es) Γ o = exprs_end es Γ o

  pub exprs_end : Exprs → Scope → ℕ → ℕ
  exprs_end (last e) Γ o = expr_end e Γ o
  exprs_end (more e p es) Γ o = exprs_end es Γ (expr_end e Γ o)

-- an operator: left, right, operation; `&&`: left, out to a false if it is 0, right, past the false, false; `||`: left,
-- on to right if it is 0, true, past right, right
abbrev pub binary_code : Shape → List ℕ → ℕ → List Instruction → (ℕ → List Instruction) → (ℕ → ℕ) → ℕ → List Instruction
binary_code strict cs p left right end m = left ++ (right m ++ plainly cs p)
binary_code both cs p left right end m =
    left ++ (ins 15 (pos (end (m + 1) + 1)) p ∷ (right (m + 1) ++ (ins 14 (pos (end (m + 1) + 1 + 1)) p ∷ ins 0 (pos 0) p ∷ [])))
binary_code either cs p left right end m =
    left ++ (ins 15 (pos (m + 1 + 1 + 1)) p ∷ ins 0 (pos 1) p ∷ ins 14 (pos (end (m + 1 + 1 + 1))) p ∷ right (m + 1 + 1 + 1))

abbrev pub unary_code : Unary → Bool → ℕ → (ℕ → List Instruction) → ℕ → List Instruction
unary_code negate c p operand o = ins 0 (pos 0) p ∷ (operand (o + 1) ++ plainly (5 ∷ low c) p)
unary_code invert c p operand o = operand o ++ (ins 13 (pos 0) p ∷ [])

abbrev pub literal_code : Constant → Instruction
literal_code (number v p) = ins 0 (held (of_int v)) p
literal_code (character v p) = ins 0 (held (of_char v)) p
literal_code (truth b p) = ins 0 (held (of_bool b)) p

unfoldable mutual
  pub expr_code : Expr → Scope → ℕ → List Instruction
  expr_code (constant c) Γ o = literal_code c ∷ []
  expr_code (variable x) Γ o = ins 1 (pos (cell_of x.bytes Γ)) x.place ∷ []
  expr_code (call x q xs) Γ o = args_code xs Γ o ++ (ins (call_code (lookup x.bytes Γ)) (pos 0) x.place ∷ [])
  expr_code (bracket q e) Γ o = expr_code e Γ o
  expr_code (unary u p e) Γ o = unary_code u (is_char (type_of e Γ)) p (λ m. expr_code e Γ m) o
  expr_code (binary f p a b) Γ o =
      binary_code (shape_of f) (codes_of f (is_char (type_of a Γ))) p (expr_code a Γ o) (λ m. expr_code b Γ m) (λ m. expr_end b Γ m) (expr_end a Γ o)

  pub args_code : Args → Scope → ℕ → List Instruction
  args_code no_args Γ o = []
  args_code (args es) Γ o = exprs_code es Γ o

  pub exprs_code : Exprs → Scope → ℕ → List Instruction
  exprs_code (last e) Γ o = expr_code e Γ o
  exprs_code (more e p es) Γ o = expr_code e Γ o ++ exprs_code es Γ (expr_end e Γ o)

-- Whether a whole expression statement is a call that leaves no value.
abbrev pub gives_nothing : Meant Scalar → Bool
gives_nothing absent = false
gives_nothing (a_variable t) = false
gives_nothing (a_function zone) = false
gives_nothing (a_function columns) = false
gives_nothing (a_function rows) = false
gives_nothing (a_function report) = true
gives_nothing (a_function main) = false

abbrev pub leaves_nothing : Expr → Scope → Bool
leaves_nothing (constant c) Γ = false
leaves_nothing (variable x) Γ = false
leaves_nothing (call x q xs) Γ = gives_nothing (lookup x.bytes Γ)
leaves_nothing (bracket q e) Γ = false
leaves_nothing (unary u p e) Γ = false
leaves_nothing (binary f p a b) Γ = false

abbrev pub drop_end : Bool → ℕ → ℕ
drop_end true o = o
drop_end false o = o + 1

-- the value of an expression statement is dropped
abbrev pub drop_code : Bool → ℕ → List Instruction
drop_code true p = []
drop_code false p = ins 3 (pos 0) p ∷ []

-- the names in force after a statement
unfoldable pub scope_after : Stmt → Scope → Scope
scope_after (block q ss) Γ = Γ
scope_after (define t q x e) Γ = Scopes.variable x.bytes t ∷ Γ
scope_after (assign x p e q) Γ = Γ
scope_after (modify m x p e q) Γ = Γ
scope_after (evaluate e q) Γ = Γ
scope_after (if_then p q e s) Γ = Γ
scope_after (if_else p q e s o t) Γ = Γ
scope_after (while p q e s) Γ = Γ
scope_after (do_while p s q e) Γ = Γ
scope_after (for_to p q x a b s) Γ = Γ
scope_after (break p q) Γ = Γ
scope_after (continue p q) Γ = Γ
scope_after (return p e q) Γ = Γ
scope_after (return_bare p q) Γ = Γ

-- the names of an open `for`
abbrev pub for_scope : List ℕ → Scope → Scope
for_scope x Γ = stop int ∷ Scopes.variable x int ∷ level ∷ Γ

-- the position after the code of a statement
unfoldable mutual
  pub stmt_end : Stmt → Scope → ℕ → ℕ
  stmt_end (block q ss) Γ o = stmts_end ss (level ∷ Γ) o
  stmt_end (define t q x e) Γ o = expr_end e Γ o + 1
  stmt_end (assign x p e q) Γ o = expr_end e Γ o + 1
  stmt_end (modify m x p e q) Γ o = expr_end (binary (operator_of m) p (variable x) e) Γ o + 1
  stmt_end (evaluate e q) Γ o = drop_end (leaves_nothing e Γ) (expr_end e Γ o)
  stmt_end (if_then p q e s) Γ o = stmt_end s (level ∷ Γ) (expr_end e Γ o + 1)
  stmt_end (if_else p q e s m t) Γ o = stmt_end t (level ∷ Γ) (stmt_end s (level ∷ Γ) (expr_end e Γ o + 1) + 1)
  stmt_end (while p q e s) Γ o = stmt_end s (level ∷ Γ) (expr_end e Γ (o + 1) + 1) + 1
  stmt_end (do_while p s q e) Γ o = expr_end e Γ (stmt_end s (level ∷ Γ) (o + 1)) + 1 + 1
  stmt_end (for_to p q x a b s) Γ o =
      stmt_end s (level ∷ for_scope x.bytes Γ) (expr_end b Γ (expr_end a Γ o) + 1 + 1 + 1 + 1 + 1 + 1 + 1) + 1 + 1 + 1 + 1 + 1
  stmt_end (break p q) Γ o = o + 1
  stmt_end (continue p q) Γ o = o + 1
  stmt_end (return p e q) Γ o = expr_end e Γ o + 1
  stmt_end (return_bare p q) Γ o = o

  pub stmts_end : Stmts → Scope → ℕ → ℕ
  stmts_end nil Γ o = o
  stmts_end (cons s ss) Γ o = stmts_end ss (scope_after s Γ) (stmt_end s Γ o)

-- The code of a statement for the position o; `break` goes to k, `continue` to c. Every jump back lands on a tick.
unfoldable mutual
  pub stmt_code : Stmt → Scope → (o k c : ℕ) → List Instruction
  stmt_code (block q ss) Γ o k c = stmts_code ss (level ∷ Γ) o k c
  stmt_code (define t q x e) Γ o k c = expr_code e Γ o ++ (ins 2 (pos (cells Γ)) x.place ∷ [])
  stmt_code (assign x p e q) Γ o k c = expr_code e Γ o ++ (ins 2 (pos (cell_of x.bytes Γ)) p ∷ [])
  stmt_code (modify m x p e q) Γ o k c =
      expr_code (binary (operator_of m) p (variable x) e) Γ o ++ (ins 2 (pos (cell_of x.bytes Γ)) p ∷ [])
  stmt_code (evaluate e q) Γ o k c = expr_code e Γ o ++ drop_code (leaves_nothing e Γ) q
  stmt_code (if_then p q e s) Γ o k c =
      let m = expr_end e Γ o in
      expr_code e Γ o ++ (ins 15 (pos (stmt_end s (level ∷ Γ) (m + 1))) p ∷ stmt_code s (level ∷ Γ) (m + 1) k c)
  stmt_code (if_else p q e s r t) Γ o k c =
      let m = expr_end e Γ o in
      let n = stmt_end s (level ∷ Γ) (m + 1) in
      expr_code e Γ o ++ (ins 15 (pos (n + 1)) p ∷ (stmt_code s (level ∷ Γ) (m + 1) k c
      ++ (ins 14 (pos (stmt_end t (level ∷ Γ) (n + 1))) p ∷ stmt_code t (level ∷ Γ) (n + 1) k c)))
  stmt_code (while p q e s) Γ o k c =
      let m = expr_end e Γ (o + 1) in
      let n = stmt_end s (level ∷ Γ) (m + 1) in
      ins 16 (pos 0) p ∷ (expr_code e Γ (o + 1) ++ (ins 15 (pos (n + 1)) p ∷ (stmt_code s (level ∷ Γ) (m + 1) (n + 1) o ++ (ins 14 (pos o) p ∷ []))))
  stmt_code (do_while p s q e) Γ o k c =
      let m = stmt_end s (level ∷ Γ) (o + 1) in
      let n = expr_end e Γ m in
      ins 16 (pos 0) p ∷ (stmt_code s (level ∷ Γ) (o + 1) (n + 1 + 1) m ++ (expr_code e Γ m ++ (ins 15 (pos (n + 1 + 1)) p ∷ ins 14 (pos o) p ∷ [])))
  stmt_code (for_to p q x a b s) Γ o k c =
      let v = cells Γ in
      let t = expr_end b Γ (expr_end a Γ o) + 1 + 1 in
      let m = t + 1 + 1 + 1 + 1 + 1 in
      let n = stmt_end s (level ∷ for_scope x.bytes Γ) m in
      let z = n + 1 + 1 + 1 + 1 + 1 in
      expr_code a Γ o ++ (expr_code b Γ (expr_end a Γ o) ++ (ins 2 (pos (v + 1)) x.place ∷ ins 2 (pos v) x.place
      ∷ ins 16 (pos 0) p ∷ ins 1 (pos v) p ∷ ins 1 (pos (v + 1)) p ∷ ins 10 (pos 0) p ∷ ins 15 (pos z) p
      ∷ (stmt_code s (level ∷ for_scope x.bytes Γ) m z n
      ++ (ins 1 (pos v) p ∷ ins 0 (pos 1) p ∷ ins 4 (pos 0) p ∷ ins 2 (pos v) p ∷ ins 14 (pos t) p ∷ []))))
  stmt_code (break p q) Γ o k c = ins 14 (pos k) p ∷ []
  stmt_code (continue p q) Γ o k c = ins 14 (pos c) p ∷ []
  stmt_code (return p e q) Γ o k c = expr_code e Γ o ++ (ins 21 (pos 0) p ∷ [])
  stmt_code (return_bare p q) Γ o k c = []

  pub stmts_code : Stmts → Scope → (o k c : ℕ) → List Instruction
  stmts_code nil Γ o k c = []
  stmts_code (cons s ss) Γ o k c = stmt_code s Γ o k c ++ stmts_code ss (scope_after s Γ) (stmt_end s Γ o) k c

-- externs have no code, globals push their constant and store it

abbrev pub scope_listed : Option Callee → Scope → Scope
scope_listed None Γ = Γ
scope_listed (Some f) Γ = function f ∷ Γ

unfoldable pub items_scope : List Item → Scope → Scope
items_scope [] Γ = Γ
items_scope (extern q t x a ∷ is) Γ = items_scope is (scope_listed (listed x.bytes t (parameter_types a)) Γ)
items_scope (global s q t x c ∷ is) Γ = items_scope is (Scopes.variable x.bytes t ∷ Γ)

unfoldable pub items_end : List Item → ℕ → ℕ
items_end [] o = o
items_end (extern q t x a ∷ is) o = items_end is o
items_end (global s q t x c ∷ is) o = items_end is (o + 1 + 1)

unfoldable pub items_code : List Item → Scope → List Instruction
items_code [] Γ = []
items_code (extern q t x a ∷ is) Γ = items_code is (scope_listed (listed x.bytes t (parameter_types a)) Γ)
items_code (global s q t x c ∷ is) Γ =
    literal_code c ∷ ins 2 (pos (cells Γ)) x.place ∷ items_code is (Scopes.variable x.bytes t ∷ Γ)

-- the names in main's braces
abbrev pub main_scope : Script → Scope
main_scope s = level ∷ function main ∷ level ∷ items_scope s.items (level ∷ [])

unfoldable pub script_code : Script → List Instruction
script_code s =
    let o = items_end s.items 0 in
    items_code s.items (level ∷ []) ++ (stmts_code s.body (main_scope s) o 0 0 ++ (ins 0 (pos 0) s.close ∷ ins 21 (pos 0) s.close ∷ []))
