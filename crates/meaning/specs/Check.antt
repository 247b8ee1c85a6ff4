-- The check of names and types: a script is fine, or has a first fault, in the order of the source, parts before the
-- whole, with number and place: 11 an extern that is not listed, 12 a name defined twice in a level, 13 an absent name,
-- 14 a function used as a variable or a variable or main called, 15 types or arguments that do not fit, 16 `break` or
-- `continue` outside loops, 17 the 65th cell.
use Rattle.std.specs.Prelude.{ℕ, ◌+◌, Bool, true, false, cond, ◌&&◌, List, [], ◌∷◌, Some, None, Option, nat_le}
use Rattle.refusal.specs.Told.{Told, accepted, refused}
use Rattle.meaning.specs.declared.operator.Scalar.{Scalar}
use Rattle.meaning.specs.declared.operator.Scalar.TheVariants.{Bool as bool, Int as int}
use Rattle.meaning.specs.Trees.{Ident, Expr, constant, variable, call, bracket, unary, binary, Args, no_args, args, Exprs, last, more, Stmt, block, define, assign, modify, evaluate, if_then, if_else, while, do_while, for_to, break, continue, return, return_bare, Stmts, nil, cons, Return, void, gives, Item, extern, global, Script}
use Rattle.meaning.specs.Scopes.{Callee, zone, columns, rows, report, main, Names, Entry, level, stop, function, Meant, absent, a_variable, a_function, lookup, defined_here, cells}
use Rattle.meaning.specs.Scopes
use Rattle.meaning.specs.Types.{same_type, same_types, result_of, unary_result, constant_type, operator_of, signature, parameter_types, listed}

-- the names in force with their types
abbrev pub Scope : Type 0
Scope = Names Scalar

-- one check after another: the first fault stands
unfoldable pub then : {X Y : Type 0} → Told X → (X → Told Y) → Told Y
then (accepted x) f = f x
then (refused n p) f = refused n p

-- a fault n at p where a test fails
unfoldable pub needs : Bool → (number place : ℕ) → Told (Unit {0})
needs true n p = accepted tt
needs false n p = refused n p

-- a fault n at p where there is nothing
unfoldable pub there : {X : Type 0} → Option X → (number place : ℕ) → Told X
there (Some x) n p = accepted x
there None n p = refused n p

-- the type of the variable that a name means
unfoldable pub as_variable : Meant Scalar → (place : ℕ) → Told Scalar
as_variable absent p = refused 13 p
as_variable (a_variable t) p = accepted t
as_variable (a_function f) p = refused 14 p

-- the function that a called name means; main is not called
unfoldable pub as_callee : Meant Scalar → (place : ℕ) → Told Callee
as_callee absent p = refused 13 p
as_callee (a_variable t) p = refused 14 p
as_callee (a_function zone) p = accepted zone
as_callee (a_function columns) p = accepted columns
as_callee (a_function rows) p = accepted rows
as_callee (a_function report) p = accepted report
as_callee (a_function main) p = refused 14 p

-- what a call gives: the name first, then the arguments, then whether these fit
unfoldable pub called : Scope → Ident → Told (List Scalar) → Told Return
called Γ x given =
    then (as_callee (lookup x.bytes Γ) x.place) (λ f. then given (λ ts.
    then (needs (same_types ts (signature f).parameters) 15 x.place) (λ _. accepted (signature f).result)))

-- a call that has to give a value
unfoldable pub value : Return → (place : ℕ) → Told Scalar
value void p = refused 15 p
value (gives t) p = accepted t

-- the type of an expression
unfoldable mutual
  pub type_of : Expr → Scope → Told Scalar
  type_of (constant c) Γ = accepted (constant_type c)
  type_of (variable x) Γ = as_variable (lookup x.bytes Γ) x.place
  type_of (call x q xs) Γ = then (called Γ x (arg_types xs Γ)) (λ r. value r x.place)
  type_of (bracket q e) Γ = type_of e Γ
  type_of (unary u p e) Γ = then (type_of e Γ) (λ t. there (unary_result u t) 15 p)
  type_of (binary o p a b) Γ = then (type_of a Γ) (λ s. then (type_of b Γ) (λ t. there (result_of o s t) 15 p))

  pub arg_types : Args → Scope → Told (List Scalar)
  arg_types no_args Γ = accepted []
  arg_types (args es) Γ = expr_types es Γ

  pub expr_types : Exprs → Scope → Told (List Scalar)
  expr_types (last e) Γ = then (type_of e Γ) (λ t. accepted (t ∷ []))
  expr_types (more e p es) Γ = then (type_of e Γ) (λ t. then (expr_types es Γ) (λ ts. accepted (t ∷ ts)))

-- an expression of a type, else 15 at p
unfoldable pub needs_type : Expr → Scope → Scalar → (place : ℕ) → Told (Unit {0})
needs_type e Γ t p = then (type_of e Γ) (λ s. needs (same_type s t) 15 p)

-- a whole expression statement: only here a call may give nothing
unfoldable pub check_whole : Expr → Scope → Told (Unit {0})
check_whole (constant c) Γ = accepted tt
check_whole (variable x) Γ = then (type_of (variable x) Γ) (λ _. accepted tt)
check_whole (call x q xs) Γ = then (called Γ x (arg_types xs Γ)) (λ _. accepted tt)
check_whole (bracket q e) Γ = then (type_of e Γ) (λ _. accepted tt)
check_whole (unary u p e) Γ = then (type_of (unary u p e) Γ) (λ _. accepted tt)
check_whole (binary o p a b) Γ = then (type_of (binary o p a b) Γ) (λ _. accepted tt)

-- room for n more cells, of 64
unfoldable pub room : ℕ → Scope → Bool
room n Γ = nat_le (cells Γ + n) 64

-- a new variable, after its initializer's type: 12, then 17
unfoldable pub defined : Ident → Scalar → Scope → Told Scope
defined x t Γ =
    then (needs (cond (defined_here x.bytes Γ) false true) 12 x.place) (λ _.
    then (needs (room 1 Γ) 17 x.place) (λ _. accepted (Scopes.variable x.bytes t ∷ Γ)))

-- The names in force after a statement, or its first fault; `in_loop` tells whether a loop is around it.
unfoldable mutual
  pub check_stmt : Stmt → (in_loop : Bool) → Scope → Told Scope
  check_stmt (block q ss) l Γ = then (check_stmts ss l (level ∷ Γ)) (λ _. accepted Γ)
  check_stmt (define t q x e) l Γ = then (needs_type e Γ t x.place) (λ _. defined x t Γ)
  check_stmt (assign x p e q) l Γ =
      then (as_variable (lookup x.bytes Γ) x.place) (λ t. then (needs_type e Γ t p) (λ _. accepted Γ))
  check_stmt (modify m x p e q) l Γ =
      then (as_variable (lookup x.bytes Γ) x.place) (λ t. then (type_of e Γ) (λ s.
      then (there (result_of (operator_of m) t s) 15 p) (λ _. accepted Γ)))
  check_stmt (evaluate e q) l Γ = then (check_whole e Γ) (λ _. accepted Γ)
  check_stmt (if_then p q e s) l Γ = then (needs_type e Γ bool p) (λ _. then (check_stmt s l (level ∷ Γ)) (λ _. accepted Γ))
  check_stmt (if_else p q e s o t) l Γ =
      then (needs_type e Γ bool p) (λ _. then (check_stmt s l (level ∷ Γ)) (λ _. then (check_stmt t l (level ∷ Γ)) (λ _. accepted Γ)))
  check_stmt (while p q e s) l Γ = then (needs_type e Γ bool p) (λ _. then (check_stmt s true (level ∷ Γ)) (λ _. accepted Γ))
  check_stmt (do_while p s q e) l Γ = then (check_stmt s true (level ∷ Γ)) (λ _. then (needs_type e Γ bool p) (λ _. accepted Γ))
  check_stmt (for_to p q x a b s) l Γ =
      then (type_of a Γ) (λ t. then (type_of b Γ) (λ u. then (needs (same_type t int && same_type u int) 15 p) (λ _.
      then (needs (room 2 Γ) 17 x.place) (λ _.
      then (check_stmt s true (level ∷ stop int ∷ Scopes.variable x.bytes int ∷ level ∷ Γ)) (λ _. accepted Γ)))))
  check_stmt (break p q) l Γ = then (needs l 16 p) (λ _. accepted Γ)
  check_stmt (continue p q) l Γ = then (needs l 16 p) (λ _. accepted Γ)
  check_stmt (return p e q) l Γ = then (needs_type e Γ int p) (λ _. accepted Γ)
  check_stmt (return_bare p q) l Γ = refused 15 p

  pub check_stmts : Stmts → (in_loop : Bool) → Scope → Told Scope
  check_stmts nil l Γ = accepted Γ
  check_stmts (cons s ss) l Γ = then (check_stmt s l Γ) (λ Δ. check_stmts ss l Δ)

-- an extern: 11, then 12
unfoldable pub declared : Ident → Option Callee → Scope → Told Scope
declared x None Γ = refused 11 x.place
declared x (Some f) Γ = then (needs (cond (defined_here x.bytes Γ) false true) 12 x.place) (λ _. accepted (function f ∷ Γ))

-- an extern or a global, and the names in force after it
unfoldable pub check_item : Item → Scope → Told Scope
check_item (extern q t x a) Γ = declared x (listed x.bytes t (parameter_types a)) Γ
check_item (global s q t x c) Γ = then (needs (same_type (constant_type c) t) 15 x.place) (λ _. defined x t Γ)

-- externs and globals, one after another
unfoldable pub check_items : List Item → Scope → Told Scope
check_items [] Γ = accepted Γ
check_items (i ∷ is) Γ = then (check_item i Γ) (λ Δ. check_items is Δ)

-- The levels: externs and globals; main; main's braces.
unfoldable pub check_script : Script → Told (Unit {0})
check_script s =
    then (check_items s.items (level ∷ [])) (λ Γ.
    then (check_stmts s.body false (level ∷ function main ∷ level ∷ Γ)) (λ _. accepted tt))
