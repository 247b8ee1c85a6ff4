-- The check, step by step.
use Rattle.std.proofs.Common.{◌≡◌, ℕ, suc, ◌<◌, ◌≤◌, Bool, true, false, cond, List, [], ◌∷◌, sym, refl, ◌∙◌, arith}
use Rattle.std.proofs.lemmas.Bool.Decides.{nat_tests}
use Rattle.refusal.specs.Told.{Told, accepted, refused}
use Rattle.meaning.specs.declared.operator.Scalar.{Scalar}
use Rattle.meaning.specs.Scopes.{level, stop, function, same_name, cells}
use Rattle.meaning.specs.Scopes as Scopes
use Rattle.meaning.specs.Trees.{Ident, Expr, Stmt, block, define, assign, modify, evaluate, if_then, if_else, while, do_while, for_to, break, continue, return, return_bare}
use Rattle.meaning.specs.Types.{same_type}
use Rattle.meaning.specs.Check.{Scope, then, needs, room, type_of, needs_type, defined, check_stmt}
use Rattle.meaning.proofs.Sound.{then_passed, needs_passed, kept, defined-leave, refused_accepted}
use Rattle.layout.proofs.Compiled.{cell_of, scope_after}

pub then_stops : {X Y : Type 0} (a : Told X) (f : X → Told Y) (n p : ℕ) → a ≡ refused n p → then a f ≡ refused n p
unfolding then
then_stops a f n p e = rw e refl

pub then-goes : {X Y : Type 0} (a : Told X) (f : X → Told Y) (x : X) → a ≡ accepted x → then a f ≡ f x
unfolding then
then-goes a f x e = rw e refl

pub needs_met : (b : Bool) (n p : ℕ) → b ≡ true → needs b n p ≡ accepted tt
unfolding needs
needs_met b n p e = rw e refl

pub needs_unmet : (b : Bool) (n p : ℕ) → b ≡ false → needs b n p ≡ refused n p
unfolding needs
needs_unmet b n p e = rw e refl

-- An expression that has to be of a type.

module _ (e : Expr) (Γ : Scope) (t : Scalar) (p : ℕ) where
  pub need_met : (k : Scalar) → type_of e Γ ≡ accepted k → same_type k t ≡ true → needs_type e Γ t p ≡ accepted tt
  unfolding needs_type
  need_met k h g = then-goes (type_of e Γ) _ k h ∙ needs_met (same_type k t) 15 p g

  pub need_unmet : (k : Scalar) → type_of e Γ ≡ accepted k → same_type k t ≡ false → needs_type e Γ t p ≡ refused 15 p
  unfolding needs_type
  need_unmet k h g = then-goes (type_of e Γ) _ k h ∙ needs_unmet (same_type k t) 15 p g

  pub need_fails : (n q : ℕ) → type_of e Γ ≡ refused n q → needs_type e Γ t p ≡ refused n q
  unfolding needs_type
  need_fails n q h = then_stops (type_of e Γ) _ n q h

-- a variable's cell is one of those in use
pub cell_low : (x : List ℕ) (Γ : Scope) → cell_of x Γ ≤ cells Γ
unfolding cell_of cells
cell_low x [] = omega arith
cell_low x (level ∷ r) = cell_low x r
cell_low x (Scopes.variable y v ∷ r) =
    let i = cell_low x r in
    elim (same_name x y) as (λ b. cond b (cells r) (cell_of x r) ≤ suc (cells r)) [ true ↦ omega arith | false ↦ omega arith ]
cell_low x (stop v ∷ r) = let i = cell_low x r in omega arith
cell_low x (function f ∷ r) = cell_low x r

-- a level has no cell
pub level_cells : (Γ : Scope) → cells (level ∷ Γ) ≡ cells Γ
unfolding cells
level_cells Γ = refl

-- a new variable has a cell
defined-room : (x : Ident) (t : Scalar) (Γ Δ : Scope) → defined x t Γ ≡ accepted Δ → cells Γ < 64
unfolding defined room
defined-room x t Γ Δ h =
    let i = then_passed _ _ Δ h in
    let j = then_passed _ _ Δ i.2 in
    let r = needs_passed _ _ _ j.0 j.1 in grind (arith, nat_tests)

-- the check and the code agree on the names after a statement
pub scope_is : (s : Stmt) (l : Bool) (Γ Δ : Scope) → check_stmt s l Γ ≡ accepted Δ → Δ ≡ scope_after s Γ
unfolding check_stmt scope_after
scope_is (block q ss) l Γ Δ h = sym (kept _ Γ Δ h)
scope_is (define t q x e) l Γ Δ h = let i = then_passed _ _ Δ h in (defined-leave x t Γ Δ i.2).0
scope_is (assign x p e q) l Γ Δ h = let i = then_passed _ _ Δ h in sym (kept _ Γ Δ i.2)
scope_is (modify m x p e q) l Γ Δ h = let i = then_passed _ _ Δ h in let j = then_passed _ _ Δ i.2 in sym (kept _ Γ Δ j.2)
scope_is (evaluate e q) l Γ Δ h = sym (kept _ Γ Δ h)
scope_is (if_then p q e s) l Γ Δ h = let i = then_passed _ _ Δ h in sym (kept _ Γ Δ i.2)
scope_is (if_else p q e s o t) l Γ Δ h = let i = then_passed _ _ Δ h in let j = then_passed _ _ Δ i.2 in sym (kept _ Γ Δ j.2)
scope_is (while p q e s) l Γ Δ h = let i = then_passed _ _ Δ h in sym (kept _ Γ Δ i.2)
scope_is (do_while p s q e) l Γ Δ h = let i = then_passed _ _ Δ h in sym (kept _ Γ Δ i.2)
scope_is (for_to p q x a b s) l Γ Δ h =
    let i = then_passed _ _ Δ h in
    let j = then_passed _ _ Δ i.2 in
    let m = then_passed _ _ Δ j.2 in
    let n = then_passed _ _ Δ m.2 in
    sym (kept _ Γ Δ n.2)
scope_is (break p q) l Γ Δ h = sym (kept _ Γ Δ h)
scope_is (continue p q) l Γ Δ h = sym (kept _ Γ Δ h)
scope_is (return p e q) l Γ Δ h = sym (kept _ Γ Δ h)
scope_is (return_bare p q) l Γ Δ h = refused_accepted h

-- no statement takes more than 64 cells
few_after : (s : Stmt) (l : Bool) (Γ Δ : Scope) → check_stmt s l Γ ≡ accepted Δ → cells Γ ≤ 64 → cells (scope_after s Γ) ≤ 64
unfolding check_stmt scope_after cells
few_after (block q ss) l Γ Δ h f = f
few_after (define t q x e) l Γ Δ h f = let i = then_passed _ _ Δ h in let g = defined-room x t Γ Δ i.2 in omega arith
few_after (assign x p e q) l Γ Δ h f = f
few_after (modify m x p e q) l Γ Δ h f = f
few_after (evaluate e q) l Γ Δ h f = f
few_after (if_then p q e s) l Γ Δ h f = f
few_after (if_else p q e s o t) l Γ Δ h f = f
few_after (while p q e s) l Γ Δ h f = f
few_after (do_while p s q e) l Γ Δ h f = f
few_after (for_to p q x a b s) l Γ Δ h f = f
few_after (break p q) l Γ Δ h f = f
few_after (continue p q) l Γ Δ h f = f
few_after (return p e q) l Γ Δ h f = f
few_after (return_bare p q) l Γ Δ h f = f

pub few_still : (s : Stmt) (l : Bool) (Γ Δ : Scope) → check_stmt s l Γ ≡ accepted Δ → cells Γ ≤ 64 → cells Δ ≤ 64
few_still s l Γ Δ h f = rw (scope_is s l Γ Δ h) (few_after s l Γ Δ h f)
