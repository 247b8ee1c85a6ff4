-- Every step of any code comes nearer to the end of the run.
use Rattle.std.proofs.Common.{◌≡◌, ℕ, zero, suc, ◌+◌, ◌-◌, ◌*◌, ◌<◌, ◌≤◌, Bool, true, false, cond, ◌||◌, ltb, List, [], ◌∷◌, length, ℤ, pos, negsuc, Some, None, Option, sym, refl, ap, ◌∙◌, arith, ltb-true}
use Rattle.std.specs.List.{slice_get}
use Rattle.std.proofs.lemmas.Bool.Decides.{nat_tests}
use Rattle.boards.specs.Meaning.{Meaning}
use Rattle.ints.specs.Arith.{is_zero, equal_z}
use Rattle.machine.specs.declared.instruction.Instruction.{Instruction}
use Rattle.machine.specs.Codes.{Operation, plain, ask, jump, jump_if_zero, tick, unknown, decode, operation_of, is_tick}
use Rattle.machine.specs.Operations.{Store, How, goes, ends, waits, breaks, exec, answer}
use Rattle.machine.specs.Steps.{State, at, Next, go, stop, wait, break, go_to, moved, jumped, branched, ticked, performed, fetched, step}

-- at a tick nothing is to come before the tick is spent
abbrev gap : Bool → ℕ → ℕ
gap t d = cond t 0 d

-- a bound of the instructions that are to come: all of the code for each tick that is left, and the code from here on
pub rest : List Instruction → State → ℕ
rest code u = u.left * length code + gap (is_tick (slice_get code u.position)) (length code - u.position)

gap_le : (t : Bool) (d : ℕ) → gap t d ≤ d
gap_le true d = omega arith
gap_le false d = omega arith

pub rest_least : (code : List Instruction) (u : State) → u.left * length code ≤ rest code u
unfolding rest
rest_least code u = omega arith

pub rest_most : (code : List Instruction) (u : State) → rest code u ≤ u.left * length code + (length code - u.position)
unfolding rest
rest_most code u = omega (arith, gap_le (is_tick (slice_get code u.position)) (length code - u.position))

rest_off : (code : List Instruction) (u : State) → is_tick (slice_get code u.position) ≡ false → rest code u ≡ u.left * length code + (length code - u.position)
unfolding rest
rest_off code u e = rw e

rest_on : (code : List Instruction) (u : State) → is_tick (slice_get code u.position) ≡ true → rest code u ≡ u.left * length code
unfolding rest
rest_on code u e = rw e (omega arith)

pub inside : (code : List Instruction) (k : ℕ) (i : Instruction) → slice_get code k ≡ Some i → k < length code
inside [] k i e = let z : ◌≡◌ {A = ℕ} 0 1 = cc in omega arith
inside (x ∷ code) zero i e = omega arith
inside (x ∷ code) (suc k) i e = omega (arith, inside code k i e)

suc_times : (a b : ℕ) → suc a * b ≡ a * b + b
suc_times a b = omega arith

-- where a tick stands, a tick is decoded
tick_decoded : (z a : ℤ) → equal_z z (pos 16) ≡ true → decode z a ≡ tick
tick_decoded (pos n) a e =
    let is : n ≡ 16 = grind (arith, nat_tests) in
    ap (λ k. decode (pos k) a) is
tick_decoded (negsuc n) a e = let z : ◌≡◌ {A = ℕ} 0 1 = cc in let b : ⊥ = omega arith in absurd b

not_true : (t : Bool) → (t ≡ true → ⊥) → t ≡ false
not_true true f = absurd (f refl)
not_true false f = refl

not_tick : (i : Instruction) (o : Operation) → operation_of i ≡ o → (o ≡ tick → ⊥) → is_tick (Some i) ≡ false
not_tick i o e f = not_true (equal_z i.code (pos 16)) (λ t. f (sym e ∙ tick_decoded i.code i.operand t))

-- what falls in one step, and that ticks are only spent
abbrev pub Falls : List Instruction → State → Next → Type 0
Falls code u (go v) = (rest code v < rest code u) × (v.left ≤ u.left)
Falls code u (stop e v) = (v.left * length code < rest code u) × (v.left ≤ u.left)
Falls code u (wait v) = (v.left * length code ≤ rest code u) × (v.left ≤ u.left)
Falls code u (break v) = (v.left * length code ≤ rest code u) × (v.left ≤ u.left)

module _ (code : List Instruction) (u : State) where
  break_falls : (v : State) → v.left ≡ u.left → Falls code u (break v)
  break_falls v e = (rw e (rest_least code u), omega (arith, e))

  -- at an instruction that is no tick
  module _ (i : Instruction) (here : slice_get code u.position ≡ Some i) (other : is_tick (Some i) ≡ false) where
    rest_here : rest code u ≡ u.left * length code + (length code - u.position)
    rest_here = rest_off code u (ap is_tick here ∙ other)

    ahead_falls : (v : State) → u.position < v.position → v.left ≡ u.left → Falls code u (go v)
    ahead_falls v l e =
        let h = rest_here in
        let m = rest_most code v in
        let n = inside code u.position i here in
        let k : v.left * length code ≡ u.left * length code = ap (λ (x : ℕ). x * length code) e in
        (omega arith, omega (arith, e))

    onto_falls : (v : State) → is_tick (slice_get code v.position) ≡ true → v.left ≡ u.left → Falls code u (go v)
    onto_falls v t e =
        let h = rest_here in
        let m = rest_on code v t in
        let n = inside code u.position i here in
        let k : v.left * length code ≡ u.left * length code = ap (λ (x : ℕ). x * length code) e in
        (omega arith, omega (arith, e))

    moved_falls : (h : How) (m : Store) (b : Meaning) → Falls code u (moved h u m b)
    moved_falls goes m b = ahead_falls (at m (u.position + 1) u.left b) (omega arith) refl
    moved_falls (ends e) m b =
        let h = rest_here in
        let n = inside code u.position i here in
        (omega arith, omega arith)
    moved_falls waits m b = (rest_least code u, omega arith)
    moved_falls breaks m b = (rest_least code u, omega arith)

    landed_falls : (t : ℕ) (s : List ℤ) (y z : Bool) → ltb u.position t ≡ y → is_tick (slice_get code t) ≡ z → Falls code u (cond (y || z) (go (go_to u s t)) (break u))
    landed_falls t s true z e f = ahead_falls (go_to u s t) (ltb-true u.position t e) refl
    landed_falls t s false true e f = onto_falls (go_to u s t) f refl
    landed_falls t s false false e f = break_falls u refl

    jumped_falls : (a : ℤ) (s : List ℤ) → Falls code u (jumped code a s u)
    jumped_falls (pos t) s = landed_falls t s (ltb u.position t) (is_tick (slice_get code t)) refl refl
    jumped_falls (negsuc t) s = break_falls u refl

    cond_falls : (y : Bool) (p q : Next) → Falls code u p → Falls code u q → Falls code u (cond y p q)
    cond_falls true p q x y = x
    cond_falls false p q x y = y

    branched_falls : (a : ℤ) (s : List ℤ) → Falls code u (branched code a s u)
    branched_falls a [] = break_falls u refl
    branched_falls a (v ∷ s) =
        cond_falls (is_zero v) (jumped code a s u) (go (go_to u s (u.position + 1))) (jumped_falls a s) (ahead_falls (go_to u s (u.position + 1)) (omega arith) refl)

  ticked_falls : (l : ℕ) → u.left ≡ l → u.position < length code → Falls code u (ticked l u)
  ticked_falls zero e n = break_falls u refl
  ticked_falls (suc l) e n =
      let v : State = at u.store (u.position + 1) l u.board in
      let m = rest_most code v in
      let k = rest_least code u in
      let w : u.left * length code ≡ l * length code + length code = ap (λ (x : ℕ). x * length code) e ∙ suc_times l (length code) in
      (omega arith, omega arith)

  performed_falls : (i : Instruction) (o : Operation) → slice_get code u.position ≡ Some i → operation_of i ≡ o → Falls code u (performed code u o)
  performed_falls i (plain p) h e = moved_falls i h (not_tick i (plain p) e (λ k. let z : ◌≡◌ {A = ℕ} 0 1 = cc in omega arith)) (exec p u.store).how _ _
  performed_falls i (ask q) h e = moved_falls i h (not_tick i (ask q) e (λ k. let z : ◌≡◌ {A = ℕ} 0 1 = cc in omega arith)) (answer q u.store u.board).did.how _ _
  performed_falls i (jump a) h e = jumped_falls i h (not_tick i (jump a) e (λ k. let z : ◌≡◌ {A = ℕ} 0 1 = cc in omega arith)) a u.store.stack
  performed_falls i (jump_if_zero a) h e = branched_falls i h (not_tick i (jump_if_zero a) e (λ k. let z : ◌≡◌ {A = ℕ} 0 1 = cc in omega arith)) a u.store.stack
  performed_falls i tick h e = ticked_falls u.left refl (inside code u.position i h)
  performed_falls i unknown h e = break_falls u refl

  fetched_falls : (o : Option Instruction) → slice_get code u.position ≡ o → Falls code u (fetched code u o)
  fetched_falls None h = break_falls u refl
  fetched_falls (Some i) h = performed_falls i (operation_of i) h refl

pub step_falls : (code : List Instruction) (u : State) → Falls code u (step code u)
step_falls code u = fetched_falls code u (slice_get code u.position) refl
