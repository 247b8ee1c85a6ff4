-- Walking through code: what stands where, and one lemma for each instruction that goes on.
use Rattle.std.proofs.Common.{◌≡◌, ℕ, suc, ◌+◌, ◌<◌, Bool, true, false, ◌||◌, ltb, List, [], ◌∷◌, ◌++◌, length, get_or, set, ℤ, pos, Some, refl, ◌∙◌, arith}
use Rattle.std.proofs.lemmas.Bool.Decides.{nat_tests}
use Rattle.std.specs.List.{slice_get}
use Rattle.ints.specs.Arith.{is_zero}
use Rattle.boards.specs.Meaning.{Meaning}
use Rattle.machine.specs.declared.instruction.Instruction.{Instruction}
use Rattle.machine.specs.Codes.{may_land, operation_of}
use Rattle.machine.specs.Steps.{State, at, go, wait, step, performed}
use Rattle.layout.proofs.Compiled.{ins}

-- a state of the machine
abbrev pub mach : (cells stack : List ℤ) (position left : ℕ) → Meaning → State
mach c s o l b = at (record { cells = c; stack = s }) o l b

pub below : (a b : ℕ) → a < b → ltb a b ≡ true
below a b h = grind (arith, nat_tests)

-- these instructions stand in the code from a position on
abbrev pub Stands : List Instruction → ℕ → List Instruction → Type 0
Stands C o [] = Unit {0}
Stands C o (i ∷ is) = (slice_get C o ≡ Some i) × Stands C (o + 1) is

-- the position after some instructions
abbrev pub after : List Instruction → ℕ → ℕ
after [] o = o
after (i ∷ is) o = after is (o + 1)

pub after-append : (is js : List Instruction) (o : ℕ) → after (is ++ js) o ≡ after js (after is o)
after-append [] js o = refl
after-append (i ∷ is) js o = after-append is js (o + 1)

pub cut : (C : List Instruction) (is js : List Instruction) (o : ℕ) → Stands C o (is ++ js) → Stands C o is × Stands C (after is o) js
cut C [] js o h = (tt, h)
cut C (i ∷ is) js o h = let r = cut C is js (o + 1) h.1 in ((h.0, r.0), r.1)

-- steps that go on, none or more
pub data Steps (C : List Instruction) : State → State → Type 0 where
  here : {u : State} → Steps C u u
  on : {u v w : State} → step C u ≡ go v → Steps C v w → Steps C u w

pub joined : {C : List Instruction} {u v w : State} → Steps C u v → Steps C v w → Steps C u w
joined here t = t
joined (on e r) t = on e (joined r t)

module _ (C : List Instruction) where
  -- the instruction at a position is what a step performs
  pub step_is : (u : State) (i : Instruction) → slice_get C u.position ≡ Some i → step C u ≡ performed C u (operation_of i)
  step_is u i e = rw e refl

  module _ (c s : List ℤ) (o l : ℕ) (b : Meaning) where
    pub push_goes : (v : ℤ) (p : ℕ) → slice_get C o ≡ Some (ins 0 v p) → length s < 256 → step C (mach c s o l b) ≡ go (mach c (v ∷ s) (o + 1) l b)
    push_goes v p e h = step_is (mach c s o l b) (ins 0 v p) e ∙ rw (below (length s) 256 h) refl

    pub load_goes : (k p : ℕ) → slice_get C o ≡ Some (ins 1 (pos k) p) → k < 64 → length s < 256 →
        step C (mach c s o l b) ≡ go (mach c (get_or c k (pos 0) ∷ s) (o + 1) l b)
    load_goes k p e d h = step_is (mach c s o l b) (ins 1 (pos k) p) e ∙ rw (below k 64 d, below (length s) 256 h) refl

    pub store_goes : (v : ℤ) (k p : ℕ) → slice_get C o ≡ Some (ins 2 (pos k) p) → k < 64 →
        step C (mach c (v ∷ s) o l b) ≡ go (mach (set c k v) s (o + 1) l b)
    store_goes v k p e d = step_is (mach c (v ∷ s) o l b) (ins 2 (pos k) p) e ∙ rw (below k 64 d) refl

    pub drop-goes : (v : ℤ) (p : ℕ) → slice_get C o ≡ Some (ins 3 (pos 0) p) → step C (mach c (v ∷ s) o l b) ≡ go (mach c s (o + 1) l b)
    drop-goes v p e = step_is (mach c (v ∷ s) o l b) (ins 3 (pos 0) p) e

    pub jump_goes : (t p : ℕ) → slice_get C o ≡ Some (ins 14 (pos t) p) → may_land C o t ≡ true → step C (mach c s o l b) ≡ go (mach c s t l b)
    jump_goes t p e h = step_is (mach c s o l b) (ins 14 (pos t) p) e ∙ rw h refl

    -- jump if zero: taken, and not taken
    pub zero_goes : (v : ℤ) (t p : ℕ) → slice_get C o ≡ Some (ins 15 (pos t) p) → is_zero v ≡ true → may_land C o t ≡ true →
        step C (mach c (v ∷ s) o l b) ≡ go (mach c s t l b)
    zero_goes v t p e z h = step_is (mach c (v ∷ s) o l b) (ins 15 (pos t) p) e ∙ rw (z, h) refl

    pub nonzero_goes : (v : ℤ) (t p : ℕ) → slice_get C o ≡ Some (ins 15 (pos t) p) → is_zero v ≡ false →
        step C (mach c (v ∷ s) o l b) ≡ go (mach c s (o + 1) l b)
    nonzero_goes v t p e z = step_is (mach c (v ∷ s) o l b) (ins 15 (pos t) p) e ∙ rw z refl

    pub tick_goes : (p : ℕ) → slice_get C o ≡ Some (ins 16 (pos 0) p) → step C (mach c s o (suc l) b) ≡ go (mach c s (o + 1) l b)
    tick_goes p e = step_is (mach c s o (suc l) b) (ins 16 (pos 0) p) e

    pub tick_waits : (p : ℕ) → slice_get C o ≡ Some (ins 16 (pos 0) p) → step C (mach c s o 0 b) ≡ wait (mach c s o 0 b)
    tick_waits p e = step_is (mach c s o 0 b) (ins 16 (pos 0) p) e

  -- forward jumps land
  pub forward : (o t : ℕ) → o < t → may_land C o t ≡ true
  forward o t h = rw (below o t h) refl

  or_true : (b : Bool) → (b || true) ≡ true
  or_true true = refl
  or_true false = refl

  -- a jump onto a tick lands
  pub onto_tick : (o t p : ℕ) → slice_get C t ≡ Some (ins 16 (pos 0) p) → may_land C o t ≡ true
  onto_tick o t p e = rw e (or_true (ltb o t))
