-- Walks of the machine, for whoever shows what a piece of code does: steps one by one, and how the run comes out.
use Rattle.std.proofs.Common.{◌≡◌, ℕ, suc, ◌+◌, ◌<◌, Bool, true, false, ◌||◌, ltb, List, [], ◌∷◌, ◌++◌, length, ℤ, pos, Some, refl, ap, ◌∙◌, add-zero, add-suc, suc-add, lt-ltb}
use Rattle.std.specs.List.{slice_get}
use Rattle.boards.specs.Meaning.{Meaning}
use Rattle.ints.specs.Arith.{is_zero}
use Rattle.machine.specs.declared.instruction.Instruction.{Instruction}
use Rattle.machine.specs.Endings.{End}
use Rattle.machine.specs.Codes.{Plain, push, Query, plain, ask, jump, jump_if_zero, tick, operation_of, is_tick, may_land}
use Rattle.machine.specs.Operations.{Store, How, ends, waits, breaks, done, ended, exec, replied, answer}
use Rattle.machine.specs.Steps.{State, at, go, stop, wait, break, step}
use Rattle.machine.specs.Runs.{Ran, run}
use Rattle.machine.proofs.Equations.{run_go, run_stop, run_wait, run_break}

-- from state to state
pub data Steps (code : List Instruction) : State → State → Type 0 where
  here : {u : State} → Steps code u u
  on : {u v w : State} → step code u ≡ go v → Steps code v w → Steps code u w

pub one : {code : List Instruction} {u v : State} → step code u ≡ go v → Steps code u v
one e = on e here

pub trans : {code : List Instruction} {u v w : State} → Steps code u v → Steps code v w → Steps code u w
trans here q = q
trans (on e p) q = on e (trans p q)

-- the run from u comes out as h, in the state v
pub record Comes (code : List Instruction) (u : State) (h : How) (v : State) : Type 0 where
  pub how : (run code u).how ≡ h
  pub state : (run code u).state ≡ v

comes_by : (code : List Instruction) (u v w : State) (h : How) → step code u ≡ go v → Comes code v h w → Comes code u h w
comes_by code u v w h e c = record {
  how = ap (λ (r : Ran). r.how) (run_go code u v e) ∙ c.how;
  state = ap (λ (r : Ran). r.state) (run_go code u v e) ∙ c.state;
}

-- what comes after a walk comes from its start
pub walked : {code : List Instruction} {u v w : State} {h : How} → Steps code u v → Comes code v h w → Comes code u h w
walked here c = c
walked {code} {u} {w = w} {h = h} (on {v = v} e p) c = comes_by code u v w h e (walked p c)

module _ (code : List Instruction) (u v : State) where
  pub comes_stop : (d : End) → step code u ≡ stop d v → Comes code u (ends d) v
  comes_stop d e = record { how = ap (λ (r : Ran). r.how) (run_stop code u v d e); state = ap (λ (r : Ran). r.state) (run_stop code u v d e) }

  pub comes_wait : step code u ≡ wait v → Comes code u waits v
  comes_wait e = record { how = ap (λ (r : Ran). r.how) (run_wait code u v e); state = ap (λ (r : Ran). r.state) (run_wait code u v e) }

  pub comes_break : step code u ≡ break v → Comes code u breaks v
  comes_break e = record { how = ap (λ (r : Ran). r.how) (run_break code u v e); state = ap (λ (r : Ran). r.state) (run_break code u v e) }

-- a fragment of code stands at a position
abbrev pub Stands : List Instruction → ℕ → List Instruction → Type 0
Stands code o [] = Unit {0}
Stands code o (i ∷ f) = (slice_get code o ≡ Some i) × Stands code (suc o) f

pub stands_append : (code : List Instruction) (o : ℕ) (f g : List Instruction) → Stands code o (f ++ g) → Stands code o f × Stands code (o + length f) g
stands_append code o [] g h = (tt, rw (add-zero o) h)
stands_append code o (i ∷ f) g h =
    let r = stands_append code (suc o) f g h.1 in
    ((h.0, r.0), rw (add-suc, ← suc-add) r.1)

stands_cons : (x : Instruction) (code : List Instruction) (o : ℕ) (f : List Instruction) → Stands code o f → Stands (x ∷ code) (suc o) f
stands_cons x code o [] h = tt
stands_cons x code o (i ∷ f) h = (h.0, stands_cons x code (suc o) f h.1)

pub stands_whole : (f : List Instruction) → Stands f 0 f
stands_whole [] = tt
stands_whole (i ∷ f) = (refl, stands_cons i f 0 f (stands_whole f))

-- a place where a taken jump may land
or_right : (a b : Bool) → b ≡ true → a || b ≡ true
or_right true b e = refl
or_right false b e = e

pub lands_ahead : (code : List Instruction) (from to : ℕ) → from < to → may_land code from to ≡ true
lands_ahead code from to h = rw (lt-ltb from to h)

pub lands_on_tick : (code : List Instruction) (from to : ℕ) → is_tick (slice_get code to) ≡ true → may_land code from to ≡ true
lands_on_tick code from to h = or_right (ltb from to) (is_tick (slice_get code to)) h

-- one step, by what the instruction is
module _ (code : List Instruction) (m : Store) (p l : ℕ) (b : Meaning) (i : Instruction) (here-is : slice_get code p ≡ Some i) where
  pub step-plain : (o : Plain) (c s : List ℤ) → operation_of i ≡ plain o → exec o m ≡ done c s
      → step code (at m p l b) ≡ go (at (record { cells = c; stack = s }) (p + 1) l b)
  step-plain o c s e x = rw (here-is, e, x)

  pub step_ends : (o : Plain) (d : End) → operation_of i ≡ plain o → exec o m ≡ ended d m → step code (at m p l b) ≡ stop d (at m p l b)
  step_ends o d e x = rw (here-is, e, x)

  pub step_ask : (q : Query) (c s : List ℤ) (a : Meaning) → operation_of i ≡ ask q → answer q m b ≡ replied (done c s) a
      → step code (at m p l b) ≡ go (at (record { cells = c; stack = s }) (p + 1) l a)
  step_ask q c s a e x = rw (here-is, e, x)

  pub step_refused : (q : Query) (d : End) (a : Meaning) → operation_of i ≡ ask q → answer q m b ≡ replied (ended d m) a → step code (at m p l b) ≡ stop d (at m p l a)
  step_refused q d a e x = rw (here-is, e, x)

  pub step_jump : (t : ℕ) → operation_of i ≡ jump (pos t) → may_land code p t ≡ true → step code (at m p l b) ≡ go (at m t l b)
  step_jump t e x = rw (here-is, e, x)

  pub step_tick : (k : ℕ) → operation_of i ≡ tick → l ≡ suc k → step code (at m p l b) ≡ go (at m (p + 1) k b)
  step_tick k e x = rw (here-is, e, x)

  pub step_wait : operation_of i ≡ tick → l ≡ 0 → step code (at m p l b) ≡ wait (at m p l b)
  step_wait e x = rw (here-is, e, x)

module _ (code : List Instruction) (c s : List ℤ) (v : ℤ) (p l : ℕ) (b : Meaning) (i : Instruction) (here-is : slice_get code p ≡ Some i) where
  pub step_taken : (t : ℕ) → operation_of i ≡ jump_if_zero (pos t) → is_zero v ≡ true → may_land code p t ≡ true
      → step code (at (record { cells = c; stack = v ∷ s }) p l b) ≡ go (at (record { cells = c; stack = s }) t l b)
  step_taken t e z x = rw (here-is, e, z, x)

  pub step_untaken : (a : ℤ) → operation_of i ≡ jump_if_zero a → is_zero v ≡ false
      → step code (at (record { cells = c; stack = v ∷ s }) p l b) ≡ go (at (record { cells = c; stack = s }) (p + 1) l b)
  step_untaken a e z = rw (here-is, e, z)

-- a value is pushed while there is room
pub exec_push : (v : ℤ) (c s : List ℤ) → length s < 256 → exec (push v) (record { cells = c; stack = s }) ≡ done c (v ∷ s)
exec_push v c s h = rw (lt-ltb (length s) 256 h)
