-- The run is its steps, however many more are allowed.
use Rattle.std.proofs.Common.{◌≡◌, ℕ, zero, suc, ◌+◌, ◌*◌, ◌<◌, ◌≤◌, List, length, sym, refl, ap, ◌∙◌, subst, not-suc-le-zero, arith}
use Rattle.machine.specs.declared.instruction.Instruction.{Instruction}
use Rattle.machine.specs.Endings.{End}
use Rattle.machine.specs.Operations.{ends, waits, breaks}
use Rattle.machine.specs.Steps.{State, Next, go, stop, wait, break, step}
use Rattle.machine.specs.Runs.{Ran, ran, later, onward, Runs, steps, run}
use Rattle.machine.specs.Runs.Runs.{by_step, by_stop, by_wait, by_break}
use Rattle.machine.specs.Laws.{Ends}
use Rattle.machine.proofs.Falls.{rest, rest_most, Falls, step_falls}

module _ (code : List Instruction) where
  falls_of : (u v : State) → step code u ≡ go v → rest code v < rest code u
  falls_of u v e = (subst (Falls code u) e (step_falls code u)).0

  -- two numbers of steps that suffice give one run
  onward_same : (u : State) (x : Next) (f g : State → Ran) → step code u ≡ x → ((v : State) → step code u ≡ go v → f v ≡ g v) → onward x f ≡ onward x g
  onward_same u (go v) f g e h = ap (later 1) (h v e)
  onward_same u (stop d v) f g e h = refl
  onward_same u (wait v) f g e h = refl
  onward_same u (break v) f g e h = refl

  pub steps_same : (m n : ℕ) (u : State) → rest code u < m → rest code u < n → steps m code u ≡ steps n code u
  unfolding steps
  steps_same zero n u h k = absurd (not-suc-le-zero h)
  steps_same (suc m) zero u h k = absurd (not-suc-le-zero k)
  steps_same (suc m) (suc n) u h k =
      onward_same u (step code u) _ _ refl (λ v e. let l = falls_of u v e in steps_same m n v (omega arith) (omega arith))

  enough : (u : State) → rest code u ≤ suc u.left * length code
  enough u = let m = rest_most code u in let d : suc u.left * length code ≡ u.left * length code + length code = omega arith in omega arith

  run-steps : (n : ℕ) (u : State) → rest code u < n → steps n code u ≡ run code u
  unfolding run
  run-steps n u h = let k = enough u in steps_same n (suc (suc u.left * length code)) u h (omega arith)

  unrolled : (u : State) → run code u ≡ onward (step code u) (λ v. steps (suc u.left * length code) code v)
  unfolding run steps
  unrolled u = refl

  -- the equations of a run
  pub run_go : (u v : State) → step code u ≡ go v → run code u ≡ later 1 (run code v)
  run_go u v e =
      let l = falls_of u v e in
      let k = enough u in
      unrolled u ∙ rw e (ap (later 1) (run-steps (suc u.left * length code) v (omega arith)))

  pub run_stop : (u v : State) (d : End) → step code u ≡ stop d v → run code u ≡ ran (ends d) v 1
  run_stop u v d e = unrolled u ∙ rw e

  pub run_wait : (u v : State) → step code u ≡ wait v → run code u ≡ ran waits v 0
  run_wait u v e = unrolled u ∙ rw e

  pub run_break : (u v : State) → step code u ≡ break v → run code u ≡ ran breaks v 0
  run_break u v e = unrolled u ∙ rw e

  onward_runs : (u : State) (x : Next) (f : State → Ran) → step code u ≡ x → ((v : State) → step code u ≡ go v → Runs code v (f v)) → Runs code u (onward x f)
  onward_runs u (go v) f e h = by_step e (h v e) refl
  onward_runs u (stop d v) f e h = by_stop e refl
  onward_runs u (wait v) f e h = by_wait e refl
  onward_runs u (break v) f e h = by_break e refl

  steps_runs : (n : ℕ) (u : State) → rest code u < n → Runs code u (steps n code u)
  unfolding steps
  steps_runs zero u h = absurd (not-suc-le-zero h)
  steps_runs (suc n) u h = onward_runs u (step code u) _ refl (λ v e. let l = falls_of u v e in steps_runs n v (omega arith))

  pub run_runs : (u : State) → Runs code u (run code u)
  unfolding run
  run_runs u = let k = enough u in steps_runs (suc (suc u.left * length code)) u (omega arith)

pub runs_one : {code : List Instruction} {u : State} {r : Ran} → Runs code u r → r ≡ run code u
runs_one {code} (by_step {u = u} {v = v} e t q) = q ∙ ap (later 1) (runs_one t) ∙ sym (run_go code u v e)
runs_one {code} (by_stop {u = u} {v = v} {e = d} e q) = q ∙ sym (run_stop code u v d e)
runs_one {code} (by_wait {u = u} {v = v} e q) = q ∙ sym (run_wait code u v e)
runs_one {code} (by_break {u = u} {v = v} e q) = q ∙ sym (run_break code u v e)

pub every_ends : Ends
every_ends = record { some = λ code u. run_runs code u; one = λ code u r t. runs_one t }
