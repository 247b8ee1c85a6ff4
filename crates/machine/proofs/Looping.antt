-- The loop of a run: what it keeps from turn to turn.
use Rattle.std.proofs.Common.{◌≡◌, ℕ, ◌+◌, ◌-◌, ◌<◌, ◌≤◌, List, length, Some, None, Option, sym, refl, ap, ◌∙◌, add-zero, zero-add, arith}
use Rattle.std.specs.List.{slice_get}
use Rattle.machine.specs.declared.stop.Stop.{Stop}
use Rattle.machine.specs.declared.stop.Stop.TheVariants.{Waits, Ends, Breaks}
use Rattle.machine.specs.declared.instruction.Instruction.{Instruction}
use Rattle.machine.specs.Endings.{End, end_of}
use Rattle.machine.specs.Operations.{How, ends, waits, breaks}
use Rattle.machine.specs.Steps.{State, go, stop, wait, break, fetched, step}
use Rattle.machine.specs.Runs.{Ran, ran, later, run, up_to}
use Rattle.machine.specs.Views.{stop_of, stopped, carried_of}
use Rattle.machine.proofs.Falls.{inside}
use Rattle.machine.proofs.Equations.{run_go, run_stop, run_wait, run_break}

-- the run from the start is the run from here, after the instructions counted so far:
-- `carried` of them up to where the position last jumped, and since then one for each position
pub record Loop (code : List Instruction) (before : ℕ) (first here : State) (start counted : ℕ) : Type 0 where
  pub carried : ℕ
  pub counts : counted ≡ up_to (before + carried)
  pub since : start ≤ here.position
  pub same : run code first ≡ later (carried + (here.position - start)) (run code here)

-- a step that goes on or stops had an instruction
fetched_inside : (code : List Instruction) (u : State) → (step code u ≡ break u → ⊥) → u.position < length code
fetched_inside code u f = by (slice_get code u.position) refl
  where
    by : (o : Option Instruction) → slice_get code u.position ≡ o → u.position < length code
    by None e = absurd (f (ap (fetched code u) e))
    by (Some i) e = inside code u.position i e

pub inside_go : (code : List Instruction) (u v : State) → step code u ≡ go v → u.position < length code
inside_go code u v e = fetched_inside code u (λ f. let z : ◌≡◌ {A = ℕ} 0 1 = cc in omega arith)

pub inside_stop : (code : List Instruction) (u v : State) (d : End) → step code u ≡ stop d v → u.position < length code
inside_stop code u v d e = fetched_inside code u (λ f. let z : ◌≡◌ {A = ℕ} 0 1 = cc in omega arith)

module _ (code : List Instruction) (before : ℕ) (first : State) where
  pub begins : (u : State) → first ≡ u → (start counted : ℕ) → start ≡ u.position → counted ≡ before → before ≤ 18446744073709551615
      → Loop code before first u start counted
  begins u e start counted s c l = record {
    carried = 0;
    counts = rw c (omega arith);
    since = omega (arith, s);
    same =
        let z : 0 + (u.position - start) ≡ 0 = omega arith in
        let n : run code u ≡ later 0 (run code u) = ap (λ k. ran (run code u).how (run code u).state k) (sym (zero-add (run code u).carried)) in
        ap (run code) e ∙ n ∙ ap (λ k. later k (run code u)) (sym z);
  }

  module _ (u v : State) (start counted : ℕ) (l : Loop code before first u start counted) (e : step code u ≡ go v) where
    -- one more
    onward_same : (k : ℕ) → (l.carried + (u.position - start)) + 1 ≡ k → run code first ≡ later k (run code v)
    onward_same k f =
        let n : (l.carried + (u.position - start)) + (1 + (run code v).carried) ≡ k + (run code v).carried = omega arith in
        l.same ∙ ap (later (l.carried + (u.position - start))) (run_go code u v e) ∙ ap (λ n. ran (run code v).how (run code v).state n) n

    pub straight : v.position ≡ u.position + 1 → Loop code before first v start counted
    straight p = record {
      carried = l.carried;
      counts = l.counts;
      since = omega (arith, l.since);
      same = onward_same (l.carried + (v.position - start)) (omega (arith, l.since));
    }

    pub leapt : (after : ℕ) → after ≡ up_to (counted + ((u.position - start) + 1)) → Loop code before first v v.position after
    leapt after c = record {
      carried = l.carried + (u.position - start) + 1;
      counts = rw (c, l.counts) (omega arith);
      since = omega arith;
      same = onward_same (l.carried + (u.position - start) + 1 + (v.position - v.position)) (omega arith);
    }

  -- a step that does not go on is the end of the run
  module _ (u v : State) (start counted : ℕ) (l : Loop code before first u start counted) where
    last_same : (h : How) (n k : ℕ) → run code u ≡ ran h v n → k ≡ up_to (counted + ((u.position - start) + n))
        → (h ≡ (run code first).how) × (v ≡ (run code first).state) × (k ≡ up_to (before + (run code first).carried))
    last_same h n k e c =
        let same : run code first ≡ ran h v ((l.carried + (u.position - start)) + n) = l.same ∙ ap (later (l.carried + (u.position - start))) e in
        (ap (λ (r : Ran). r.how) (sym same), ap (λ (r : Ran). r.state) (sym same), rw (same, c, l.counts) (omega arith))

    pub ended_same : (d : End) (k : ℕ) → step code u ≡ stop d v → k ≡ up_to (counted + ((u.position - start) + 1))
        → (ends d ≡ (run code first).how) × (v ≡ (run code first).state) × (k ≡ up_to (before + (run code first).carried))
    ended_same d k e c = last_same (ends d) 1 k (run_stop code u v d e) c

    pub waited_same : (k : ℕ) → step code u ≡ wait v → k ≡ up_to (counted + (u.position - start))
        → (waits ≡ (run code first).how) × (v ≡ (run code first).state) × (k ≡ up_to (before + (run code first).carried))
    waited_same k e c = last_same waits 0 k (run_wait code u v e) (rw c (ap (λ n. up_to (counted + n)) (sym (add-zero (u.position - start)))))

    pub broke_same : (k : ℕ) → step code u ≡ break v → k ≡ up_to (counted + (u.position - start))
        → (breaks ≡ (run code first).how) × (v ≡ (run code first).state) × (k ≡ up_to (before + (run code first).carried))
    broke_same k e c = last_same breaks 0 k (run_break code u v e) (rw c (ap (λ n. up_to (counted + n)) (sym (add-zero (u.position - start)))))

    -- whatever stopped it
    pub stopped_same : (s : Stop) (k : ℕ) → step code u ≡ stopped s v → k ≡ up_to (counted + ((u.position - start) + carried_of s))
        → (stop_of s ≡ (run code first).how) × (v ≡ (run code first).state) × (k ≡ up_to (before + (run code first).carried))
    stopped_same s k e c = last_same (stop_of s) (carried_of s) k (run_stopped s e) c
      where
        run_stopped : (s : Stop) → step code u ≡ stopped s v → run code u ≡ ran (stop_of s) v (carried_of s)
        run_stopped Waits e = run_wait code u v e
        run_stopped (Ends d) e = run_stop code u v (end_of d) e
        run_stopped Breaks e = run_break code u v e
