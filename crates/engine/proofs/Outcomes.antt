-- What the machine tells of faithful code, and keeps of it, is what the script's run comes to.
use Rattle.std.proofs.Common.{◌≡◌, ℕ, ◌*◌, ◌≤◌, not, List, length, is_some, Some, None, Option, sym, refl, ap, ◌∙◌, mul-le-mul, arith}
use Rattle.refusal.specs.Told.{accepted}
use Rattle.boards.specs.Meaning.{Meaning}
use Rattle.meaning.specs.Trees.{Script}
use Rattle.meaning.specs.Check.{check_script}
use Rattle.meaning.specs.Run.{Ending, returned, waiting, divided, board, stuck, run_script}
use Rattle.meaning.proofs.Sound.{checked_never_stuck}
use Rattle.machine.specs.declared.instruction.Instruction.{Instruction}
use Rattle.machine.specs.Endings.{End}
use Rattle.machine.specs.Endings
use Rattle.machine.specs.Runs.{Over, begun, fresh, run, call, says}
use Rattle.machine.proofs.Falls.{rest_most}
use Rattle.machine.proofs.Resuming.{run_counted, waits_or_over}
use Rattle.layout.specs.Faithful.{Faithful, end_alike}
use Rattle.engine.specs.Calls.{grant_limit}
use Rattle.engine.specs.Log.{waits, Tells}

-- only a run that is stuck would be told as broken
unstuck : (e : Ending) → (e ≡ stuck → ⊥) → (end_alike e).number ≡ 4 → ⊥
unstuck (returned v) h b = omega arith
unstuck waiting h b = omega arith
unstuck divided h b = omega arith
unstuck (board n) h b = omega arith
unstuck stuck h b = h refl

-- a run is over unless it waits
over_unless : (e : Ending) (o : Option Over) → (end_alike e ≡ Endings.waiting → o ≡ None) → (o ≡ None → end_alike e ≡ Endings.waiting) → is_some o ≡ not (waits e)
over_unless waiting o f g = ap is_some (f refl)
over_unless (returned v) (Some x) f g = refl
over_unless (returned v) None f g = let b : ⊥ = omega (arith, ap (λ (x : End). x.number) (g refl)) in absurd b
over_unless divided (Some x) f g = refl
over_unless divided None f g = let b : ⊥ = omega (arith, ap (λ (x : End). x.number) (g refl)) in absurd b
over_unless (board n) (Some x) f g = refl
over_unless (board n) None f g = let b : ⊥ = omega (arith, ap (λ (x : End). x.number) (g refl)) in absurd b
over_unless stuck (Some x) f g = refl
over_unless stuck None f g = let b : ⊥ = omega (arith, ap (λ (x : End). x.number) (g refl)) in absurd b

module _ (code : List Instruction) (s : Script) (b : Meaning) (ticks : ℕ) (faithful : Faithful code s) where
  pub run_board : (call code fresh b ticks).board ≡ (run_script s b ticks).board
  run_board = (faithful b ticks).board

  pub run_over : is_some (call code fresh b ticks).kept.over ≡ not (waits (run_script s b ticks).ending)
  run_over =
      over_unless (run_script s b ticks).ending (call code fresh b ticks).kept.over
      (λ e. waits_or_over.is_open code fresh b ticks refl ((faithful b ticks).ending ∙ e))
      (λ e. sym (faithful b ticks).ending ∙ waits_or_over.while_waiting code fresh b ticks e)

  pub run_tells : check_script s ≡ accepted tt → ticks ≤ grant_limit → Tells (run_script s b ticks) (says (call code fresh b ticks))
  run_tells c few =
      let f = faithful b ticks in
      record {
        end = f.ending;
        place = f.place;
        spent = omega (arith, f.spent);
        unbroken = λ n. unstuck (run_script s b ticks).ending (checked_never_stuck s b ticks c) (sym (ap (λ (x : End). x.number) f.ending) ∙ n);
      }

-- so few ticks and so short code that no count comes to its limit
pub run_carried : (code : List Instruction) (b : Meaning) (ticks : ℕ) → ticks ≤ grant_limit → length code ≤ 4096 →
    (says (call code fresh b ticks)).counted ≡ (run code (begun fresh b ticks)).carried
run_carried code b ticks few short =
    let u = begun fresh b ticks in
    let q = (run_counted code u).within in
    let m = rest_most code u in
    let p : ticks * length code ≤ grant_limit * 4096 = mul-le-mul few short in
    omega (arith, q, m, p)
