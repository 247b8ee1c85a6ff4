use Rattle.std.proofs.Common.{sym, refl, ap, ◌∙◌, subst, arith}
use Rattle.machine.specs.declared.stop.Stop.TheVariants.{Waits, Ends, Breaks}
use Rattle.machine.specs.Endings.{end_of}
use Rattle.machine.specs.Operations.{ends}
use Rattle.machine.specs.Views.{state_of, stop_of, stopped}
use Rattle.machine.proofs.Falls.{Falls, step_falls}
use Rattle.machine.proofs.Looping.{begins, straight, leapt, stopped_same}
use Rattle.machine.proofs.memory.Memory.run.Goals as goal

pub run-init : goal.run-init
run-init g c = begins _ _ _ _ refl _ _ refl refl (omega arith)

pub run-smaller-then-next-at : goal.run-smaller-then-next-at
run-smaller-then-next-at g c = (subst (Falls c.args.code.now _) (sym c.in-Ok.ensures) (step_falls c.args.code.now _)).0

pub run-preserved-then-next-at : goal.run-preserved-then-next-at
run-preserved-then-next-at g c = leapt _ _ _ _ _ _ _ c.run.invariant (sym c.in-Ok.ensures) _ c.saturating_add-counted.ensures

pub run-smaller : goal.run-smaller
run-smaller g c = (subst (Falls c.args.code.now _) (sym c.in-Ok.ensures) (step_falls c.args.code.now _)).0

pub run-preserved : goal.run-preserved
run-preserved g c = straight _ _ _ _ _ _ _ c.run.invariant (sym c.in-Ok.ensures) c.if-next-at.false

pub returns-in-Err-Ends : goal.returns-in-Err-Ends
returns-in-Err-Ends g c =
    let n = c.new.ensures in
    let s = stopped_same _ _ _ _ _ _ _ c.run.invariant (Ends c.in-Err-Ends.ending) _ (sym c.in-Err-Ends.ensures ∙ ap (λ s. stopped s (state_of c.step.new.self c.run.at (g.B.Board.meaning c.step.new.board))) c.in-Err-Ends.field-0-is) n.counted in
    record { how = ap stop_of n.stop ∙ ap (λ e. ends (end_of e)) c.in-Err-Ends.ending-is ∙ s.0; state = ap (λ a. state_of c.step.new.self a (g.B.Board.meaning c.step.new.board)) n.at ∙ s.1; counted = s.2 }

pub returns-in-Err-Waits : goal.returns-in-Err-Waits
returns-in-Err-Waits g c =
    let n = c.new-in-Err-Waits.ensures in
    let s = stopped_same _ _ _ _ _ _ _ c.run.invariant Waits _ (sym c.in-Err-Waits.ensures ∙ ap (λ s. stopped s (state_of c.step.new.self c.run.at (g.B.Board.meaning c.step.new.board))) c.in-Err-Waits.field-0-is) n.counted in
    record { how = ap stop_of n.stop ∙ s.0; state = ap (λ a. state_of c.step.new.self a (g.B.Board.meaning c.step.new.board)) n.at ∙ s.1; counted = s.2 }

pub returns-in-Err-Breaks : goal.returns-in-Err-Breaks
returns-in-Err-Breaks g c =
    let n = c.new-in-Err-Breaks.ensures in
    let s = stopped_same _ _ _ _ _ _ _ c.run.invariant Breaks _ (sym c.in-Err-Breaks.ensures ∙ ap (λ s. stopped s (state_of c.step.new.self c.run.at (g.B.Board.meaning c.step.new.board))) c.in-Err-Breaks.field-0-is) n.counted in
    record { how = ap stop_of n.stop ∙ s.0; state = ap (λ a. state_of c.step.new.self a (g.B.Board.meaning c.step.new.board)) n.at ∙ s.1; counted = s.2 }
