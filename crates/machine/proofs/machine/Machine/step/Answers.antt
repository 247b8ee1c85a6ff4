use Rattle.std.proofs.Common.{Ok, sym, ap, ◌∙◌, arith}
use Rattle.machine.specs.declared.cursor.Cursor.{Cursor}
use Rattle.machine.specs.Steps.{step}
use Rattle.machine.specs.Runs.{kept_at, on, turn}
use Rattle.machine.specs.Views.{over_of, keeps, state_of}
use Rattle.machine.proofs.Calling.{begun_is, step_within, on_is}
use Rattle.machine.proofs.machine.Machine.step.Goals as goal

pub move_on-requires : goal.move_on-requires
move_on-requires g c =
    let h = c.in_ok-from.ensures in
    let l = step_within c.first-records.result.now (state_of c.args.self.now.memory c.in_ok-from.from (g.B.Board.meaning c.args.board.now))
    (state_of c.step.new.self c.step.new.at (g.B.Board.meaning c.step.new.board)) (Ok tt) c.in-Ok.ensures in
    omega (arith, h.3, l)

pub settle-requires : goal.settle-requires
settle-requires g c =
    let h = c.in_ok-from.ensures in
    let n = c.new-halted.ensures in
    let e = ap (λ (a : Cursor). a.left) n.at ∙ h.3 in
    omega (arith, e)

pub returns-in-Ok : goal.returns-in-Ok
returns-in-Ok g c =
    let k = keeps c.args.self.now in
    let b = g.B.Board.meaning c.args.board.now in
    let d = g.B.Board.meaning c.step.new.board in
    let code = c.first-records.result.now in
    let v = state_of c.step.new.self c.step.new.at d in
    let h = c.in_ok-from.ensures in
    let s = begun_is c.args.self.now c.in_ok-from.from b c.args.ticks h in
    ap (λ x. on x (keeps c.move_on.new.self) d) c.move_on.ensures.left
    ∙ on_is k code b c.args.ticks (ap over_of h.0) v (keeps c.move_on.new.self) (ap (step code) (sym s) ∙ sym c.in-Ok.ensures)
    (c.move_on.ensures.after d ∙ ap (λ x. kept_at k c.args.ticks v 1 (over_of x)) h.0)
    ∙ ap (λ x. turn x k b c.args.ticks) c.first-records.ensures
