use Rattle.std.proofs.Common.{refl}
use Rattle.std.proofs.lemmas.Result.{err_from_is_err_and}
use Rattle.engine.specs.Views.{holds}
use Rattle.engine.specs.Successions.{go}
use Rattle.engine.proofs.Going.{go_refused, go_accepted}
use Rattle.engine.proofs.Lawful.{lawful}
use Rattle.engine.proofs.engine.Engine.go.Goals as goal

pub returns-in_err-count : goal.returns-in_err-count
returns-in_err-count g c =
    let p = err_from_is_err_and c.from_residual.result c.from_residual.ensures.1 in
    let d = go_refused (holds c.args.self.now) c.args.code.now (g.B.Board.meaning c.args.board.now) c.args.ticks _ _ c.in_err-count.ensures in
    rw (p.1, p.2) (record { does = d; law = lawful _ (go c.args.ticks) _ _ (d, refl) })

pub returns : goal.returns
returns g c =
    let r = c.run.ensures in
    let d =
    go_accepted (holds c.args.self.now) c.args.code.now (g.B.Board.meaning c.args.board.now) c.args.ticks
    c.in_ok-count.count c.in_ok-count.ensures _ _ _ r.answer r.after r.board in
    rw c.from.ensures (record { does = d; law = lawful _ (go c.args.ticks) _ _ (d, refl) })
