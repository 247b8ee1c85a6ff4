use Rattle.translator.proofs.Loops.{jump_refused, jump_kept}
use Rattle.translator.proofs.statement.jump.Goals as goal

pub returns-then-not-in_loop-clause-same : goal.returns-then-not-in_loop-clause-same
returns-then-not-in_loop-clause-same c =
    rw c.at.ensures (jump_refused _ _ _ c.token_at-place.ensures.there _ _ _ c.if-not-in_loop.true)

pub returns-clause-same : goal.returns-clause-same
returns-clause-same c =
    jump_kept _ _ _ c.token_at-place.ensures.there _ _ _ _ _ _ _ c.if-not-in_loop.false c.emit.ensures.code
    c.emit.ensures.at c.past.ensures.next _ c.is_at-leaves.ensures.same c.keep.ensures
