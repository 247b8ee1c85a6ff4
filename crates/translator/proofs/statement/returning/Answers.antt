use Rattle.std.proofs.lemmas.Result.{err_from_is_err_and}
use Rattle.stacks.specs.Held.{seen}
use Rattle.translator.proofs.Leaves.{returned-bare, returned_fails, returned-done}
use Rattle.translator.proofs.statement.returning.Goals as goal

pub returns-then-is_at-clause-same : goal.returns-then-is_at-clause-same
returns-then-is_at-clause-same c =
    rw c.at.ensures (returned-bare _ _ _ _ _ _ c.token_at-place.ensures.there c.if-is_at.ensures.same)

pub returns-in_err-end-clause-same : goal.returns-in_err-end-clause-same
returns-in_err-end-clause-same c =
    let p = err_from_is_err_and c.from_residual.result c.from_residual.ensures.1 in
    rw (p.1, p.2) (returned_fails _ _ _ _ _ _ c.token_at-place.ensures.there c.if-is_at.ensures.same
    (seen c.needed.new.code) _ c.in_err-end.ensures.same)

pub returns-clause-same : goal.returns-clause-same
returns-clause-same c =
    returned-done _ _ _ _ _ _ c.token_at-place.ensures.there c.if-is_at.ensures.same _ _ _ _ c.in_ok-end.ensures.same
    c.emit.ensures c.past.ensures.next
