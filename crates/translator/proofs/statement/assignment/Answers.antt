use Rattle.std.proofs.lemmas.Result.{err_from_is_err_and}
use Rattle.stacks.specs.Held.{seen}
use Rattle.translator.proofs.Leaves.{assigned_absent, assigned_fails, assigned-done}
use Rattle.translator.proofs.statement.assignment.Goals as goal

pub returns-in_err-variable-clause-same : goal.returns-in_err-variable-clause-same
returns-in_err-variable-clause-same c =
    let p = err_from_is_err_and c.from_residual.result c.from_residual.ensures.1 in
    rw (p.1, p.2) (assigned_absent _ _ _ _ _ _ c.in_err-variable.ensures)

pub returns-in_err-end-clause-same : goal.returns-in_err-end-clause-same
returns-in_err-end-clause-same c =
    let p = err_from_is_err_and c.from_residual-in_err-end.result c.from_residual-in_err-end.ensures.1 in
    rw (p.1, p.2) (assigned_fails _ _ _ _ _ _ _ c.token_at-place.ensures.there c.past-value.ensures.next _ _
    (seen c.needed.new.code) c.in_ok-variable.ensures c.in_err-end.ensures.same)

pub returns-clause-same : goal.returns-clause-same
returns-clause-same c =
    assigned-done _ _ _ _ _ _ _ c.token_at-place.ensures.there c.past-value.ensures.next _ _ _ _ _
    c.in_ok-variable.ensures c.in_ok-end.ensures.same c.emit.ensures c.past.ensures.next
