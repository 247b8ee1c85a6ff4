use Rattle.std.proofs.lemmas.Result.{err_from_is_err_and}
use Rattle.stacks.specs.Held.{seen}
use Rattle.translator.proofs.Leaves.{modified_absent, modified_fails, modified_done}
use Rattle.translator.proofs.statement.modification.Goals as goal

pub returns-in_err-variable-clause-same : goal.returns-in_err-variable-clause-same
returns-in_err-variable-clause-same c =
    let p = err_from_is_err_and c.from_residual.result c.from_residual.ensures.1 in
    rw (p.1, p.2) (modified_absent _ _ _ _ _ _ _ c.in_err-variable.ensures)

pub returns-in_err-value-clause-same : goal.returns-in_err-value-clause-same
returns-in_err-value-clause-same c =
    let p = err_from_is_err_and c.from_residual-in_err-value.result c.from_residual-in_err-value.ensures.1 in
    rw (p.1, p.2) (modified_fails _ _ _ _ _ _ _ _ _ c.token_at.ensures.there c.in_ok-variable.ensures c.emit.ensures _
    (seen c.joined.new.code) c.in_err-value.ensures.same)

pub returns-clause-same : goal.returns-clause-same
returns-clause-same c =
    modified_done _ _ _ _ _ _ _ _ _ c.token_at.ensures.there c.in_ok-variable.ensures c.emit.ensures _ _ _ _ _
    c.token_at-2.ensures.there c.in_ok-value.ensures.same c.emit-2.ensures c.past.ensures.next
