use Rattle.std.proofs.lemmas.Result.{err_from_is_err_and}
use Rattle.stacks.specs.Held.{seen}
use Rattle.translator.proofs.Leaves.{defined_unfit, defined_twice, defined-done}
use Rattle.translator.proofs.Records.{cells_all}
use Rattle.translator.proofs.statement.definition.Goals as goal

pub returns-in_err-end-clause-same : goal.returns-in_err-end-clause-same
returns-in_err-end-clause-same c =
    let p = err_from_is_err_and c.from_residual.result c.from_residual.ensures.1 in
    rw (p.1, p.2) (defined_unfit _ _ _ _ _ _ _ _ _ _ (seen c.needed.new.code) c.token_at.ensures.there
    c.scalar_of-kind.ensures c.token_at-place.ensures.there c.past.ensures.next c.past-value.ensures.next _
    c.in_err-end.ensures.same)

pub returns-in_err-define-clause-same : goal.returns-in_err-define-clause-same
returns-in_err-define-clause-same c =
    let p = err_from_is_err_and c.from_residual-in_err-define.result c.from_residual-in_err-define.ensures.1 in
    rw (p.1, p.2) (defined_twice _ _ _ _ _ _ _ _ _ _ _ c.token_at.ensures.there c.scalar_of-kind.ensures
    c.token_at-place.ensures.there c.past.ensures.next c.past-value.ensures.next _ c.in_ok-end.ensures.same _
    (seen c.define.new.names) c.in_err-define.ensures)

pub returns-clause-same : goal.returns-clause-same
returns-clause-same c =
    defined-done _ _ _ _ _ _ _ _ _ _ _ c.token_at.ensures.there c.scalar_of-kind.ensures c.token_at-place.ensures.there
    c.past.ensures.next c.past-value.ensures.next _ c.in_ok-end.ensures.same _ _ _ _ c.in_ok-define.ensures
    (cells_all _ _ _ _ c.len.ensures (c.cells_in-cell.ensures c.args.text.now.source.now)) c.emit.ensures
    c.past-2.ensures.next
