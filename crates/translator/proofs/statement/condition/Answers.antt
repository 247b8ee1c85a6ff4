use Rattle.std.proofs.lemmas.Result.{err_from_is_err_and}
use Rattle.stacks.specs.Held.{seen}
use Rattle.translator.proofs.Leaves.{condition_done, condition_fails}
use Rattle.translator.proofs.statement.condition.Goals as goal

pub returns-in_err-end-clause-same : goal.returns-in_err-end-clause-same
returns-in_err-end-clause-same c =
    let p = err_from_is_err_and c.from_residual.result c.from_residual.ensures.1 in
    rw (p.1, p.2) (condition_fails _ _ _ _ _ (seen c.args.names.now) _ (seen c.needed.new.code) c.past.ensures.next _
    c.in_err-end.ensures.same)

pub returns-clause-same : goal.returns-clause-same
returns-clause-same c =
    condition_done _ _ _ _ _ (seen c.args.names.now) _ _ c.past.ensures.next _ _ c.in_ok-end.ensures.same
    c.past-2.ensures.next
