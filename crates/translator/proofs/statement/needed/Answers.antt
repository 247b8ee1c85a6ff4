use Rattle.std.proofs.Common.{◌∙◌}
use Rattle.std.proofs.lemmas.Result.{err_from_is_err_and}
use Rattle.stacks.specs.Held.{seen}
use Rattle.translator.proofs.Leaves.{needed_met, needed_unmet, needed_fails}
use Rattle.translator.proofs.Scalars.{same_scalar}
use Rattle.translator.proofs.statement.needed.Goals as goal

pub returns-in_err-value-clause-same : goal.returns-in_err-value-clause-same
returns-in_err-value-clause-same c =
    let p = err_from_is_err_and c.from_residual.result c.from_residual.ensures.1 in
    rw (p.1, p.2) (needed_fails _ _ _ _ _ (seen c.args.names.now) _ (seen c.expression.new.code) _
    c.in_err-value.ensures.same)

pub returns-then-eq-clause-same : goal.returns-then-eq-clause-same
returns-then-eq-clause-same c =
    needed_met _ _ _ _ _ (seen c.args.names.now) _ _ _ c.in_ok-value.ensures.same (c.if-eq.ensures ∙ same_scalar _ _)

pub returns-else-eq-clause-same : goal.returns-else-eq-clause-same
returns-else-eq-clause-same c =
    rw c.at.ensures (needed_unmet _ _ _ _ _ (seen c.args.names.now) _ _ _ c.in_ok-value.ensures.same
    (c.if-eq.ensures ∙ same_scalar _ _))
