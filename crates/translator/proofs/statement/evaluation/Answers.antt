use Rattle.std.proofs.Common.{sym, ◌∙◌}
use Rattle.std.proofs.lemmas.Result.{err_from_is_err_and}
use Rattle.stacks.specs.Held.{seen}
use Rattle.translator.proofs.Leaves.{evaluated_fails, evaluated_drops, evaluated_leaves}
use Rattle.translator.proofs.statement.evaluation.Goals as goal
use Rattle.translator.proofs.statement.evaluation.Goals.{then-is_some, else-is_some}

pub returns-in_err-done-clause-same : goal.returns-in_err-done-clause-same
returns-in_err-done-clause-same c =
    let p = err_from_is_err_and c.from_residual.result c.from_residual.ensures.1 in
    rw (p.1, p.2) (evaluated_fails _ _ _ _ _ (seen c.whole.new.code) _ c.in_err-done.ensures.same)

pub returns-clause-same : goal.returns-clause-same
returns-clause-same c =
    elim c.if-is_some.branch [
      | then-is_some w ↦ rw w.code-is (evaluated_drops _ _ _ _ _ _ _ _ c.in_ok-done.ensures.same c.past.ensures.next _ _
          w.token_at.ensures.there (sym c.is_some.ensures ∙ w.if-is_some.true) w.emit.ensures)
      | else-is_some w ↦ rw w.code-is (evaluated_leaves _ _ _ _ _ _ _ _ c.in_ok-done.ensures.same c.past.ensures.next
          (sym c.is_some.ensures ∙ w.if-is_some.false))
    ]
