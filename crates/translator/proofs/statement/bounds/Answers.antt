use Rattle.std.proofs.Common.{◌≡◌, sym, ◌∙◌, false, ◌&&◌}
use Rattle.std.proofs.lemmas.Bool.{and_left, and_right}
use Rattle.std.proofs.lemmas.Result.{err_from_is_err_and}
use Rattle.stacks.specs.Held.{seen}
use Rattle.meaning.specs.Types.{same_type}
use Rattle.meaning.specs.declared.operator.Scalar.TheVariants.{Int as int}
use Rattle.translator.proofs.Loops.{start_fails, stop_fails, bounds_unfit, bounds_done}
use Rattle.translator.proofs.Scalars.{same_scalar}
use Rattle.translator.proofs.statement.bounds.Goals as goal
use Rattle.translator.proofs.statement.bounds.Goals.{else-eq-via-then-eq+else-eq-2, else-eq-via-else-eq}

pub returns-in_err-start-clause-same : goal.returns-in_err-start-clause-same
returns-in_err-start-clause-same c =
    let p = err_from_is_err_and c.from_residual.result c.from_residual.ensures.1 in
    rw (p.1, p.2) (start_fails _ _ _ _ _ _ _ _ (seen c.expression.new.code) c.past.ensures.next
    c.past-first.ensures.next _ c.in_err-start.ensures.same)

pub returns-in_err-stop-clause-same : goal.returns-in_err-stop-clause-same
returns-in_err-stop-clause-same c =
    let p = err_from_is_err_and c.from_residual-in_err-stop.result c.from_residual-in_err-stop.ensures.1 in
    rw (p.1, p.2) (stop_fails _ _ _ _ _ _ _ _ _ c.past.ensures.next c.past-first.ensures.next _ _
    (seen c.expression-2.new.code) c.in_ok-start.ensures.same c.past-2.ensures.next _ c.in_err-stop.ensures.same)

pub returns-then-eq-2-clause-same : goal.returns-then-eq-2-clause-same
returns-then-eq-2-clause-same c =
    bounds_done _ _ _ _ _ _ _ _ _ c.past.ensures.next c.past-first.ensures.next _ _ _ c.in_ok-start.ensures.same
    c.past-2.ensures.next _ c.in_ok-stop.ensures.same _ (c.if-eq.ensures ∙ same_scalar _ _)
    (c.if-eq-2.ensures ∙ same_scalar _ _) c.past-then-eq-2.ensures.next

pub returns-else-eq-clause-same : goal.returns-else-eq-clause-same
returns-else-eq-clause-same c =
    let v = c.in_ok-start.start in
    let z = c.in_ok-stop.stop in
    let b : (same_type v.kind int && same_type z.kind int) ≡ false =
    elim c.else-eq.branch [
      | else-eq-via-then-eq+else-eq-2 w ↦ and_right _ _ (sym (w.if-eq-2.ensures ∙ same_scalar _ _))
      | else-eq-via-else-eq w ↦ and_left _ _ (sym (w.if-eq.ensures ∙ same_scalar _ _))
    ] in
    rw c.at.ensures (bounds_unfit _ _ _ _ _ _ _ _ _ c.past.ensures.next c.past-first.ensures.next _ _ _
    c.in_ok-start.ensures.same c.past-2.ensures.next _ c.in_ok-stop.ensures.same _ c.token_at.ensures.there b)
