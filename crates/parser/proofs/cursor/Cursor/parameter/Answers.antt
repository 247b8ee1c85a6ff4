use Rattle.std.proofs.Common.{sym, refl, ◌∙◌}
use Rattle.meaning.proofs.Tokens.{CloseParen}
use Rattle.meaning.proofs.Stack.{token, a_name}
use Rattle.parser.proofs.Places.{passing, passed, reading, and_then, reads, fails, stops, wanted}
use Rattle.parser.proofs.Scripts.{parameter_none, parameter_some, parameter_stop}
use Rattle.parser.proofs.cursor.Cursor.parameter.Goals as goal

pub returns-then-is : goal.returns-then-is
returns-then-is c = passed c.next.ensures (c.if-is.ensures.inside refl) (λ s K. parameter_none s _ _ K (sym c.if-is.ensures.same))

pub returns-in_err-pass_if : goal.returns-in_err-pass_if
returns-in_err-pass_if c = fails _ c.from_residual.ensures.1 (λ s K. rw c.in_err-pass_if.ensures.1 (parameter_stop s _ _ K (sym c.if-is.ensures.same) (sym c.in_err-pass_if.ensures.0 ∙ c.scalar_at.ensures.same)))

pub returns-in_err-expect : goal.returns-in_err-expect
returns-in_err-expect c =
    stops (wanted c.in_err-expect.ensures a_name refl) c.from_residual-in_err-expect.ensures.1
    (passing c.in_ok-pass_if.ensures.1 (λ s K. parameter_some s _ _ K (sym c.if-is.ensures.same) (c.scalar_at.ensures.inside c.in_ok-pass_if.ensures.0) (sym c.in_ok-pass_if.ensures.0 ∙ c.scalar_at.ensures.same)))

pub returns-in_ok-expect : goal.returns-in_ok-expect
returns-in_ok-expect c =
    reads (and_then (passing c.in_ok-pass_if.ensures.1 (λ s K. parameter_some s _ _ K (sym c.if-is.ensures.same) (c.scalar_at.ensures.inside c.in_ok-pass_if.ensures.0) (sym c.in_ok-pass_if.ensures.0 ∙ c.scalar_at.ensures.same))) (reading (wanted c.in_ok-expect.ensures a_name refl)))
    (wanted c.expect-else-is.ensures (token CloseParen) refl)
