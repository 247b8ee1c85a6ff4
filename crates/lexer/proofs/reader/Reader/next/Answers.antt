use Rattle.std.proofs.Common.{◌≡◌, ◌⊎◌, Err, ap, ◌∙◌, sym, inl, inr}
use Rattle.std.proofs.lemmas.Result.{err_from_is_err_and}
use Rattle.refusal.specs.declared.reason.Refusal.{Refusal}
use Rattle.refusal.specs.Told.{number_of}
use Rattle.lexer.specs.declared.reader.State.{State}
use Rattle.lexer.specs.declared.reader.State.TheVariants.{Code, LineComment}
use Rattle.lexer.specs.Reading.{ended, none, fault, stopped}
use Rattle.lexer.proofs.Ahead.{next_taken, next_failed, next_end}
use Rattle.lexer.proofs.reader.Reader.next.Goals as goal

-- outside a long comment the source may end
no_comment : (q : State) → (q ≡ Code) ⊎ (q ≡ LineComment) → ended q ≡ stopped none
no_comment q (inl e) = ap ended e
no_comment q (inr e) = ap ended e

pub returns-in_err-token : goal.returns-in_err-token
returns-in_err-token c =
    let p = err_from_is_err_and c.from_residual.result c.from_residual.ensures.1 in
    next_failed c.args.self.now c.bytes.self c.step.new.self c.in_err-token.field-0.0 c.from_residual.result c.bytes-test.true c.bytes.invariant c.if-step.ensures c.in_err-token.ensures (p.1 ∙ ap Err p.2)

pub returns-then-step : goal.returns-then-step
returns-then-step c =
    next_taken c.args.self.now c.bytes.self c.step.new.self c.pass.new.self c.in_ok-token.token c.bytes.invariant c.if-step.ensures c.in_ok-token.ensures c.pass.ensures

pub returns-in-LongComment : goal.returns-in-LongComment
returns-in-LongComment c =
    next_end c.args.self.now c.bytes.self (Err c.at.result) c.bytes-test.false c.bytes.invariant (λ room. ap ended c.in-LongComment.is ∙ ap (λ (e : Refusal). stopped (fault (number_of e.reason) e.place)) (sym c.at.ensures)) tt

pub returns-in-Code : goal.returns-in-Code
returns-in-Code c =
    next_end c.args.self.now c.bytes.self _ c.bytes-test.false c.bytes.invariant (λ room. no_comment c.bytes.self.state c.in-Code.is) tt
