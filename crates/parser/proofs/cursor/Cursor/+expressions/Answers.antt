use Rattle.std.proofs.Common.{sym, refl, rules}
use Rattle.meaning.proofs.Tokens.{CloseParen}
use Rattle.meaning.proofs.Stack.{token}
use Rattle.parser.proofs.Places.{here, passing, passing_two, reading, and_then, reads, fails, stops, ends, passed, begins}
use Rattle.parser.proofs.Expressions.{expression_is, tail_stop, tail_go, operand_refused, operand_constant, operand_prefix, operand_bracket, operand_variable, operand_call, arguments_none, arguments_some, further_go, further_stop}
use Rattle.parser.proofs.cursor.Cursor.+expressions.Goals as goal

pub arguments-returns-then-is : goal.arguments-returns-then-is
arguments-returns-then-is t c = passed c.next.ensures (c.if-is.ensures.inside refl) (λ s K. arguments_none s _ _ _ K (sym c.if-is.ensures.same))

pub arguments-returns-in_err-end : goal.arguments-returns-in_err-end
arguments-returns-in_err-end t c = stops c.in_err-end.ensures c.from_residual.ensures.1 (here (λ s K. arguments_some s _ _ _ K (sym c.if-is.ensures.same)))

pub arguments-arguments-init : goal.arguments-arguments-init
arguments-arguments-init t c = and_then (here (λ s K. arguments_some s _ _ _ K (sym c.if-is.ensures.same))) (reading c.in_ok-end.ensures)

pub arguments-returns-in_err-end-2 : goal.arguments-returns-in_err-end-2
arguments-returns-in_err-end-2 t c =
    stops c.in_err-end-2.ensures c.from_residual-in_err-end-2.ensures.1
    (and_then c.arguments.invariant (passing c.next-in-arguments.ensures (λ s K. further_go s _ _ _ _ (sym c.arguments-test.ensures.same))))

pub arguments-arguments-preserved : goal.arguments-arguments-preserved
arguments-arguments-preserved t c =
    and_then (and_then c.arguments.invariant (passing c.next-in-arguments.ensures (λ s K. further_go s _ _ _ _ (sym c.arguments-test.ensures.same)))) (reading c.in_ok-end-2.ensures)

pub arguments-returns : goal.arguments-returns
arguments-returns t c = reads (and_then c.arguments.invariant (here (λ s K. further_stop s _ _ _ _ (sym c.arguments-test.ensures.same)))) (record { onward = c.expect.ensures.onward; same = c.expect.ensures.same (token CloseParen) refl })

pub binary-returns-in_err-end-2 : goal.binary-returns-in_err-end-2
binary-returns-in_err-end-2 t c =
    stops c.in_err-end-2.ensures c.from_residual-in_err-end-2.ensures.1
    (and_then c.operands.invariant.came (passing c.next.ensures (λ s K. tail_go s _ _ c.args.loosest _ K (search rules) _ c.looseness_at.ensures c.operands-test.ensures)))

pub binary-operands-preserved : goal.binary-operands-preserved
binary-operands-preserved t c = record { fewer = search rules; within = search rules; came = and_then (and_then c.operands.invariant.came (passing c.next.ensures (λ s K. tail_go s _ _ c.args.loosest _ K (search rules) _ c.looseness_at.ensures c.operands-test.ensures))) (reading c.in_ok-end-2.ensures) }

pub binary-returns : goal.binary-returns
binary-returns t c = ends (and_then c.operands.invariant.came (here (λ s K. tail_stop s _ _ _ _ K c.requires _ c.looseness_at.ensures.same c.operands-test.ensures))) c.operands.invariant.fewer c.operands.invariant.within

pub expression-returns : goal.expression-returns
expression-returns t c = reads (here (λ s K. expression_is s _ _ _ K)) c.binary.ensures

pub operand-returns-in_err-start : goal.operand-returns-in_err-start
operand-returns-in_err-start t c = fails _ c.from_residual.ensures.1 (λ s K. operand_refused s _ _ _ K _ _ c.start_at.ensures.same c.start_at.ensures.inside c.in_err-start.ensures.same)

pub operand-returns-in-Constant : goal.operand-returns-in-Constant
operand-returns-in-Constant t c = let b = begins c.start_at.ensures c.in_ok-start.ensures.begun c.in-Constant.is in passed c.next-next.ensures b.inside (λ s K. operand_constant s _ _ _ K b)

pub operand-returns-in-Prefix : goal.operand-returns-in-Prefix
operand-returns-in-Prefix t c = reads (passing c.next-next.ensures (λ s K. operand_prefix s _ _ _ K (begins c.start_at.ensures c.in_ok-start.ensures.begun c.in-Prefix.is))) c.prefixed.ensures

pub operand-returns-in-Bracket : goal.operand-returns-in-Bracket
operand-returns-in-Bracket t c = reads (passing c.next-next.ensures (λ s K. operand_bracket s _ _ _ K (begins c.start_at.ensures c.in_ok-start.ensures.begun c.in-Bracket.is))) c.bracketed.ensures

pub operand-returns-then-is : goal.operand-returns-then-is
operand-returns-then-is t c = reads (passing_two c.next-next.ensures c.next.ensures (λ s K. operand_call s _ _ _ K (begins c.start_at.ensures c.in_ok-start.ensures.begun c.in-Name.is) (rw c.next-next.ensures at (sym c.if-is.ensures.same)))) c.called.ensures

pub operand-returns-else-is : goal.operand-returns-else-is
operand-returns-else-is t c = let b = begins c.start_at.ensures c.in_ok-start.ensures.begun c.in-Name.is in passed c.next-next.ensures b.inside (λ s K. operand_variable s _ _ _ K b (rw c.next-next.ensures at (sym c.if-is.ensures.same)))
