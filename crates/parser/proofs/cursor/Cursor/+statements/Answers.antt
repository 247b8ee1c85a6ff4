use Rattle.std.proofs.Common.{sym, refl, rules}
use Rattle.meaning.proofs.Tokens.{Semicolon}
use Rattle.meaning.proofs.Stack.{token}
use Rattle.parser.proofs.Places.{here, passing, passing_two, reading, and_then, reads, fails, stops, ends, passed, begins}
use Rattle.parser.proofs.Statements.{statement_refused, statement_block, statement_definition, statement_assign, statement_named, statement_if, statement_while, statement_do, statement_for, statement_jump, statement_return_bare, statement_return, statement_expression, statements_end, statements_more, else_none, else_some}
use Rattle.parser.proofs.cursor.Cursor.+statements.Goals as goal

pub block-returns-in_err-end : goal.block-returns-in_err-end
block-returns-in_err-end t c = stops c.in_err-end.ensures c.from_residual.ensures.1 (and_then c.statements.invariant (here (λ s K. statements_more s _ _ _ K (sym c.statements-test.ensures.same))))

pub block-statements-preserved : goal.block-statements-preserved
block-statements-preserved t c = and_then (and_then c.statements.invariant (here (λ s K. statements_more s _ _ _ K (sym c.statements-test.ensures.same)))) (reading c.in_ok-end.ensures)

pub block-returns : goal.block-returns
block-returns t c = reads c.statements.invariant (passed c.next.ensures (c.statements-test.ensures.inside refl) (λ s K. statements_end s _ _ _ K (sym c.statements-test.ensures.same)))

pub conditional-returns-then-is : goal.conditional-returns-then-is
conditional-returns-then-is t c =
    reads (and_then (and_then (reading c.in_ok-condition.ensures) (reading c.in_ok-end.ensures)) (passing c.next.ensures (λ s K. else_some s _ _ _ K (sym c.if-is.ensures.same)))) c.statement-then-is.ensures

pub conditional-returns-else-is : goal.conditional-returns-else-is
conditional-returns-else-is t c =
    ends (and_then (and_then (reading c.in_ok-condition.ensures) (reading c.in_ok-end.ensures)) (here (λ s K. else_none s _ _ _ K (sym c.if-is.ensures.same)))) (search rules) (search rules)

pub statement-returns-in_err-lead : goal.statement-returns-in_err-lead
statement-returns-in_err-lead t c =
    fails _ c.from_residual.ensures.1 (λ s K. statement_refused s _ _ _ K _ _ c.lead_at.ensures.same c.lead_at.ensures.inside c.in_err-lead.ensures.same)

pub statement-returns-in-Block : goal.statement-returns-in-Block
statement-returns-in-Block t c = reads (passing c.next-next.ensures (λ s K. statement_block s _ _ _ K (begins c.lead_at.ensures c.in_ok-lead.ensures.begun c.in-Block.is))) c.nested.ensures

pub statement-returns-in-Definition : goal.statement-returns-in-Definition
statement-returns-in-Definition t c = reads (passing c.next-next.ensures (λ s K. statement_definition s _ _ _ K (begins c.lead_at.ensures c.in_ok-lead.ensures.begun c.in-Definition.is))) c.definition.ensures

pub statement-returns-in-If : goal.statement-returns-in-If
statement-returns-in-If t c = reads (passing c.next-next.ensures (λ s K. statement_if s _ _ _ K (begins c.lead_at.ensures c.in_ok-lead.ensures.begun c.in-If.is))) c.conditional.ensures

pub statement-returns-in-While : goal.statement-returns-in-While
statement-returns-in-While t c = reads (passing c.next-next.ensures (λ s K. statement_while s _ _ _ K (begins c.lead_at.ensures c.in_ok-lead.ensures.begun c.in-While.is))) c.while_loop.ensures

pub statement-returns-in-Do : goal.statement-returns-in-Do
statement-returns-in-Do t c = reads (passing c.next-next.ensures (λ s K. statement_do s _ _ _ K (begins c.lead_at.ensures c.in_ok-lead.ensures.begun c.in-Do.is))) c.do_loop.ensures

pub statement-returns-in-For : goal.statement-returns-in-For
statement-returns-in-For t c = reads (passing c.next-next.ensures (λ s K. statement_for s _ _ _ K (begins c.lead_at.ensures c.in_ok-lead.ensures.begun c.in-For.is))) c.for_loop.ensures

pub statement-returns-in-Jump : goal.statement-returns-in-Jump
statement-returns-in-Jump t c = reads (passing c.next-next.ensures (λ s K. statement_jump s _ _ _ K (begins c.lead_at.ensures c.in_ok-lead.ensures.begun c.in-Jump.is))) (record { onward = c.expect.ensures.onward; same = c.expect.ensures.same (token Semicolon) refl })

pub statement-returns-then-assigns_at : goal.statement-returns-then-assigns_at
statement-returns-then-assigns_at t c =
    reads (passing_two c.next-next.ensures c.next.ensures (λ s K. statement_assign s _ _ _ K (rw c.next-next.ensures at (c.if-assigns_at.ensures.inside refl)) (begins c.lead_at.ensures c.in_ok-lead.ensures.begun c.in-Name.is) (rw c.next-next.ensures at c.if-assigns_at.ensures.same))) c.ended.ensures

pub statement-returns-else-assigns_at : goal.statement-returns-else-assigns_at
statement-returns-else-assigns_at t c =
    reads (here (λ s K. statement_named s _ _ _ K (begins c.lead_at.ensures c.in_ok-lead.ensures.begun c.in-Name.is) (rw c.next-next.ensures at c.if-assigns_at.ensures.same))) c.ended-else-assigns_at.ensures

pub statement-returns-then-is : goal.statement-returns-then-is
statement-returns-then-is t c =
    ends (passing_two c.next-next.ensures c.next-then-is.ensures (λ s K. statement_return_bare s _ _ _ K (begins c.lead_at.ensures c.in_ok-lead.ensures.begun c.in-Return.is) (rw c.next-next.ensures at (sym c.if-is.ensures.same)))) (search rules) (search rules)

pub statement-returns-else-is : goal.statement-returns-else-is
statement-returns-else-is t c =
    reads (passing c.next-next.ensures (λ s K. statement_return s _ _ _ K (begins c.lead_at.ensures c.in_ok-lead.ensures.begun c.in-Return.is) (rw c.next-next.ensures at (sym c.if-is.ensures.same)))) c.ended-else-is.ensures

pub statement-returns-in-Expression : goal.statement-returns-in-Expression
statement-returns-in-Expression t c = reads (here (λ s K. statement_expression s _ _ _ K (begins c.lead_at.ensures c.in_ok-lead.ensures.begun c.in-Expression.is))) c.ended-in-Expression.ensures
