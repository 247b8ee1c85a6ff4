use Rattle.std.proofs.Common.{Err, arith, rules}
use Rattle.std.proofs.lemmas.Result.{err_from_is_err_and}
use Rattle.stacks.specs.Held.{seen}
use Rattle.translator.specs.Statements.{held}
use Rattle.translator.proofs.Branches.{else_fails, else_done, condition_refused, conditional_fails, conditional_then, conditional_else}
use Rattle.translator.proofs.Fors.{for_unbound, for_full, for_fails, for_done}
use Rattle.translator.proofs.Forms.{dispatch, names_evaluate, names_modify, names_assign}
use Rattle.translator.proofs.Levels.{body_fails, body_done, block_fails, block_done}
use Rattle.translator.proofs.Records.{cells_all}
use Rattle.translator.proofs.Repeats.{while_refused, while_fails, while_done, do_fails, do_refused, do_done, count_fails, count_done}
use Rattle.translator.proofs.Sequences.{stmts_begin, stmts_over, stmts_fail, stmts_more}
use Rattle.translator.proofs.work.Work.+statements.Goals as goal

pub block-returns-in_err-close-clause-same : goal.block-returns-in_err-close-clause-same
block-returns-in_err-close-clause-same t c =
    let p = err_from_is_err_and c.from_residual.result c.from_residual.ensures.1 in
    rw (p.1, p.2) (block_fails _ _ _ _ _ _ (seen c.statements.new.self.names) (seen c.statements.new.self.names) _
    (seen c.statements.new.self.jumps) _ (seen c.statements.new.self.code) (c.enter.ensures c.args.text.now.source.now) _
    c.in_err-close.ensures.same)

pub block-returns-clause-same : goal.block-returns-clause-same
block-returns-clause-same t c =
    block_done _ _ _ _ _ _ _ _ _ _ _ _ (c.enter.ensures c.args.text.now.source.now) _ _ c.in_ok-close.ensures.same
    c.len-mark.ensures c.truncate.ensures.after

pub body-returns-in_err-end-clause-same : goal.body-returns-in_err-end-clause-same
body-returns-in_err-end-clause-same t c =
    let p = err_from_is_err_and c.from_residual.result c.from_residual.ensures.1 in
    rw (p.1, p.2) (body_fails _ _ _ _ _ _ (seen c.statement.new.self.names) (seen c.statement.new.self.names) _
    (seen c.statement.new.self.jumps) _ (seen c.statement.new.self.code) (c.enter.ensures c.args.text.now.source.now) _
    c.in_err-end.ensures.same)

pub body-returns-clause-same : goal.body-returns-clause-same
body-returns-clause-same t c =
    body_done _ _ _ _ _ _ _ _ _ _ _ _ (c.enter.ensures c.args.text.now.source.now) _ _ c.in_ok-end.ensures.same
    c.len-mark.ensures c.truncate.ensures.after

pub conditional-returns-in_err-inside-clause-same : goal.conditional-returns-in_err-inside-clause-same
conditional-returns-in_err-inside-clause-same t c =
    let p = err_from_is_err_and c.from_residual.result c.from_residual.ensures.1 in
    rw (p.1, p.2) (condition_refused _ _ _ _ _ _ _ _ c.token_at-place.ensures.there _ (seen c.condition.new.code)
    c.in_err-inside.ensures.same)

pub conditional-returns-then-is_at-clause-same : goal.conditional-returns-then-is_at-clause-same
conditional-returns-then-is_at-clause-same t c =
    conditional_else _ _ _ _ _ _ _ _ c.token_at-place.ensures.there _ _ _ _ _ _ _ c.emit-skip.ensures.at
    c.in_ok-inside.ensures.same c.emit-skip.ensures.code _ (rw c.in_ok-skip.ensures.1 at c.body.ensures.same) c.if-is_at.ensures.same _ _ _ _
    (rw c.in_ok-skip.ensures.0 at c.otherwise.ensures.same)

pub conditional-returns-else-is_at-clause-same : goal.conditional-returns-else-is_at-clause-same
conditional-returns-else-is_at-clause-same t c =
    conditional_then _ _ _ _ _ _ _ _ c.token_at-place.ensures.there _ _ _ _ _ _ _ c.emit-skip.ensures.at
    c.in_ok-inside.ensures.same c.emit-skip.ensures.code _ (rw c.in_ok-skip.ensures.1 at c.body.ensures.same) c.if-is_at.ensures.same _ _
    c.len-after.ensures (rw c.in_ok-skip.ensures.0 at c.land.ensures)

pub conditional-returns-in_err-skip-clause-same : goal.conditional-returns-in_err-skip-clause-same
conditional-returns-in_err-skip-clause-same t c =
    let p = err_from_is_err_and c.from_residual-in_err-skip.result c.from_residual-in_err-skip.ensures.1 in
    rw (p.1, p.2) (conditional_fails _ _ _ _ _ _ _ _ c.token_at-place.ensures.there _ _ _ _ (seen c.body.new.self.code)
    (seen c.body.new.self.names) (seen c.body.new.self.jumps) c.emit-skip.ensures.at c.in_ok-inside.ensures.same
    c.emit-skip.ensures.code _ (rw c.in_err-skip.ensures at c.body.ensures.same))

pub counting-returns-clause-same : goal.counting-returns-clause-same
counting-returns-clause-same t c =
    count_done _ _ _ _ _ _ _ _ _ _ _ _ _ c.len-start.ensures c.len-mark.ensures c.emit_test.ensures
    c.emit-exit.ensures.at c.emit-exit.ensures.code _ _ _ _ _ _ _ _ (rw c.in_ok-exit.ensures.1 at c.body.ensures.same) c.len-next.ensures
    c.emit_advance.ensures (rw c.in_ok-exit.ensures.0 at c.close_loop.ensures)

pub counting-returns-in_err-exit-clause-same : goal.counting-returns-in_err-exit-clause-same
counting-returns-in_err-exit-clause-same t c =
    let p = err_from_is_err_and c.from_residual.result c.from_residual.ensures.1 in
    rw (p.1, p.2) (count_fails _ _ _ _ _ _ _ _ _ _ _ _ _ c.len-start.ensures c.len-mark.ensures c.emit_test.ensures
    c.emit-exit.ensures.at c.emit-exit.ensures.code _ (seen c.body.new.self.names) (seen c.body.new.self.jumps)
    (seen c.body.new.self.code) (rw c.in_err-exit.ensures at c.body.ensures.same))

pub do_loop-returns-in_err-end-clause-same : goal.do_loop-returns-in_err-end-clause-same
do_loop-returns-in_err-end-clause-same t c =
    let p = err_from_is_err_and c.from_residual.result c.from_residual.ensures.1 in
    rw (p.1, p.2) (do_fails _ _ _ _ _ _ _ _ _ c.len-start.ensures c.len-mark.ensures _ c.token_at-place.ensures.there
    c.emit.ensures _ (seen c.body.new.self.names) (seen c.body.new.self.jumps) (seen c.body.new.self.code) c.in_err-end.ensures.same)

pub do_loop-returns-in_err-semicolon-clause-same : goal.do_loop-returns-in_err-semicolon-clause-same
do_loop-returns-in_err-semicolon-clause-same t c =
    let p = err_from_is_err_and c.from_residual-in_err-semicolon.result c.from_residual-in_err-semicolon.ensures.1 in
    rw (p.1, p.2) (do_refused _ _ _ _ _ _ _ _ _ c.len-start.ensures c.len-mark.ensures _ c.token_at-place.ensures.there
    c.emit.ensures _ _ _ _ _ _ (seen c.condition.new.code) c.in_ok-end.ensures.same c.len-next.ensures
    c.past.ensures.next _ c.in_err-semicolon.ensures.same)

pub do_loop-returns-clause-same : goal.do_loop-returns-clause-same
do_loop-returns-clause-same t c =
    do_done _ _ _ _ _ _ _ _ _ c.len-start.ensures c.len-mark.ensures _ c.token_at-place.ensures.there c.emit.ensures _ _
    _ _ _ _ _ c.in_ok-end.ensures.same c.len-next.ensures c.past.ensures.next _ _ _ _ _ _ c.in_ok-semicolon.ensures.same
    c.emit-exit.ensures.at c.emit-exit.ensures.code c.close_loop.ensures c.past-2.ensures.next

pub for_loop-returns-in_err-inside-clause-same : goal.for_loop-returns-in_err-inside-clause-same
for_loop-returns-in_err-inside-clause-same t c =
    let p = err_from_is_err_and c.from_residual.result c.from_residual.ensures.1 in
    rw (p.1, p.2) (for_unbound _ _ _ _ _ _ _ _ (seen c.bounds.new.code) c.past.ensures.next c.past-name.ensures.next _
    c.in_err-inside.ensures.same)

pub for_loop-returns-then-cell-gt-CELLS_BEFORE_FOR-clause-same : goal.for_loop-returns-then-cell-gt-CELLS_BEFORE_FOR-clause-same
for_loop-returns-then-cell-gt-CELLS_BEFORE_FOR-clause-same t c =
    rw c.at.ensures (for_full _ _ _ _ _ _ _ _ _ c.past.ensures.next c.past-name.ensures.next _ _
    c.in_ok-inside.ensures.same
    (cells_all _ _ _ _ c.len-mark.ensures (c.cells_in-cell.ensures c.args.text.now.source.now)) _
    c.token_at-name_place.ensures.there c.if-cell-gt-CELLS_BEFORE_FOR.true)

pub for_loop-returns-in_err-end-clause-same : goal.for_loop-returns-in_err-end-clause-same
for_loop-returns-in_err-end-clause-same t c =
    let p = err_from_is_err_and c.from_residual-in_err-end.result c.from_residual-in_err-end.ensures.1 in
    rw (p.1, p.2) (for_fails _ _ _ _ _ _ _ _ _ c.past.ensures.next c.past-name.ensures.next _ _
    c.in_ok-inside.ensures.same
    (cells_all _ _ _ _ c.len-mark.ensures (c.cells_in-cell.ensures c.args.text.now.source.now)) _ _
    c.token_at-place.ensures.there c.token_at-name_place.ensures.there c.if-cell-gt-CELLS_BEFORE_FOR.false _ _ _
    (seen c.counting.new.self.names) (seen c.counting.new.self.jumps) _ _ (seen c.counting.new.self.code)
    (c.enter.ensures c.args.text.now.source.now) (c.bind.ensures c.args.text.now.source.now)
    (c.enter-2.ensures c.args.text.now.source.now) c.emit.ensures c.emit-2.ensures _ c.in_err-end.ensures.same)

pub for_loop-returns-clause-same : goal.for_loop-returns-clause-same
for_loop-returns-clause-same t c =
    for_done _ _ _ _ _ _ _ _ _ c.past.ensures.next c.past-name.ensures.next _ _ c.in_ok-inside.ensures.same
    (cells_all _ _ _ _ c.len-mark.ensures (c.cells_in-cell.ensures c.args.text.now.source.now)) _ _
    c.token_at-place.ensures.there c.token_at-name_place.ensures.there c.if-cell-gt-CELLS_BEFORE_FOR.false _ _ _ _ _ _ _
    _ (c.enter.ensures c.args.text.now.source.now) (c.bind.ensures c.args.text.now.source.now)
    (c.enter-2.ensures c.args.text.now.source.now) c.emit.ensures c.emit-2.ensures _ _ _ c.len-mark.ensures
    c.truncate.ensures.after c.in_ok-end.ensures.same

pub otherwise-returns-clause-same : goal.otherwise-returns-clause-same
otherwise-returns-clause-same t c =
    else_done _ _ _ _ _ _ _ _ _ _ _ _ _ _ _ _ c.emit-done.ensures.code c.emit-done.ensures.at c.len-start.ensures
    c.land.ensures _ _ _ (rw c.in_ok-done.ensures.1 at c.body.ensures.same) c.len-after.ensures (rw c.in_ok-done.ensures.0 at c.land-2.ensures)

pub otherwise-returns-in_err-done-clause-same : goal.otherwise-returns-in_err-done-clause-same
otherwise-returns-in_err-done-clause-same t c =
    let p = err_from_is_err_and c.from_residual.result c.from_residual.ensures.1 in
    rw (p.1, p.2) (else_fails _ _ _ _ _ _ _ _ _ (seen c.body.new.self.names) _ (seen c.body.new.self.jumps) _ _ _ (seen c.body.new.self.code)
    c.emit-done.ensures.code c.emit-done.ensures.at c.len-start.ensures c.land.ensures _ (rw c.in_err-done.ensures at c.body.ensures.same))

pub statement-returns-then-not-assigns_at-clause-same : goal.statement-returns-then-not-assigns_at-clause-same
statement-returns-then-not-assigns_at-clause-same t c =
    dispatch _ _ _ _ _ _ _ _ (rw c.in-Some-Name.field-0-is at c.in-Some-Name.ensures.same)
    (names_evaluate _ _ _ _ _ _ _ _ _ c.if-not-assigns_at.ensures.same c.evaluation.ensures.same)

pub statement-returns-in-Some-Block-clause-same : goal.statement-returns-in-Some-Block-clause-same
statement-returns-in-Some-Block-clause-same t c =
    dispatch _ _ _ _ _ _ _ _ (rw c.in-Some-Block.field-0-is at c.in-Some-Block.ensures.same) c.block.ensures.same

pub statement-returns-in-Some-Definition-clause-same : goal.statement-returns-in-Some-Definition-clause-same
statement-returns-in-Some-Definition-clause-same t c =
    dispatch _ _ _ _ _ _ _ _ (rw c.in-Some-Definition.field-0-is at c.in-Some-Definition.ensures.same)
    (λ k q x e. c.definition.ensures.same k q x e (seen c.args.self.now.jumps) c.args.in_loop)

pub statement-returns-in-Some-clause-same : goal.statement-returns-in-Some-clause-same
statement-returns-in-Some-clause-same t c =
    dispatch _ _ _ _ _ _ _ _ (rw c.in-Some-Name.field-0-is at c.in-Some-Name.ensures.same)
    (names_modify _ _ _ _ _ _ _ _ _ c.if-not-assigns_at.ensures.same _ c.token_at.ensures.there _ c.in-Some.ensures c.modification.ensures.same)

pub statement-returns-in-None-modifier_of-clause-same : goal.statement-returns-in-None-modifier_of-clause-same
statement-returns-in-None-modifier_of-clause-same t c =
    dispatch _ _ _ _ _ _ _ _ (rw c.in-Some-Name.field-0-is at c.in-Some-Name.ensures.same)
    (names_assign _ _ _ _ _ _ _ _ _ c.if-not-assigns_at.ensures.same _ c.token_at.ensures.there c.in-None-modifier_of.ensures c.assignment.ensures.same)

pub statement-returns-in-Some-If-clause-same : goal.statement-returns-in-Some-If-clause-same
statement-returns-in-Some-If-clause-same t c =
    dispatch _ _ _ _ _ _ _ _ (rw c.in-Some-If.field-0-is at c.in-Some-If.ensures.same) c.conditional.ensures.same

pub statement-returns-in-Some-While-clause-same : goal.statement-returns-in-Some-While-clause-same
statement-returns-in-Some-While-clause-same t c =
    dispatch _ _ _ _ _ _ _ _ (rw c.in-Some-While.field-0-is at c.in-Some-While.ensures.same)
    (c.while_loop.ensures.same c.args.in_loop)

pub statement-returns-in-Some-Do-clause-same : goal.statement-returns-in-Some-Do-clause-same
statement-returns-in-Some-Do-clause-same t c =
    dispatch _ _ _ _ _ _ _ _ (rw c.in-Some-Do.field-0-is at c.in-Some-Do.ensures.same)
    (c.do_loop.ensures.same c.args.in_loop)

pub statement-returns-in-Some-For-clause-same : goal.statement-returns-in-Some-For-clause-same
statement-returns-in-Some-For-clause-same t c =
    dispatch _ _ _ _ _ _ _ _ (rw c.in-Some-For.field-0-is at c.in-Some-For.ensures.same)
    (c.for_loop.ensures.same c.args.in_loop)

pub statement-returns-in-Some-Jump-clause-same : goal.statement-returns-in-Some-Jump-clause-same
statement-returns-in-Some-Jump-clause-same t c =
    dispatch _ _ _ _ _ _ _ _ (rw c.in-Some-Jump.field-0-is at c.in-Some-Jump.ensures.same)
    (c.jump.ensures.same c.args.text.now.source.now (seen c.args.self.now.names))

pub statement-returns-in-Some-Return-clause-same : goal.statement-returns-in-Some-Return-clause-same
statement-returns-in-Some-Return-clause-same t c =
    dispatch _ _ _ _ _ _ _ _ (rw c.in-Some-Return.field-0-is at c.in-Some-Return.ensures.same)
    ((λ p e q. c.returning.ensures.same.0 p e q (seen c.args.self.now.jumps) c.args.in_loop), (λ p q. c.returning.ensures.same.1 p q (seen c.args.self.now.jumps) c.args.in_loop))

pub statement-returns-in-Some-Expression-clause-same : goal.statement-returns-in-Some-Expression-clause-same
statement-returns-in-Some-Expression-clause-same t c =
    dispatch _ _ _ _ _ _ _ _ (rw c.in-Some-Expression.field-0-is at c.in-Some-Expression.ensures.same)
    (λ e q. c.evaluation-in-Some-Expression.ensures.same e q (seen c.args.self.now.jumps) c.args.in_loop)

pub statement-returns-in-None-clause-same : goal.statement-returns-in-None-clause-same
statement-returns-in-None-clause-same t c =
    dispatch _ _ _ c.args.in_loop _ (held c.args.self.now) (Err c.unexpected.result) _ c.in-None.ensures.same tt

pub statements-statements-init : goal.statements-statements-init
statements-statements-init t c = (omega arith, stmts_begin _ _ _ _ _)

pub statements-returns-in_err-end-clause-same : goal.statements-returns-in_err-end-clause-same
statements-returns-in_err-end-clause-same t c =
    let p = err_from_is_err_and c.from_residual.result c.from_residual.ensures.1 in
    rw (p.1, p.2) (stmts_fail _ _ _ _ _ _ _ c.statements.invariant.1 c.statements-test.ensures.same
    (held c.statement.new.self) _
    c.in_err-end.ensures.same)

pub statements-statements-preserved : goal.statements-statements-preserved
statements-statements-preserved t c = (
  search rules,
  stmts_more _ _ _ _ _ _ _ c.statements.invariant.1 c.statements-test.ensures.same _ _ c.in_ok-end.ensures.same,
)

pub statements-returns-clause-same : goal.statements-returns-clause-same
statements-returns-clause-same t c =
    stmts_over _ _ _ _ _ _ _ c.statements.invariant.1 c.statements-test.ensures.same

pub while_loop-returns-in_err-inside-clause-same : goal.while_loop-returns-in_err-inside-clause-same
while_loop-returns-in_err-inside-clause-same t c =
    let p = err_from_is_err_and c.from_residual.result c.from_residual.ensures.1 in
    rw (p.1, p.2) (while_refused _ _ _ _ _ _ _ _ _ c.len-start.ensures c.len-mark.ensures _
    c.token_at-place.ensures.there c.emit.ensures _ (seen c.condition.new.code) c.in_err-inside.ensures.same)

pub while_loop-returns-clause-same : goal.while_loop-returns-clause-same
while_loop-returns-clause-same t c =
    while_done _ _ _ _ _ _ _ _ _ c.len-start.ensures c.len-mark.ensures _ c.token_at-place.ensures.there c.emit.ensures
    _ _ _ _ _ _ _ c.in_ok-inside.ensures.same c.emit-exit.ensures.at c.emit-exit.ensures.code _ _ _ (rw c.in_ok-exit.ensures.1 at c.body.ensures.same)
    (rw c.in_ok-exit.ensures.0 at c.close_loop.ensures)

pub while_loop-returns-in_err-exit-clause-same : goal.while_loop-returns-in_err-exit-clause-same
while_loop-returns-in_err-exit-clause-same t c =
    let p = err_from_is_err_and c.from_residual-in_err-exit.result c.from_residual-in_err-exit.ensures.1 in
    rw (p.1, p.2) (while_fails _ _ _ _ _ _ _ _ _ c.len-start.ensures c.len-mark.ensures _ c.token_at-place.ensures.there c.emit.ensures
    _ _ _ _ (seen c.body.new.self.code) (seen c.body.new.self.names) (seen c.body.new.self.jumps) c.in_ok-inside.ensures.same
    c.emit-exit.ensures.at c.emit-exit.ensures.code _ (rw c.in_err-exit.ensures at c.body.ensures.same))
