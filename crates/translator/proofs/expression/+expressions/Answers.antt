use Rattle.std.proofs.Common.{◌≡◌, ℕ, suc, ◌-◌, Ok, Err, sym, refl, ap, ◌∙◌, arith, rules}
use native.Mathlib.Decide.{dec_le}
use Rattle.std.proofs.lemmas.Result.{err_from_is_err_and}
use Rattle.refusal.specs.Told.{refused}
use Rattle.meaning.specs.Trees.{negate, invert}
use Rattle.stacks.specs.Held.{seen}
use Rattle.translator.specs.declared.typed.Called.{Called}
use Rattle.translator.proofs.Arguments.{none_done, first_wrong, first_listed, next_wrong, next-listed, listed-done}
use Rattle.translator.proofs.Calls.{call-name, call_place, call_args, callee_wrong, argument_wrong, misfit, call-done, call-fault, call_void, call_gives, takes_is}
use Rattle.translator.proofs.Operands.{when_constant, when_prefix, when_bracket, when_call, when_variable, when_nothing, when_minus, when_bang, negate_keeps, invert_refuses, unary_fault, unary_misfit, prefix_place, negate_under, negate_done, invert_under, invert_done, bracket_inner, bracket_fault, bracket_done}
use Rattle.translator.proofs.Joining.{right_fault, strict_right, strict_done, both_right, both_done, either_right, either_done, other_strict}
use Rattle.translator.proofs.Tails.{tighter, this_level, tighter-fault, no_level, turn, turned, turn-fault, level_done, first_at, first_done, first_fault}
use Rattle.translator.proofs.expression.+expressions.Goals as goal

-- operators

pub strict-returns-in_err-right-clause-same : goal.strict-returns-in_err-right-clause-same
strict-returns-in_err-right-clause-same t c =
    let p = err_from_is_err_and c.from_residual.result c.from_residual.ensures.1 in
    rw (p.1, p.2) (λ sh a q b h. right_fault c.args.operator q a b _ _ _ _ h.typed (c.in_err-right.ensures.same b (strict_right _ _ _ _ _ _ _ _ _ _ _ (c.past.ensures.next c.requires.1) sh h)))

pub strict-returns-clause-same : goal.strict-returns-clause-same
strict-returns-clause-same t c sh a q b h =
    strict_done _ _ _ _ _ _ _ a q b h c.token_at-place.result (c.token_at-place.ensures.there c.requires.1) c.in_ok-right.right _ _ _ sh
    (c.in_ok-right.ensures.same b (strict_right _ _ _ _ _ _ _ _ _ _ _ (c.past.ensures.next c.requires.1) sh h))
    (c.operate.ensures sh) c.result_of.ensures

pub conjunction-returns-in_err-skip-clause-same : goal.conjunction-returns-in_err-skip-clause-same
conjunction-returns-in_err-skip-clause-same t c =
    let p = err_from_is_err_and c.from_residual.result c.from_residual.ensures.1 in
    rw (p.1, p.2) (λ a q b h.
    right_fault _ q a b _ _ _ _ h.typed
    (rw c.in_err-skip.ensures at c.binary.ensures.same b
    (both_right _ _ _ c.args.left _ _ a q b c.token_at-place.result (c.token_at-place.ensures.there c.requires.1) c.past.result (c.past.ensures.next c.requires.1) h _ c.emit-skip.ensures.code)))

pub conjunction-returns-clause-same : goal.conjunction-returns-clause-same
conjunction-returns-clause-same t c a q b h =
    both_done _ _ _ c.args.left _ _ a q b c.token_at-place.result (c.token_at-place.ensures.there c.requires.1) c.past.result (c.past.ensures.next c.requires.1) h
    (seen c.emit-skip.new.code) (seen c.binary.new.code) (seen c.emit-done.new.code) (seen c.land.new.code) (seen c.emit.new.code) (seen c.land-2.new.code)
    c.emit-skip.result.at c.emit-done.result.at c.len-otherwise.result c.len-end.result c.in_ok-skip.right c.result_of.result
    c.emit-skip.ensures.at c.emit-skip.ensures.code (rw c.in_ok-skip.ensures.1 at c.binary.ensures.same b) c.emit-done.ensures.at c.emit-done.ensures.code
    c.len-otherwise.ensures (rw c.in_ok-skip.ensures.0 at c.land.ensures) c.emit.ensures c.len-end.ensures c.land-2.ensures c.result_of.ensures

pub disjunction-returns-in_err-done-clause-same : goal.disjunction-returns-in_err-done-clause-same
disjunction-returns-in_err-done-clause-same t c =
    let p = err_from_is_err_and c.from_residual.result c.from_residual.ensures.1 in
    rw (p.1, p.2) (λ a q b h.
    right_fault _ q a b _ _ _ _ h.typed
    (rw c.in_err-done.ensures at c.binary.ensures.same b
    (either_right _ _ _ c.args.left _ _ a q b c.token_at-place.result (c.token_at-place.ensures.there c.requires.1) c.past.result (c.past.ensures.next c.requires.1) h
    (seen c.emit-otherwise.new.code) (seen c.emit.new.code) (seen c.emit-done.new.code) _ c.emit-otherwise.result.at c.len-start.result
    c.emit-otherwise.ensures.code c.emit.ensures c.emit-done.ensures.code c.len-start.ensures c.land.ensures)))

pub disjunction-returns-clause-same : goal.disjunction-returns-clause-same
disjunction-returns-clause-same t c a q b h =
    either_done _ _ _ c.args.left _ _ a q b c.token_at-place.result (c.token_at-place.ensures.there c.requires.1) c.past.result (c.past.ensures.next c.requires.1) h
    (seen c.emit-otherwise.new.code) (seen c.emit.new.code) (seen c.emit-done.new.code) (seen c.land.new.code) (seen c.binary.new.code) (seen c.land-2.new.code)
    c.emit-otherwise.result.at c.emit-done.result.at c.len-start.result c.len-end.result c.in_ok-done.right c.result_of.result
    c.emit-otherwise.ensures.at c.emit-otherwise.ensures.code c.emit.ensures c.emit-done.ensures.at c.emit-done.ensures.code
    c.len-start.ensures c.land.ensures (rw c.in_ok-done.ensures.1 at c.binary.ensures.same b) c.len-end.ensures (rw c.in_ok-done.ensures.0 at c.land-2.ensures) c.result_of.ensures

pub joined-returns-in-And-clause-same : goal.joined-returns-in-And-clause-same
joined-returns-in-And-clause-same t c = rw c.in-And.is c.conjunction.ensures.same

pub joined-returns-in-Or-clause-same : goal.joined-returns-in-Or-clause-same
joined-returns-in-Or-clause-same t c = rw c.in-Or.is c.disjunction.ensures.same

pub joined-returns-in_default : goal.joined-returns-in_default
joined-returns-in_default t c = record { within = c.strict.ensures.within; same = c.strict.ensures.same (other_strict c.args.operator c.in_default.not-And c.in_default.not-Or) }

-- levels of operators

pub continued-returns-then-loosest-eq0-clause-same : goal.continued-returns-then-loosest-eq0-clause-same
continued-returns-then-loosest-eq0-clause-same t c e h = no_level _ c.if-loosest-eq0.true _ _ _ _ _ e h

-- the level below this one
level_below : (n : ℕ) → (n ≡ 0 → ⊥) → n ≡ suc (n - 1)
level_below n f = elim (dec_le n 0) [ yes h ↦ absurd (f (omega arith)) | no h ↦ omega arith ]

pub continued-returns-in_err-left-clause-same : goal.continued-returns-in_err-left-clause-same
continued-returns-in_err-left-clause-same t c =
    let p = err_from_is_err_and c.from_residual.result c.from_residual.ensures.1 in
    rw (p.1, p.2) (λ e h. let z = level_below c.args.loosest c.if-loosest-eq0.false in tighter-fault _ _ z _ _ _ _ _ e h _ _ (c.in_err-left.ensures.same _ (tighter _ _ z _ _ _ _ _ e h)))

pub continued-returns-in_err-left-2-clause-same : goal.continued-returns-in_err-left-2-clause-same
continued-returns-in_err-left-2-clause-same t c =
    let p = err_from_is_err_and c.from_residual-in_err-left-2.result c.from_residual-in_err-left-2.ensures.1 in
    rw (p.1, p.2) (λ e h.
    let z = level_below c.args.loosest c.if-loosest-eq0.false in
    let f = c.operands.invariant.1 e _ _ (this_level _ _ z _ _ _ _ _ e h c.in_ok-left.left _ (c.in_ok-left.ensures.same _ (tighter _ _ z _ _ _ _ _ e h))) in
    let y = turn _ _ z _ _ _ _ _ c.in-Some.operator e _ _ c.in-Some.ensures.same f in
    turn-fault _ _ z _ _ _ _ _ _ e _ _ y _ _ (c.in_err-left-2.ensures.same _ _ _ y.join))

pub continued-operands-preserved : goal.continued-operands-preserved
continued-operands-preserved t c = (
  search rules,
  λ e r k f.
      let z = level_below c.args.loosest c.if-loosest-eq0.false in
      let y = turn _ _ z _ _ _ _ _ c.in-Some.operator e _ _ c.in-Some.ensures.same (c.operands.invariant.1 e r k f) in
      turned _ _ z _ _ _ _ _ _ e _ _ y c.in_ok-left-2.left _ (c.in_ok-left-2.ensures.same _ _ _ y.join),
)

pub continued-returns-clause-same : goal.continued-returns-clause-same
continued-returns-clause-same t c e h =
    let z = level_below c.args.loosest c.if-loosest-eq0.false in
    let f = c.operands.invariant.1 e _ _ (this_level _ _ z _ _ _ _ _ e h c.in_ok-left.left _ (c.in_ok-left.ensures.same _ (tighter _ _ z _ _ _ _ _ e h))) in
    level_done _ _ _ c.operands.left _ _ e _ _ c.in_default.ensures.same f

pub binary-returns-in_err-left-clause-same : goal.binary-returns-in_err-left-clause-same
binary-returns-in_err-left-clause-same t c =
    let p = err_from_is_err_and c.from_residual.result c.from_residual.ensures.1 in
    rw (p.1, p.2) (λ e h. first_fault e _ _ _ (c.in_err-left.ensures.same _ (first_at _ _ _ _ _ _ e h)))

pub binary-returns-clause-same : goal.binary-returns-clause-same
binary-returns-clause-same t c e h = c.continued.ensures.same e (first_done _ _ _ _ _ _ e h c.in_ok-left.left _ (c.in_ok-left.ensures.same _))

-- operands

pub operand-returns-in-Some-Constant-clause-same : goal.operand-returns-in-Some-Constant-clause-same
operand-returns-in-Some-Constant-clause-same t c =
    when_constant _ _ _ _ _ (seen c.constant.new.code) (Ok c.constant.result) (rw c.in-Some-Constant.field-0-is at c.in-Some-Constant.ensures.same) (λ k h. c.constant.ensures.same _ _ k h)

pub operand-returns-in-Some-Prefix-clause-same : goal.operand-returns-in-Some-Prefix-clause-same
operand-returns-in-Some-Prefix-clause-same t c = when_prefix _ _ _ _ _ _ _ (rw c.in-Some-Prefix.field-0-is at c.in-Some-Prefix.ensures.same) c.prefixed.ensures.same

pub operand-returns-in-Some-Bracket-clause-same : goal.operand-returns-in-Some-Bracket-clause-same
operand-returns-in-Some-Bracket-clause-same t c = when_bracket _ _ _ _ _ _ _ (rw c.in-Some-Bracket.field-0-is at c.in-Some-Bracket.ensures.same) c.bracketed.ensures.same

pub operand-returns-in-Some-Name-clause-same : goal.operand-returns-in-Some-Name-clause-same
operand-returns-in-Some-Name-clause-same t c =
    when_call _ _ _ _ _ _ _ (rw c.in-Some-Name.field-0-is at c.in-Some-Name.ensures.same) (sym c.if-is_at.ensures.same) c.value_of_call.ensures.same

pub operand-returns-in-Some-Name-2-clause-same : goal.operand-returns-in-Some-Name-2-clause-same
operand-returns-in-Some-Name-2-clause-same t c =
    when_variable _ _ _ _ _ _ _ (rw c.in-Some-Name.field-0-is at c.in-Some-Name.ensures.same) (sym c.if-is_at.ensures.same) c.variable.ensures.same

pub operand-returns-in-None-clause-same : goal.operand-returns-in-None-clause-same
operand-returns-in-None-clause-same t c = when_nothing _ _ _ _ _ (seen c.args.code.now) (Err c.unexpected.result) c.in-None.ensures.same

pub prefixed-returns-then-is_at-clause-same : goal.prefixed-returns-then-is_at-clause-same
prefixed-returns-then-is_at-clause-same t c = when_minus _ _ _ _ _ _ _ (sym c.if-is_at.ensures.same) c.negated.ensures.same

pub prefixed-returns-else-is_at-clause-same : goal.prefixed-returns-else-is_at-clause-same
prefixed-returns-else-is_at-clause-same t c = when_bang _ _ _ _ _ _ _ (sym c.if-is_at.ensures.same) c.inverted.ensures.same

pub negated-returns-in_err-under-clause-same : goal.negated-returns-in_err-under-clause-same
negated-returns-in_err-under-clause-same t c =
    let p = err_from_is_err_and c.from_residual.result c.from_residual.ensures.1 in
    rw (p.1, p.2) (λ q e h.
    unary_fault negate q e _ _ _ (c.in_err-under.ensures.same e (negate_under _ _ _ _ _ q e h c.token_at-place.result (c.token_at-place.ensures.there c.requires) _ c.emit.ensures)))

pub negated-returns-in-Char : goal.negated-returns-in-Char
negated-returns-in-Char t c =
    record {
      within = search rules;
      same = λ q e h.
          negate_done _ _ _ _ _ q e h c.token_at-place.result (c.token_at-place.ensures.there c.requires) (seen c.emit.new.code) (seen c.operand.new.code) _ c.in_ok-under.under
          c.emit.ensures (c.in_ok-under.ensures.same e) (c.operate.ensures refl) (negate_keeps _ c.in-Char.is);
    }

pub negated-returns-in-Bool-clause-same : goal.negated-returns-in-Bool-clause-same
negated-returns-in-Bool-clause-same t c =
    rw c.at.ensures (λ q e h.
    let n = c.token_at-place.ensures.there c.requires in
    let d = c.in_ok-under.ensures.same e (negate_under _ _ _ _ _ q e h c.token_at-place.result n _ c.emit.ensures) in
    unary_misfit negate q e _ _ d.0 (rw c.in-Bool.is refl) ∙ ap (refused 15) (sym (prefix_place _ _ _ _ _ negate q e h c.token_at-place.result n)))

pub inverted-returns-in_err-under-clause-same : goal.inverted-returns-in_err-under-clause-same
inverted-returns-in_err-under-clause-same t c =
    let p = err_from_is_err_and c.from_residual.result c.from_residual.ensures.1 in
    rw (p.1, p.2) (λ q e h. unary_fault invert q e _ _ _ (c.in_err-under.ensures.same e (invert_under _ _ _ _ _ q e h c.token_at-place.result (c.token_at-place.ensures.there c.requires))))

pub inverted-returns-in-Bool-clause-same : goal.inverted-returns-in-Bool-clause-same
inverted-returns-in-Bool-clause-same t c q e h =
    invert_done _ _ _ _ _ q e h c.token_at-place.result (c.token_at-place.ensures.there c.requires) (seen c.operand.new.code) _ c.in_ok-under.under
    (c.in_ok-under.ensures.same e) c.emit.ensures (rw c.in-Bool.is refl)

pub inverted-returns-in-Char : goal.inverted-returns-in-Char
inverted-returns-in-Char t c =
    record {
      within = tt;
      same = rw c.at.ensures (λ q e h.
          let n = c.token_at-place.ensures.there c.requires in
          let d = c.in_ok-under.ensures.same e (invert_under _ _ _ _ _ q e h c.token_at-place.result n) in
          unary_misfit invert q e _ _ d.0 (invert_refuses _ c.in-Char.is) ∙ ap (refused 15) (sym (prefix_place _ _ _ _ _ invert q e h c.token_at-place.result n)));
    }

pub bracketed-returns-in_err-inner-clause-same : goal.bracketed-returns-in_err-inner-clause-same
bracketed-returns-in_err-inner-clause-same t c =
    let p = err_from_is_err_and c.from_residual.result c.from_residual.ensures.1 in
    rw (p.1, p.2) (λ q e h. bracket_fault _ _ _ _ _ q e h _ _ (c.in_err-inner.ensures.same e (bracket_inner _ _ _ _ _ q e h)))

pub bracketed-returns-clause-same : goal.bracketed-returns-clause-same
bracketed-returns-clause-same t c q e h = bracket_done _ _ _ _ _ q e h _ c.in_ok-inner.inner c.past.result (c.in_ok-inner.ensures.same e) c.past.ensures.next

-- arguments

pub arguments-returns-then-is_at-clause-same : goal.arguments-returns-then-is_at-clause-same
arguments-returns-then-is_at-clause-same t c = none_done _ _ _ _ _ c.past.result (sym c.if-is_at.ensures.same) c.past.ensures.next

pub arguments-returns-in_err-first-clause-same : goal.arguments-returns-in_err-first-clause-same
arguments-returns-in_err-first-clause-same t c =
    let p = err_from_is_err_and c.from_residual.result c.from_residual.ensures.1 in
    rw (p.1, p.2) (first_wrong _ _ _ _ _ (sym c.if-is_at.ensures.same) _ _ c.in_err-first.ensures.same)

pub arguments-returns-in_err-next-clause-same : goal.arguments-returns-in_err-next-clause-same
arguments-returns-in_err-next-clause-same t c =
    let p = err_from_is_err_and c.from_residual-in_err-next.result c.from_residual-in_err-next.ensures.1 in
    rw (p.1, p.2) (λ xs h.
    next_wrong _ _ _ _ _ _ xs _ _ _ (sym c.arguments-test.ensures.same) _ _ c.in_err-next.ensures.same
    (c.arguments.invariant.2 xs _ _ _ (first_listed _ _ _ _ _ (sym c.if-is_at.ensures.same) _ c.in_ok-first.first c.in_ok-first.ensures.same xs h)))

pub arguments-arguments-preserved : goal.arguments-arguments-preserved
arguments-arguments-preserved t c = (
  search rules,
  search rules,
  λ xs q r k g.
      next-listed _ _ _ _ _ _ xs q r k (sym c.arguments-test.ensures.same) _ c.in_ok-next.next c.in_ok-next.ensures.same (c.arguments.invariant.2 xs q r k g),
)

pub arguments-returns-clause-same : goal.arguments-returns-clause-same
arguments-returns-clause-same t c xs h =
    listed-done _ _ _ _ _ _ xs _ _ _ (sym c.arguments-test.ensures.same) c.past-2.result c.past-2.ensures.next
    (c.arguments.invariant.2 xs _ _ _ (first_listed _ _ _ _ _ (sym c.if-is_at.ensures.same) _ c.in_ok-first.first c.in_ok-first.ensures.same xs h))

-- calls

pub call-returns-in_err-callee-clause-same : goal.call-returns-in_err-callee-clause-same
call-returns-in_err-callee-clause-same t c =
    let p = err_from_is_err_and c.from_residual.result c.from_residual.ensures.1 in
    rw (p.1, p.2) (λ x q xs h. callee_wrong _ _ _ _ _ x q xs h _ (c.in_err-callee.ensures x _ (call-name _ _ _ _ _ x q xs h)))

pub call-returns-in_err-listed-clause-same : goal.call-returns-in_err-listed-clause-same
call-returns-in_err-listed-clause-same t c =
    let p = err_from_is_err_and c.from_residual-in_err-listed.result c.from_residual-in_err-listed.ensures.1 in
    rw (p.1, p.2) (λ x q xs h.
    argument_wrong _ _ _ _ _ x q xs h c.in_ok-callee.callee (c.in_ok-callee.ensures x _ (call-name _ _ _ _ _ x q xs h)) _ _
    (c.in_err-listed.ensures.same xs (call_args _ _ _ _ _ x q xs h c.past-open.result c.past-open.ensures.next)))

pub call-returns-then-not-takes-clause-same : goal.call-returns-then-not-takes-clause-same
call-returns-then-not-takes-clause-same t c =
    rw c.at.ensures (λ x q xs h.
    let d = c.in_ok-listed.ensures.same xs (call_args _ _ _ _ _ x q xs h c.past-open.result c.past-open.ensures.next) in
    misfit _ _ _ _ _ x q xs h c.in_ok-callee.callee (c.in_ok-callee.ensures x _ (call-name _ _ _ _ _ x q xs h)) d.0 c.token_at-place.result (c.token_at-place.ensures.there c.requires)
    d.1 (takes_is _ d.0 _ _ c.if-not-takes.ensures d.2))

pub call-returns-clause-same : goal.call-returns-clause-same
call-returns-clause-same t c x q xs h =
    let d = c.in_ok-listed.ensures.same xs (call_args _ _ _ _ _ x q xs h c.past-open.result c.past-open.ensures.next) in
    call-done _ _ _ _ _ x q xs h c.in_ok-callee.callee (c.in_ok-callee.ensures x _ (call-name _ _ _ _ _ x q xs h)) d.0 c.token_at-place.result (seen c.arguments.new.code) _ _ _ _
    (c.token_at-place.ensures.there c.requires) d.1 (takes_is _ d.0 _ _ c.if-not-takes.ensures d.2) d.3 d.4 c.call_op.ensures c.emit.ensures c.gives.ensures

pub value_of_call-returns-in_err-called-clause-same : goal.value_of_call-returns-in_err-called-clause-same
value_of_call-returns-in_err-called-clause-same t c =
    let p = err_from_is_err_and c.from_residual.result c.from_residual.ensures.1 in
    rw (p.1, p.2) (λ x q xs h. call-fault x q xs _ _ _ (c.in_err-called.ensures.same x q xs h))

pub value_of_call-returns-in-Some-clause-same : goal.value_of_call-returns-in-Some-clause-same
value_of_call-returns-in-Some-clause-same t c x q xs h =
    let d = c.in_ok-called.ensures.same x q xs h in
    let f = ap (λ (k : Called). k.gives) c.in-Some.ensures.some in
    let g = ap (λ (k : Called). k.end) c.in-Some.ensures.some in
    (call_gives x q xs _ _ (d.0 ∙ rw f refl), rw g at d.1, d.2)

pub value_of_call-returns-in-None-clause-same : goal.value_of_call-returns-in-None-clause-same
value_of_call-returns-in-None-clause-same t c =
    rw c.at.ensures (λ x q xs h.
    let d = c.in_ok-called.ensures.same x q xs h in
    call_void x q xs _ (d.0 ∙ rw (c.value.ensures.none c.in-None.is) refl) ∙ ap (refused 15) (sym (call_place _ _ _ _ _ x q xs h c.token_at.result (c.token_at.ensures.there c.requires))))
