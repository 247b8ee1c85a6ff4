-- Where main begins nothing is left; else the first item is translated, and the others are left.
use Rattle.std.proofs.lemmas.Result.{err_from_is_err_and}
use Rattle.std.proofs.Common.{Ok, Err}
use Rattle.stacks.specs.Held.{seen}
use Rattle.translator.proofs.Items.{items_nowhere, items_ended, items_fault, items_further}
use Rattle.translator.proofs.script.items.Goals as goal

pub items-init : goal.items-init
items-init c is h = (is, h, λ M D r d. d)

pub returns-in-Some : goal.returns-in-Some
returns-in-Some c is h =
    let i = c.items.invariant is h in
    let N = seen c.items.names in
    let C = seen c.items.code in
    i.2 N C (Ok c.in-Some.rest) (items_ended c.args.text.now.source.now c.args.text.now.tokens.now c.items.at N C i.0 i.1 c.in-Some.rest c.in-Some.ensures)

pub returns-in_err-at-in-None : goal.returns-in_err-at-in-None
returns-in_err-at-in-None c =
    let p = err_from_is_err_and c.from_residual.result c.from_residual.ensures.1 in
    rw (p.1, p.2) (λ is h.
    let i = c.items.invariant is h in
    let M = seen c.item.new.names in
    let D = seen c.item.new.code in
    i.2 M D (Err c.in_err-at-in-None.field-0.0)
    (items_fault c.args.text.now.source.now c.args.text.now.tokens.now c.items.at (seen c.items.names) (seen c.items.code) M D i.0 i.1 c.in_err-at-in-None.field-0.0 c.in-None.ensures
    c.in_err-at-in-None.ensures.same))

pub items-preserved : goal.items-preserved
items-preserved c =
    items_further c.args.text.now.source.now c.args.text.now.tokens.now 0 c.items.at c.in_ok-at-in-None.at (seen c.args.names.now) (seen c.items.names) (seen c.item.new.names)
    (seen c.args.code.now) (seen c.items.code) (seen c.item.new.code) c.items.invariant c.in-None.ensures c.in_ok-at-in-None.ensures.same

pub returns : goal.returns
returns c is h =
    let i = c.items.invariant is h in
    absurd (items_nowhere c.args.text.now.source.now c.args.text.now.tokens.now c.items.at (seen c.items.names) (seen c.items.code) i.0 i.1 c.items-test.false)
