use Rattle.std.proofs.Common.{sym, ap, ◌∙◌, arith, Bor}
use Rattle.lookahead.specs.declared.text.Text.{Text}
use Rattle.lookahead.specs.Seen.{past_main}
use Rattle.parser.proofs.Places.{onward}
use Rattle.parser.proofs.Scripts.{main_near, script_main}
use Rattle.parser.proofs.cursor.Cursor.script.Goals as goal

pub returns-in-Some : goal.returns-in-Some
returns-in-Some c =
    let before = c.items.invariant in
    let item = c.items.item in
    let begun = ap (λ (t : Bor Text). past_main t.now.source.now item.text.now.tokens.now item.at) (sym before.text) ∙ sym c.in-Some.ensures in
    let near = main_near item.text.now.source.now item.text.now.tokens.now item.at c.in-Some.at (sym c.in-Some.ensures) in
    let onto = before.near in
    record {
      onward = onward _ _ _ before.text (omega (arith, near, onto)) c.main_rest.ensures.onward;
      same = λ K. before.same K ∙ script_main _ _ _ _ K begun ∙ c.main_rest.ensures.same _ K;
    }
