use Rattle.std.proofs.Common.{sym, refl, ◌∙◌, ◌∷◌, arith}
use Rattle.meaning.proofs.Stack.{a_name}
use Rattle.parser.specs.Steps.{an_initializer}
use Rattle.parser.proofs.Places.{here, reading, reads, stops, wanted, item_reads, item_fails}
use Rattle.parser.proofs.Scripts.{script_extern, item_go, item_stop}
use Rattle.parser.proofs.cursor.Cursor.item.Goals as goal

pub returns-then-is : goal.returns-then-is
returns-then-is c = item_reads c.args.self refl (omega arith) c.next.ensures (λ s K m. script_extern s _ _ K (sym c.if-is.ensures.same)) c.external.ensures

pub returns-in_err-pass_if : goal.returns-in_err-pass_if
returns-in_err-pass_if c = item_fails _ c.from_residual.ensures.1 (λ s K m. rw c.in_err-pass_if.ensures.1 (item_stop s _ _ _ K c.past_static.ensures.same (sym c.if-is.ensures.same) (sym c.in_err-pass_if.ensures.0 ∙ c.scalar_at.ensures.same)))

pub returns-in_err-expect : goal.returns-in_err-expect
returns-in_err-expect c =
    item_reads {G = λ K. a_name ∷ an_initializer K} (record { text = c.args.self.text; at = c.past_static.result }) refl c.past_static.ensures.near c.in_ok-pass_if.ensures.1
    (λ s K m. item_go s _ _ _ K c.past_static.ensures.same (sym c.if-is.ensures.same) m (c.scalar_at.ensures.inside c.in_ok-pass_if.ensures.0) (sym c.in_ok-pass_if.ensures.0 ∙ c.scalar_at.ensures.same))
    (stops (wanted c.in_err-expect.ensures a_name refl) c.from_residual-in_err-expect.ensures.1 (here (λ s K. refl)))

pub returns : goal.returns
returns c =
    item_reads {G = λ K. a_name ∷ an_initializer K} (record { text = c.args.self.text; at = c.past_static.result }) refl c.past_static.ensures.near c.in_ok-pass_if.ensures.1
    (λ s K m. item_go s _ _ _ K c.past_static.ensures.same (sym c.if-is.ensures.same) m (c.scalar_at.ensures.inside c.in_ok-pass_if.ensures.0) (sym c.in_ok-pass_if.ensures.0 ∙ c.scalar_at.ensures.same))
    (reads (reading (wanted c.in_ok-expect.ensures a_name refl)) c.initializer.ensures)
