-- The words of the global stand where they are looked for; its type is tested first.
use Rattle.std.proofs.Common.{ap, not, ◌∙◌, true, false, w32, SFits, rules}
use mathlib.Core.Option.{none}
use Rattle.lexer.specs.Reading.{lexemes}
use Rattle.std.proofs.lemmas.Result.{err_from_is_err_and}
use Rattle.std.proofs.lemmas.Int.{to_z-of_z}
use Rattle.stacks.specs.Held.{seen}
use Rattle.translator.specs.Names.{scope_of}
use Rattle.translator.proofs.Heads.{past_is}
use Rattle.translator.proofs.Joining.{placed_at}
use Rattle.translator.proofs.Records.{cells_all}
use Rattle.translator.proofs.Scalars.{other_scalar}
use Rattle.translator.proofs.Items.{seen_global, global_mismatch, global_fault, global_emitted, global_done}
use Rattle.translator.proofs.script.global.Goals as goal

pub returns-then-ne : goal.returns-then-ne
returns-then-ne c =
    record {
      within = tt;
      same = λ q t x k h.
          let s = c.args.text.now.source.now in
          let ts = c.args.text.now.tokens.now in
          let w =
          seen_global s ts c.args.at c.past-name.result c.past.result c.past-value.result c.token_at.result c.token_at-constant.result c.token_at-place.result c.scalar_of-kind.result
          c.literal_of-literal.result false q t x k h.rest h.stands c.past-name.ensures.next c.past.ensures.next c.past-value.ensures.next c.token_at.ensures.there c.token_at-constant.ensures.there
          c.token_at-place.ensures.there c.scalar_of-kind.ensures c.literal_of-literal.ensures (ap not c.if-ne.ensures ∙ other_scalar _ _) in
          rw c.at.ensures (rw w.there (global_mismatch (scope_of s (seen c.args.names.now).held) none q t x k w.same));
    }

pub returns-in_err-define : goal.returns-in_err-define
returns-in_err-define c =
    let p = err_from_is_err_and c.from_residual.result c.from_residual.ensures.1 in
    rw (p.1, p.2) (record {
      within = tt;
      same = λ q t x k h.
          let s = c.args.text.now.source.now in
          let ts = c.args.text.now.tokens.now in
          let w =
          seen_global s ts c.args.at c.past-name.result c.past.result c.past-value.result c.token_at.result c.token_at-constant.result c.token_at-place.result c.scalar_of-kind.result
          c.literal_of-literal.result true q t x k h.rest h.stands c.past-name.ensures.next c.past.ensures.next c.past-value.ensures.next c.token_at.ensures.there c.token_at-constant.ensures.there
          c.token_at-place.ensures.there c.scalar_of-kind.ensures c.literal_of-literal.ensures (ap not c.if-ne.ensures ∙ other_scalar _ _) in
          global_fault s ts c.args.at (seen c.args.names.now) (seen c.define.new.names) (seen c.args.code.now) q t x k h c.scalar_of-kind.result w.typed w.same _
          (c.in_err-define.ensures x _ w.named);
    })

pub returns : goal.returns
returns c =
    record {
      within = search rules;
      same = λ q t x k h.
          let s = c.args.text.now.source.now in
          let ts = c.args.text.now.tokens.now in
          let ns = (seen c.args.names.now).held in
          let w =
          seen_global s ts c.args.at c.past-name.result c.past.result c.past-value.result c.token_at.result c.token_at-constant.result c.token_at-place.result c.scalar_of-kind.result
          c.literal_of-literal.result true q t x k h.rest h.stands c.past-name.ensures.next c.past.ensures.next c.past-value.ensures.next c.token_at.ensures.there c.token_at-constant.ensures.there
          c.token_at-place.ensures.there c.scalar_of-kind.ensures c.literal_of-literal.ensures (ap not c.if-ne.ensures ∙ other_scalar _ _) in
          let v : SFits w32 c.literal_of-literal.result.value = search rules in
          let n = cells_all s ns _ _ c.len.ensures (c.cells_in-cell.ensures s) in
          let d =
          global_emitted (scope_of s ns) none q t x k (seen c.args.code.now) (seen c.emit_constant.new.code) (seen c.emit.new.code) h.code c.literal_of-literal.result.value
          c.token_at-constant.result.place c.token_at-place.result.place c.cells_in-cell.result h.begun (simp to_z-of_z at c.emit_constant.ensures) c.emit.ensures w.worth
          w.constant_there w.there n h.few h.room (rw w.constant_there (placed_at (lexemes s ts) _ _ _ h.placed w.valued))
          (rw w.there (placed_at (lexemes s ts) _ _ _ h.placed w.named)) in
          let e = past_is s ts c.past-2.result c.past-3.result _ _ (past_is s ts _ c.past-2.result _ _ w.valued c.past-2.ensures.next) c.past-3.ensures.next in
          global_done s ts c.args.at (seen c.args.names.now) (seen c.define.new.names) (seen c.args.code.now) q t x k h c.scalar_of-kind.result w.typed w.same
          (seen c.emit.new.code) c.past-3.result e (c.in_ok-define.ensures x _ w.named) d;
    }
