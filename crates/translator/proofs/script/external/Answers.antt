-- The words of the extern stand where they are looked for.
use Rattle.std.proofs.Common.{refl, rules}
use Rattle.std.proofs.lemmas.Result.{err_from_is_err_and}
use Rattle.stacks.specs.Held.{seen}
use Rattle.translator.proofs.Heads.{past_is}
use Rattle.translator.proofs.Items.{seen_extern, extern_fault, extern_done}
use Rattle.translator.proofs.script.external.Goals as goal

pub returns-in_err-declare : goal.returns-in_err-declare
returns-in_err-declare c =
    let p = err_from_is_err_and c.from_residual.result c.from_residual.ensures.1 in
    rw (p.1, p.2) (record {
      within = tt;
      same = λ q t x a C h.
          let s = c.args.text.now.source.now in
          let ts = c.args.text.now.tokens.now in
          let w =
          seen_extern s ts c.args.at c.past-name.result c.past.result c.past-inside.result c.token_at.result c.given_by-gives.result c.parameter_at-parameter.result q t x a h.rest
          h.stands c.past-name.ensures.next c.past.ensures.next c.past-inside.ensures.next c.token_at.ensures.there c.given_by-gives.ensures c.parameter_at-parameter.ensures.same in
          extern_fault s ts (seen c.args.names.now) (seen c.declare.new.names) C q t x a h.code c.given_by-gives.result c.parameter_at-parameter.result.takes w.gives w.taken _
          (c.in_err-declare.ensures x _ w.named);
    })

pub returns : goal.returns
returns c =
    record {
      within = search rules;
      same = λ q t x a C h.
          let s = c.args.text.now.source.now in
          let ts = c.args.text.now.tokens.now in
          let w =
          seen_extern s ts c.args.at c.past-name.result c.past.result c.past-inside.result c.token_at.result c.given_by-gives.result c.parameter_at-parameter.result q t x a h.rest
          h.stands c.past-name.ensures.next c.past.ensures.next c.past-inside.ensures.next c.token_at.ensures.there c.given_by-gives.ensures c.parameter_at-parameter.ensures.same in
          let e = past_is s ts c.past-2.result c.past-3.result _ _ (past_is s ts _ c.past-2.result _ _ w.closed c.past-2.ensures.next) c.past-3.ensures.next in
          extern_done s ts (seen c.args.names.now) (seen c.declare.new.names) C q t x a h.code c.given_by-gives.result c.parameter_at-parameter.result.takes w.gives w.taken c.args.at
          c.past-3.result h refl e (c.in_ok-declare.ensures x _ w.named);
    }
