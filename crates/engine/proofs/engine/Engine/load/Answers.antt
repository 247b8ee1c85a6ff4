use Rattle.std.proofs.Common.{length, refl}
use Rattle.std.proofs.lemmas.Result.{err_from_is_err_and}
use Rattle.refusal.specs.Told.{accepted, refused, number_of}
use Rattle.engine.specs.Views.{holds}
use Rattle.engine.specs.Calls.{Loads}
use Rattle.engine.specs.Successions.{load}
use Rattle.engine.proofs.Judging.{one_judgement}
use Rattle.engine.proofs.Lawful.{lawful}
use Rattle.engine.proofs.engine.Engine.load.Goals as goal

pub returns-in_err-counts : goal.returns-in_err-counts
returns-in_err-counts c =
    let p = err_from_is_err_and c.from_residual.result c.from_residual.ensures.1 in
    let t = c.in_err-counts.ensures in
    let why = c.in_err-counts.field-0.0 in
    let d : Loads c.args.source.now (length c.args.tokens.now) (holds c.args.self.now) c.args.code.now
    (refused (number_of why.reason) why.place) (holds c.args.self.now) c.translate.new.code =
    record { translation = t.answer; engine = refl } in
    rw (p.1, p.2) (record {
      does = d;
      list = t.list;
      only = t.only;
      one = one_judgement t.only;
      law = λ b. lawful _ (load c.args.source.now c.args.tokens.now) _ _ (d, refl);
    })

pub returns : goal.returns
returns c =
    let t = c.in_ok-counts.ensures in
    let d : Loads c.args.source.now (length c.args.tokens.now) (holds c.args.self.now) c.args.code.now
    (accepted c.in_ok-counts.counts) (holds c.start.new.self) c.translate.new.code =
    record { translation = t.answer; engine = c.start.ensures } in
    record {
      does = d;
      list = t.list;
      only = t.only;
      one = one_judgement t.only;
      law = λ b. lawful _ (load c.args.source.now c.args.tokens.now) _ _ (d, refl);
    }
