use Rattle.std.proofs.Common.{◌+◌, take, sym, ap, ◌∙◌}
use Rattle.machine.specs.Steps.{State}
use Rattle.machine.specs.Runs.{Call, call_from, call, says, run, up_to}
use Rattle.machine.specs.Views.{over_of, keeps}
use Rattle.machine.proofs.Calling.{begun_is, call_is, left_within}
use Rattle.machine.proofs.Equations.{every_ends}
use Rattle.machine.proofs.Resuming.{waits_or_over, resumes, stays, bounded}
use Rattle.machine.proofs.machine.Machine.run.Goals as goal

pub returns-in-Break : goal.returns-in-Break
returns-in-Break g c =
    let k = keeps c.args.self.now in
    let r = c.in-Break.ensures in
    let e = ap (λ o. call_from (over_of o) (take c.args.n c.args.code.now) k (g.B.Board.meaning c.args.board.now) c.args.ticks) (sym r.1) in
    record {
      answer = r.2 ∙ ap says e;
      after = ap (λ (x : Call). x.kept) e;
      board = ap (λ (x : Call). x.board) e;
      ends = every_ends;
      waits = waits_or_over;
      resumes = resumes;
      stays = stays;
      bounded = bounded;
    }

pub settle-requires : goal.settle-requires
settle-requires g c =
    let r = c.run-halted.ensures in
    let k = keeps c.args.self.now in
    let code = c.first-records.result.now in
    let s = begun_is c.args.self.now c.in-Continue.from (g.B.Board.meaning c.args.board.now) c.args.ticks c.in-Continue.ensures in
    left_within k _ _ _ _ _ c.run-halted.result (r.how ∙ ap (λ (u : State). (run code u).how) s) (r.state ∙ ap (λ (u : State). (run code u).state) s)
    (r.counted ∙ ap (λ (u : State). up_to (k.counted + (run code u).carried)) s)

pub returns-in-Continue : goal.returns-in-Continue
returns-in-Continue g c =
    let r = c.run-halted.ensures in
    let p = c.settle.ensures in
    let k = keeps c.args.self.now in
    let code = c.first-records.result.now in
    let s = begun_is c.args.self.now c.in-Continue.from (g.B.Board.meaning c.args.board.now) c.args.ticks c.in-Continue.ensures in
    let e = call_is k _ _ _ _ _ c.run-halted.result (r.how ∙ ap (λ (u : State). (run code u).how) s) (r.state ∙ ap (λ (u : State). (run code u).state) s)
    (r.counted ∙ ap (λ (u : State). up_to (k.counted + (run code u).carried)) s) (ap over_of c.in-Continue.ensures.0) in
    let f = e ∙ ap (λ x. call x k (g.B.Board.meaning c.args.board.now) c.args.ticks) c.first-records.ensures in
    record {
      answer = p.answer ∙ ap says f;
      after = p.after ∙ ap (λ (x : Call). x.kept) f;
      board = ap (λ (x : Call). x.board) f;
      ends = every_ends;
      waits = waits_or_over;
      resumes = resumes;
      stays = stays;
      bounded = bounded;
    }
