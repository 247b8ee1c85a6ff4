-- The stacks are empty and have room, so what the grammar takes is translated.
use Rattle.std.proofs.Common.{refl, inr, arith}
use Rattle.std.proofs.lemmas.Result.{err_from_is_err_and}
use Rattle.stacks.specs.Held.{seen}
use Rattle.translator.proofs.Telling.{script_at, compiled}
use Rattle.translator.proofs.translation.compile_script.Goals as goal

pub returns-in_err-script : goal.returns-in_err-script
returns-in_err-script c t g a l room =
    let p = err_from_is_err_and c.from_residual.result c.from_residual.ensures.1 in
    rw (p.1, p.2) (
    let h =
    script_at c.args.source.now c.args.tokens.now (seen c.new.result) (seen c.new-2.result) (seen c.new-3.result) t 1028 1024 g a l
    c.new.ensures.empty c.new-2.ensures.empty c.new-3.ensures.empty (omega arith) (omega arith) in
    (refl, inr (t, g, c.in_err-script.ensures t h)))

pub returns : goal.returns
returns c t g a l room =
    let h =
    script_at c.args.source.now c.args.tokens.now (seen c.new.result) (seen c.new-2.result) (seen c.new-3.result) t 1028 1024 g a l
    c.new.ensures.empty c.new-2.ensures.empty c.new-3.ensures.empty (omega arith) (omega arith) in
    compiled c.args.source.now c.args.tokens.now c.args.code.now c.copy_code.new.to c.copy_code.result t (seen c.script.new.self.code) g l room
    (c.in_ok-script.ensures t h) c.copy_code.ensures.count c.copy_code.ensures.list
