use Rattle.std.proofs.Common.{refl, arith}
use Rattle.engine.specs.Checked.{means}
use Rattle.engine.proofs.Checking.{fits, check_fails}
use Rattle.engine.proofs.check.fennec_check.Goals as goal

pub overflow_add-result : goal.overflow_add-result
overflow_add-result c = omega (arith, fits c.args.source.now _ _ c.in-Err.ensures.answer.1 c.number.result c.number.type_inv)

pub returns-in-Ok : goal.returns-in-Ok
returns-in-Ok c =
    let t = c.in-Ok.ensures in
    record { answer = means t.answer.script t.answer.means refl; only = t.only }

pub returns-in-Err : goal.returns-in-Err
returns-in-Err c =
    let t = c.in-Err.ensures in
    rw c.from.ensures (record { answer = check_fails c.args.source.now _ _ t.answer.1 c.number.result c.number.ensures; only = t.only })
