use Rattle.std.proofs.Common.{arith}
use Rattle.stacks.specs.Held.{seen}
use Rattle.translator.proofs.Loops.{emit_four}
use Rattle.translator.proofs.statement.emit_advance.Goals as goal

pub returns : goal.returns
returns c =
    emit_four (seen c.args.code.now) (seen c.emit.new.code) (seen c.emit-2.new.code) (seen c.emit-3.new.code)
    (seen c.emit-4.new.code) 1
    0 4 2 c.args.cell 1 0 c.args.cell c.args.place
    c.emit.ensures c.emit-2.ensures c.emit-3.ensures c.emit-4.ensures (omega arith) (omega arith) (omega arith)
    (omega arith)
