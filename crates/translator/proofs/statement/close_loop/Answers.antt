use Rattle.stacks.specs.Held.{seen}
use Rattle.translator.proofs.Loops.{closing}
use Rattle.translator.proofs.statement.close_loop.Goals as goal

pub returns : goal.returns
returns c =
    closing (seen c.args.jumps.now) (seen c.land_all.new.jumps) (seen c.args.code.now) (seen c.emit.new.code)
    (seen c.land_all.new.code)
    (seen c.land.new.code)
    c.args.mark c.len-end.result c.args.exit.at c.args.start c.args.next c.args.place c.emit.ensures c.len-end.ensures
    c.land_all.ensures c.land.ensures
