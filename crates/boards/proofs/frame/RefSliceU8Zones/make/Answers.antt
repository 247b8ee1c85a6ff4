use Rattle.boards.proofs.Tables.{length-table}
use Rattle.boards.proofs.frame.RefSliceU8Zones.make.Goals as goal

pub returns-clause-zoned : goal.returns-clause-zoned
returns-clause-zoned c = λ e. length-table _ _
