use Rattle.std.proofs.Common.{◌+◌, ◌*◌}
use Rattle.parser.specs.Steps.{left, a_block}
use Rattle.parser.proofs.Places.{Comes}
use Rattle.parser.proofs.cursor.Cursor.+statements.Given as goal

abbrev pub decreases-statement : goal.decreases-statement
decreases-statement l = 8 * left l.self + 2

abbrev pub decreases-block : goal.decreases-block
decreases-block l = 8 * left l.self + 3

abbrev pub decreases-nested : goal.decreases-nested
decreases-nested l = 8 * left l.self + 4

abbrev pub decreases-conditional : goal.decreases-conditional
decreases-conditional l = 8 * left l.self + 3

abbrev pub decreases-while_loop : goal.decreases-while_loop
decreases-while_loop l = 8 * left l.self + 3

abbrev pub decreases-do_loop : goal.decreases-do_loop
decreases-do_loop l = 8 * left l.self + 3

abbrev pub decreases-for_loop : goal.decreases-for_loop
decreases-for_loop l = 8 * left l.self + 3

abbrev pub invariant-block-statements : goal.invariant-block-statements
invariant-block-statements l = Comes (a_block l.depth) l.self (a_block l.depth) l.end

abbrev pub decreases-block-statements : goal.decreases-block-statements
decreases-block-statements l = left l.end
