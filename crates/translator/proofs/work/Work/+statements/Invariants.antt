use Rattle.std.proofs.Common.{◌+◌, ◌-◌, ◌*◌, ◌≤◌, length}
use Rattle.translator.specs.Statements.{held, StmtsOn}
use Rattle.translator.proofs.work.Work.+statements.Given as goal

abbrev pub decreases-block : goal.decreases-block
decreases-block l = 8 * (length l.text.now.tokens.now - l.at) + 1

abbrev pub decreases-body : goal.decreases-body
decreases-body l = 8 * (length l.text.now.tokens.now - l.at) + 3

abbrev pub decreases-conditional : goal.decreases-conditional
decreases-conditional l = 8 * (length l.text.now.tokens.now - l.at) + 1

abbrev pub decreases-counting : goal.decreases-counting
decreases-counting l = 8 * (length l.text.now.tokens.now - l.at) + 4

abbrev pub decreases-do_loop : goal.decreases-do_loop
decreases-do_loop l = 8 * (length l.text.now.tokens.now - l.at) + 1

abbrev pub decreases-for_loop : goal.decreases-for_loop
decreases-for_loop l = 8 * (length l.text.now.tokens.now - l.at) + 1

abbrev pub decreases-otherwise : goal.decreases-otherwise
decreases-otherwise l = 8 * (length l.text.now.tokens.now - l.at) + 1

abbrev pub decreases-statement : goal.decreases-statement
decreases-statement l = 8 * (length l.text.now.tokens.now - l.at) + 2

abbrev pub decreases-statements : goal.decreases-statements
decreases-statements l = 8 * (length l.text.now.tokens.now - l.at) + 3

abbrev pub decreases-while_loop : goal.decreases-while_loop
decreases-while_loop l = 8 * (length l.text.now.tokens.now - l.at) + 1

abbrev pub invariant-statements-statements : goal.invariant-statements-statements
invariant-statements-statements l =
    (l.at ≤ l.end)
    × StmtsOn l.text.source.now l.text.tokens.now l.in_loop l.at (held l.initial.self)
    l.end (held l.self)

abbrev pub decreases-statements-statements : goal.decreases-statements-statements
decreases-statements-statements l = length l.text.tokens.now - l.end
