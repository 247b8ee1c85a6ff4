use Rattle.machine.specs.Views.{state_of}
use Rattle.machine.proofs.Falls.{rest}
use Rattle.machine.proofs.Looping.{Loop}
use Rattle.machine.proofs.memory.Memory.run.Given as goal

abbrev pub invariant-run : goal.invariant-run
invariant-run g l =
    let means = g.B.Board.meaning in
    Loop l.code l.before (state_of l.initial.self l.initial.at (means l.initial.board)) (state_of l.self l.at (means l.board)) l.start l.counted

abbrev pub decreases-run : goal.decreases-run
decreases-run g l = rest l.code (state_of l.self l.at (g.B.Board.meaning l.board))
