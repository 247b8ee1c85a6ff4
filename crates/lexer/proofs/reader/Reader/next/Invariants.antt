use Rattle.std.proofs.Common.{◌-◌, length}
use Rattle.lexer.specs.Scans.{Came}
use Rattle.lexer.proofs.reader.Reader.next.Given as goal

-- what is left gives what the whole gives
abbrev pub invariant-bytes : goal.invariant-bytes
invariant-bytes l = Came l.initial.self l.self

abbrev pub decreases-bytes : goal.decreases-bytes
decreases-bytes l = length l.self.source.now - l.self.at
