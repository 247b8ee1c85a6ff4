use Rattle.std.proofs.Common.{◌-◌, length}
use Rattle.lexer.proofs.Filling.{Filling}
use Rattle.lexer.proofs.list.fill.Given as goal

abbrev pub invariant-tokens : goal.invariant-tokens
invariant-tokens l = Filling l.source l.initial.tokens l.tokens l.count l.reader

abbrev pub decreases-tokens : goal.decreases-tokens
decreases-tokens l = length l.reader.source.now - l.reader.at
