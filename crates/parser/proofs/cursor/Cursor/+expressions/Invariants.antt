use Rattle.std.proofs.Common.{◌≤◌, length, ◌+◌, ◌*◌, ◌<◌, ◌∷◌}
use Rattle.meaning.proofs.Tokens.{CloseParen}
use Rattle.meaning.proofs.Stack.{token, tail, further}
use Rattle.parser.specs.Steps.{left, operands, the_arguments}
use Rattle.parser.proofs.Places.{Comes}
use Rattle.parser.proofs.cursor.Cursor.+expressions.Given as goal

abbrev pub decreases-arguments : goal.decreases-arguments
decreases-arguments l = 16 * left l.self + 9

abbrev pub decreases-expression : goal.decreases-expression
decreases-expression l = 16 * left l.self + 8

abbrev pub decreases-binary : goal.decreases-binary
decreases-binary l = 16 * left l.self + l.loosest + 1

abbrev pub decreases-operand : goal.decreases-operand
decreases-operand l = 16 * left l.self

abbrev pub decreases-prefixed : goal.decreases-prefixed
decreases-prefixed l = 16 * left l.self + 1

abbrev pub decreases-bracketed : goal.decreases-bracketed
decreases-bracketed l = 16 * left l.self + 9

abbrev pub decreases-called : goal.decreases-called
decreases-called l = 16 * left l.self + 10

abbrev pub invariant-binary-operands : goal.invariant-binary-operands
invariant-binary-operands l = record {
  fewer : left l.end < left l.self;
  within : l.end.at ≤ length l.end.text.now.tokens.now;
  came : Comes (operands l.loosest l.depth) l.self (λ K. tail l.loosest l.depth ∷ K) l.end;
}

abbrev pub decreases-binary-operands : goal.decreases-binary-operands
decreases-binary-operands l = left l.end

abbrev pub invariant-arguments-arguments : goal.invariant-arguments-arguments
invariant-arguments-arguments l = Comes (the_arguments l.depth) l.self (λ K. further l.depth ∷ token CloseParen ∷ K) l.end

abbrev pub decreases-arguments-arguments : goal.decreases-arguments-arguments
decreases-arguments-arguments l = left l.end
