use Rattle.std.proofs.Common.{◌+◌, ◌-◌, ◌*◌, ◌<◌, ◌≤◌, length}
use Rattle.stacks.specs.Held.{seen}
use Rattle.translator.specs.Names.{scope_of}
use Rattle.translator.proofs.Arguments.{Lists}
use Rattle.translator.proofs.Tails.{Shrinks}
use Rattle.translator.proofs.expression.+expressions.Given as goal

abbrev pub decreases-arguments : goal.decreases-arguments
decreases-arguments l = 32 * (length l.text.now.tokens.now - l.at) + 20

abbrev pub decreases-expression : goal.decreases-expression
decreases-expression l = 32 * (length l.text.now.tokens.now - l.at) + 12

abbrev pub decreases-binary : goal.decreases-binary
decreases-binary l = 32 * (length l.text.now.tokens.now - l.at) + 11

abbrev pub decreases-operand : goal.decreases-operand
decreases-operand l = 32 * (length l.text.now.tokens.now - l.at) + 4

abbrev pub decreases-prefixed : goal.decreases-prefixed
decreases-prefixed l = 32 * (length l.text.now.tokens.now - l.at) + 3

abbrev pub decreases-negated : goal.decreases-negated
decreases-negated l = 32 * (length l.text.now.tokens.now - l.at) + 2

abbrev pub decreases-inverted : goal.decreases-inverted
decreases-inverted l = 32 * (length l.text.now.tokens.now - l.at) + 2

abbrev pub decreases-bracketed : goal.decreases-bracketed
decreases-bracketed l = 32 * (length l.text.now.tokens.now - l.at) + 2

abbrev pub decreases-value_of_call : goal.decreases-value_of_call
decreases-value_of_call l = 32 * (length l.text.now.tokens.now - l.at) + 3

abbrev pub decreases-call : goal.decreases-call
decreases-call l = 32 * (length l.text.now.tokens.now - l.at) + 2

abbrev pub decreases-continued : goal.decreases-continued
decreases-continued l = 32 * (length l.text.now.tokens.now - l.first.end) + 20 + l.loosest

abbrev pub decreases-joined : goal.decreases-joined
decreases-joined l = 32 * (length l.text.now.tokens.now - l.left.end) + 19

abbrev pub decreases-strict : goal.decreases-strict
decreases-strict l = 32 * (length l.text.now.tokens.now - l.left.end) + 18

abbrev pub decreases-conjunction : goal.decreases-conjunction
decreases-conjunction l = 32 * (length l.text.now.tokens.now - l.left.end) + 18

abbrev pub decreases-disjunction : goal.decreases-disjunction
decreases-disjunction l = 32 * (length l.text.now.tokens.now - l.left.end) + 18

abbrev pub invariant-continued-operands : goal.invariant-continued-operands
invariant-continued-operands l =
    ((l.initial.left.end ≤ l.left.end) × (l.left.end ≤ length l.text.tokens.now))
    × Shrinks l.loosest l.text.source.now l.text.tokens.now (scope_of l.text.source.now (seen l.names).held) l.initial.left (seen l.initial.code) l.left (seen l.code)

abbrev pub decreases-continued-operands : goal.decreases-continued-operands
decreases-continued-operands l = length l.text.tokens.now - l.left.end

abbrev pub invariant-arguments-arguments : goal.invariant-arguments-arguments
invariant-arguments-arguments l =
    (l.at < l.end) × (l.end ≤ length l.text.tokens.now)
    × Lists l.text.source.now l.text.tokens.now (scope_of l.text.source.now (seen l.names).held) l.initial.end (seen l.initial.code) l.initial.given l.end (seen l.code) l.given

abbrev pub decreases-arguments-arguments : goal.decreases-arguments-arguments
decreases-arguments-arguments l = length l.text.tokens.now - l.end
