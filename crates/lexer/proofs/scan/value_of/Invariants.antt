use Rattle.std.proofs.Common.{◌≡◌, min, take}
use Rattle.lexer.specs.Constants.{value_of}
use Rattle.lexer.proofs.scan.value_of.Given as goal

-- the value so far, cut off above the greatest number
abbrev pub invariant-loop-d : goal.invariant-loop-d
invariant-loop-d l = l.value ≡ min 2147483648 (value_of l.base (take l.d-index l.digits))
