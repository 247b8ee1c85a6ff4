-- What is made of the items that are left is made of all.
use Rattle.std.proofs.Common.{◌-◌, length}
use Rattle.stacks.specs.Held.{seen}
use Rattle.translator.specs.Scripts.{ItemsOn}
use Rattle.translator.proofs.script.items.Given as goal

abbrev pub invariant-items : goal.invariant-items
invariant-items l = ItemsOn l.text.source.now l.text.tokens.now 0 (seen l.initial.names) (seen l.initial.code) l.at (seen l.names) (seen l.code)

abbrev pub decreases-items : goal.decreases-items
decreases-items l = length l.text.tokens.now - l.at
