use Rattle.std.proofs.Common.{◌≡◌, ◌≤◌, List, ◌∷◌}
use Rattle.meaning.proofs.Stack.{Sym, script}
use Rattle.parser.specs.Steps.{ahead, left}
use Rattle.parser.proofs.cursor.Cursor.script.Given as goal

abbrev pub invariant-items : goal.invariant-items
invariant-items l = record {
  text : l.item.text ≡ l.self.text;
  near : left l.item ≤ left l.self;
  same : (K : List Sym) → ahead l.self.text.now.source.now l.self (script ∷ K) ≡ ahead l.self.text.now.source.now l.item (script ∷ K);
}

abbrev pub decreases-items : goal.decreases-items
decreases-items l = left l.item
