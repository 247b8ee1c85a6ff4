-- The table's rule: one computed test compares the whole table with the rule at 0 to 255, and one lemma reads the rule at
-- a byte.
use Rattle.std.proofs.Common.{◌≡◌, ℕ, ◌<◌, List, map, get_or, refl, ap, ◌∙◌, zero-add, rules}
use Rattle.std.specs.List.{range_with_len}
use Rattle.std.proofs.lemmas.List.FromFn.{get_or-map-range_with_len}
use Rattle.lexer.specs.declared.class.Class.{Class}
use Rattle.lexer.specs.declared.class.Class.TheVariants.{Blank}
use Rattle.lexer.specs.Classes.{class_of}
use Rattle.lexer.proofs.class.class_of.Goals as goal

-- a table that is the rule at each byte has the rule's class at each byte
at_byte : (table : List Class) → table ≡ map class_of (range_with_len 0 256) → (b : ℕ) → b < 256 → get_or table b Blank ≡ class_of b
at_byte table same b h = ap (λ t. get_or t b Blank) same ∙ get_or-map-range_with_len class_of 0 256 b b Blank h (zero-add b)

pub returns : goal.returns
returns c = at_byte _ refl c.args.b (search rules)
