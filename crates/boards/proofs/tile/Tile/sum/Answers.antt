use Rattle.std.proofs.Common.{refl, ◌∙◌, arith, rules}
use Rattle.std.proofs.lemmas.Iterator.{YieldsList-from_range, YieldsList-from_map}
use Rattle.std.proofs.lemmas.Iterator.Consumers.{sum_from_yields_List}
use Rattle.std.proofs.lemmas.Iterator.Adapters.{at_most_from_yields_List, fits_from_length}
use Rattle.boards.specs.Tile.{line_sum}
use Rattle.boards.proofs.Tables.{sum-table}
use Rattle.boards.proofs.tile.Tile.sum.Goals as goal

pub sum-requires-clause-fits : goal.sum-requires-clause-fits
sum-requires-clause-fits c =
    fits_from_length _ _ 16 _ (at_most_from_yields_List (YieldsList-from_range 0 16 16 (cc) refl) (omega arith))
    refl (omega arith) (λ x r q k. search rules)

pub returns : goal.returns
returns c =
    let t = c.args.self.now in
    let line = line_sum t.bytes.now t.grid.columns t.number in
    sum_from_yields_List c.map.result _ c.sum.ensures.ran
    (YieldsList-from_map _ line (YieldsList-from_range 0 16 16 (cc) refl) refl (λ x r q k. search rules))
    ∙ sum-table 16 line
