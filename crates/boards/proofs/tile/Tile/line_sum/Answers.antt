use Rattle.std.proofs.Common.{drop, refl, ◌∙◌, arith, length-drop, length-take, rules}
use Rattle.std.proofs.lemmas.List.{take_all}
use Rattle.std.proofs.lemmas.Iterator.{YieldsList-from_slice, YieldsList-from_take, YieldsList-from_map}
use Rattle.std.proofs.lemmas.Iterator.Adapters.{at_most_from_yields_List, fits_from_length}
use Rattle.std.proofs.lemmas.Iterator.Consumers.{sum_from_yields_List}
use Rattle.boards.proofs.Lines.{sum-line}
use Rattle.boards.proofs.tile.Tile.line_sum.Goals as goal

pub sum-requires-clause-fits : goal.sum-requires-clause-fits
sum-requires-clause-fits c =
    fits_from_length _ _ 16 _
    (at_most_from_yields_List
    (YieldsList-from_take 16 (YieldsList-from_slice (drop c.min-start.result c.args.self.now.bytes.now)
    (rw (c.map.ensures.source, c.take-line.ensures.source) (c.iter.ensures.rest ∙ take_all _ _ (rw length-drop (omega arith))))) (search rules))
    (simp length-take (omega arith)))
    refl (omega arith) (λ x r q k. search rules)

pub returns : goal.returns
returns c =
    let t = c.args.self.now in
    sum_from_yields_List c.map.result _ c.sum.ensures.ran
    (YieldsList-from_map _ (λ x. x)
    (YieldsList-from_take 16 (YieldsList-from_slice (drop c.min-start.result c.args.self.now.bytes.now)
    (rw (c.map.ensures.source, c.take-line.ensures.source) (c.iter.ensures.rest ∙ take_all _ _ (rw length-drop (omega arith))))) (search rules))
    refl (λ x r q k. search rules))
    ∙ sum-line t.bytes.now t.grid.columns t.number c.args.y c.min-start.result (search rules)
