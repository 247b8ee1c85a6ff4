-- The records that have a cell are counted.
use Rattle.std.proofs.Common.{rules, ◌∙◌}
use Rattle.std.proofs.lemmas.Iterator.{YieldsList-from_slice, YieldsList-from_take}
use Rattle.std.proofs.lemmas.Iterator.Consumers.{YieldsList-at, YieldsList-from_filter, count_from_yields_List}
use Rattle.stacks.specs.Held.{seen}
use Rattle.translator.specs.declared.name.Name.{Name}
use Rattle.translator.proofs.Records.{has_cell, cells_lem}
use Rattle.translator.proofs.scope.cells_in.Goals as goal

pub returns : goal.returns
returns c s =
    count_from_yields_List c.filter.result _ c.count.ensures.ran
    (YieldsList-from_filter _ (λ (n : Name). has_cell n.entry) (YieldsList-at c.filter.ensures.source (YieldsList-from_take c.args.n (YieldsList-from_slice (seen c.args.names.now).held (cc)) (cc))) c.filter.ensures.closure (λ x b q k. search rules))
    ∙ cells_lem s _
