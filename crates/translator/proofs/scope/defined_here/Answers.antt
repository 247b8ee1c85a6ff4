-- The records of the newest level are tried, the newest first.
use Rattle.std.proofs.Common.{rules, ◌∙◌}
use Rattle.std.proofs.lemmas.Iterator.Adapters.{YieldsList-from_rev_slice}
use Rattle.std.proofs.lemmas.Iterator.Consumers.{YieldsList-at}
use Rattle.std.proofs.lemmas.Iterator.Search.{YieldsList-from_take_while, any_from_yields_List}
use Rattle.stacks.specs.Held.{seen}
use Rattle.translator.specs.declared.name.Name.{Name}
use Rattle.translator.specs.Names.{entry_of, defining}
use Rattle.translator.proofs.Records.{opens_none, here_level}
use Rattle.translator.proofs.scope.defined_here.Goals as goal

pub returns : goal.returns
returns c =
    any_from_yields_List (λ (n : Name). defining c.args.word.now (entry_of c.args.source.now n)) _ _ c.any.result c.any.ensures.ran
    (YieldsList-from_take_while _ (λ (n : Name). opens_none n.entry) (YieldsList-at c.take_while.ensures.source (YieldsList-from_rev_slice (seen c.args.names.now).held (cc))) c.take_while.ensures.closure c.take_while.ensures.done (λ x b q k. search rules))
    (λ x b q k. search rules)
    ∙ here_level c.args.source.now c.args.word.now _
