-- The records after the newest that defines the name do not.
use Rattle.std.proofs.Common.{rules}
use Rattle.stacks.specs.Held.{seen}
use Rattle.translator.specs.declared.name.Name.{Name}
use Rattle.translator.specs.declared.name.Entry.TheVariants.{Level}
use Rattle.translator.proofs.Records.{finds_none, finds_some}
use Rattle.translator.proofs.scope.find.Goals as goal

-- what an index past the end would give
abbrev past : Name
past = record { entry = Level; place = 0; length = 0 }

pub returns-in_err-newest : goal.returns-in_err-newest
returns-in_err-newest c =
    rw c.from_residual.ensures (finds_none _ (seen c.args.names.now).held _ past (λ k a b. search rules))

pub returns : goal.returns
returns c =
    rw c.as_slice-records.ensures (finds_some _ (seen c.args.names.now).held _ past _ (search rules) (search rules) (λ k a b. search rules))
