use Rattle.std.proofs.Common.{◌∙◌}
use Rattle.translator.specs.Names.{callee_of}
use Rattle.translator.proofs.Meant.{declares_named}
use Rattle.translator.proofs.define.declares.Goals as goal

pub returns-then-is_named : goal.returns-then-is_named
returns-then-is_named c = c.has_types.ensures ∙ declares_named c.args.word.now (callee_of c.args.callee) c.args.gives c.args.takes c.if-is_named.ensures
