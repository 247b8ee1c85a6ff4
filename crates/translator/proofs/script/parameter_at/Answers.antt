use Rattle.std.proofs.Common.{sym, rules}
use Rattle.translator.proofs.Items.{none_taken, one_taken}
use Rattle.translator.proofs.script.parameter_at.Goals as goal

pub returns-then-is_at : goal.returns-then-is_at
returns-then-is_at c =
    record { near = search rules; within = λ h. h; same = λ s a p ls h. none_taken s c.args.text.now.tokens.now c.args.at a p ls (sym c.if-is_at.ensures.same) h }

pub returns : goal.returns
returns c =
    record {
      near = search rules;
      within = search rules;
      same = λ s a p ls h.
          one_taken s c.args.text.now.tokens.now c.args.at a p ls c.token_at.result c.scalar_of.result c.past.result c.past-2.result (sym c.if-is_at.ensures.same)
          c.token_at.ensures.there c.scalar_of.ensures c.past.ensures.next c.past-2.ensures.next h;
    }
