use Rattle.std.proofs.Common.{sym}
use Rattle.stacks.specs.Held.{seen}
use Rattle.translator.proofs.Items.{passed, item_extern, item_global}
use Rattle.translator.proofs.script.item.Goals as goal

pub returns-then-is_at : goal.returns-then-is_at
returns-then-is_at c =
    record {
      within = c.external.ensures.within;
      same =
          item_extern c.args.text.now.source.now c.args.text.now.tokens.now c.args.at (seen c.args.names.now) (seen c.external.new.names) (seen c.args.code.now) (seen c.args.code.now)
          c.external.result (sym c.if-is_at.ensures.same) c.external.ensures.same;
    }

pub returns-else-is_at : goal.returns-else-is_at
returns-else-is_at c =
    record {
      within = passed c.global.result c.args.at c.past_static.result _ c.requires c.past_static.ensures.near c.global.ensures.within;
      same =
          item_global c.args.text.now.source.now c.args.text.now.tokens.now c.args.at (seen c.args.names.now) (seen c.global.new.names) (seen c.args.code.now) (seen c.global.new.code)
          c.past_static.result c.global.result (sym c.if-is_at.ensures.same) c.past_static.ensures.same c.global.ensures.same;
    }
