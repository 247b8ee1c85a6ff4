-- The first listed function that the extern declares.
use Rattle.std.proofs.Common.{rules, ◌≡◌, ℕ, List, Bool, true, false, cond, Option, Some, None, refl, sym, ◌∙◌}
use Rattle.std.specs.Array.Iter.{array_into_iter_items, array_steps}
use Rattle.std.proofs.lemmas.Iterator.Adapters.{option_map_id}
use Rattle.std.proofs.lemmas.Iterator.Consumers.{YieldsList-from_shown}
use Rattle.std.proofs.lemmas.Iterator.Search.{find_from_yields_List}
use Rattle.meaning.specs.declared.operator.Scalar.{Scalar}
use Rattle.meaning.specs.Scopes as Scopes
use Rattle.meaning.specs.Types.{declares}
use Rattle.translator.specs.Names.{callee_of, return_of, types_of, ListedAs}
use Rattle.translator.specs.declared.name.Callee.TheVariants.{Zone, Columns, Rows, Report}
use Rattle.translator.proofs.Meant.{listed_by}
use Rattle.translator.proofs.define.listed.Goals as goal

module _ (x : List ℕ) (g p : Option Scalar) where
  -- whether an extern of that name, result and parameter declares a function
  abbrev is_declared : Scopes.Callee → Bool
  is_declared = declares x (return_of g) (types_of p)

  -- the listed functions, tried in turn
  in_turn : (a b c d : Bool) → a ≡ is_declared Scopes.zone → b ≡ is_declared Scopes.columns → c ≡ is_declared Scopes.rows → d ≡ is_declared Scopes.report
      → ListedAs x g p (cond a (Some Zone) (cond b (Some Columns) (cond c (Some Rows) (cond d (Some Report) None))))
  in_turn true b c d i j k l = listed_by x _ _ true b c d i j k l
  in_turn false true c d i j k l = listed_by x _ _ false true c d i j k l
  in_turn false false true d i j k l = listed_by x _ _ false false true d i j k l
  in_turn false false false true i j k l = listed_by x _ _ false false false true i j k l
  in_turn false false false false i j k l = listed_by x _ _ false false false false i j k l

pub returns : goal.returns
returns c =
    rw (sym (option_map_id c.find.result) ∙ find_from_yields_List (λ f. is_declared c.args.word.now c.args.gives c.args.takes (callee_of f)) _ _ _ c.find.ensures.ran
    (rw c.into_iter.ensures.into_iter_gives.0 at (YieldsList-from_shown array_steps (λ y. y) array_into_iter_items (λ s t k. k.0) (λ s x t k. k) c.into_iter.result)) (λ x b q k. search rules))
    (in_turn c.args.word.now c.args.gives c.args.takes _ _ _ _ refl refl refl refl)
