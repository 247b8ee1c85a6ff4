use Rattle.std.proofs.Common.{◌≡◌, ℕ, Bool, true, false, nat_eq, arith, List, Some, refl, sym, ap, ◌∙◌}
use Rattle.std.specs.Bool.{then_some}
use Rattle.std.proofs.lemmas.Bool.Decides.{nat_tests}
use Rattle.lexer.specs.declared.kind.Token.{Token}
use Rattle.lookahead.specs.Seen.{seen, looseness_of}
use Rattle.meaning.specs.declared.operator.Operator.{Operator}
use Rattle.meaning.specs.Written.{binary_kind}
use Rattle.translator.specs.Look.{OperatorAt}
use Rattle.translator.proofs.Lexemes.{seen_kind, seen_inside}
use Rattle.translator.proofs.look.operator_at.Goals as goal

-- the operator of another looseness is none
of_looseness : (ts : List Token) (at m n : ℕ) (r : Operator) (b : Bool) → looseness_of (seen ts at) ≡ Some m → ((o : Operator) → seen ts at ≡ Some (binary_kind o) → r ≡ o)
    → b ≡ nat_eq m n → OperatorAt ts at n (then_some b r)
of_looseness ts at m n r true e f h = let q : m ≡ n = grind (arith, nat_tests) in (e ∙ ap Some q, f)
of_looseness ts at m n r false e f h = λ g. let q : m ≡ n = cc in absurd (grind (arith, nat_tests))

pub returns-clause-same : goal.returns-clause-same
returns-clause-same c =
    let ts = c.args.text.now.tokens.now in
    let at = c.args.at in
    rw c.then_some.ensures (of_looseness ts at _ c.args.looseness _ _ (sym c.in_ok-looseness_at.ensures.same)
    (λ o h. c.operator_of.ensures o (seen_kind ts at _ _ (c.token_at.ensures.there (seen_inside ts at _ h)) h)) refl)
