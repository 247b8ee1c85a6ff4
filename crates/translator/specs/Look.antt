-- What a token of a script says.
use Rattle.std.specs.Prelude.{◌≡◌, ℕ, ◌+◌, Bool, ◌&&◌, List, Some, None, Option}
use Rattle.lexer.specs.declared.kind.Kind.{Kind}
use Rattle.lexer.specs.declared.kind.Kind.TheVariants as K
use Rattle.lexer.specs.declared.kind.Token.{Token}
use Rattle.lookahead.specs.Seen.{seen, is_kind, looseness_of}
use Rattle.meaning.specs.declared.operator.Scalar.{Scalar}
use Rattle.meaning.specs.declared.operator.Operator.{Operator}
use Rattle.meaning.specs.Trees.{Constant, Modifier}
use Rattle.meaning.specs.Types.{constant_type, operator_of}
use Rattle.meaning.specs.Values.{constant_value}
use Rattle.meaning.specs.Written.{literal, type_kind, binary_kind, modifier_kind}
use Rattle.layout.proofs.Compiled.{held}
use Rattle.translator.specs.declared.look.Literal.{Literal}

-- the type and value of the constant that a token is
abbrev pub LiteralOf : Token → Literal → Type 0
LiteralOf t r = (c : Constant) → t.kind ≡ (literal c).kind → t.value ≡ (literal c).value → (r.kind ≡ constant_type c) × (r.value ≡ held (constant_value c))

-- the operator that a kind of token is
abbrev pub OperatorOf : Kind → Operator → Type 0
OperatorOf k r = (o : Operator) → k ≡ binary_kind o → r ≡ o

-- the operator of a looseness that stands at a place, if one does
abbrev pub OperatorAt : List Token → ℕ → ℕ → Option Operator → Type 0
OperatorAt ts at n (Some r) = (looseness_of (seen ts at) ≡ Some n) × ((o : Operator) → seen ts at ≡ Some (binary_kind o) → r ≡ o)
OperatorAt ts at n None = looseness_of (seen ts at) ≡ Some n → ⊥

-- the operator of the modifier that a kind of token is; none of an assignment
pub record ModifierOf (k : Kind) (r : Option Operator) : Type 0 where
  pub modifies : (m : Modifier) → k ≡ modifier_kind m → r ≡ Some (operator_of m)
  pub assigns : k ≡ K.Assign → r ≡ None

-- the type that a kind of token names
abbrev pub ScalarOf : Kind → Scalar → Type 0
ScalarOf k r = (t : Scalar) → k ≡ type_kind t → r ≡ t

-- whether a name and an opening bracket stand at a place
abbrev pub call_seen : List Token → ℕ → Bool
call_seen ts at = is_kind (seen ts at) K.Name && is_kind (seen ts (at + 1)) K.OpenParen
