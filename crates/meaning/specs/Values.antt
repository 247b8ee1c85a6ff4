-- Values, and what operators do with them.
use Rattle.std.specs.Prelude.{Bool, true, false, cond, not, ◌&&◌, ◌||◌, ℤ, neg_ℤ, int_le, int_lt, int_rem}
use Rattle.std.specs.Int.{int_wrap, Width, w8, w32}
use Rattle.ints.specs.Arith.{is_zero, equal_z, add_z, sub_z, mul_z, div_z}
use Rattle.meaning.specs.declared.operator.Scalar.{Scalar}
use Rattle.meaning.specs.declared.operator.Scalar.TheVariants.{Bool as bool, Char as char, Int as int}
use Rattle.meaning.specs.declared.operator.Operator.{Operator}
use Rattle.meaning.specs.declared.operator.Operator.TheVariants.{Add, Subtract, Multiply, Divide, Remainder, Less, LessEqual, Greater, GreaterEqual, Equal, NotEqual, And, Or}
use Rattle.meaning.specs.Trees.{Constant, number, character, truth, Unary, negate, invert}

-- a value with its type: a bool, a char (8 bits, signed) or an int (32 bits, signed)
pub data Value : Type 0 where
  of_bool : Bool → Value
  of_char : ℤ → Value
  of_int : ℤ → Value

-- the type of a value
abbrev pub value_type : Value → Scalar
value_type (of_bool b) = bool
value_type (of_char c) = char
value_type (of_int n) = int

-- the value of a constant
abbrev pub constant_value : Constant → Value
constant_value (number v p) = of_int v
constant_value (character v p) = of_char v
constant_value (truth v p) = of_bool v

-- what an operator comes to: a value, a zero divisor, or operands of types that it does not take
pub data Result : Type 0 where
  gives : Value → Result
  zero_divisor : Result
  mistyped : Result

-- two operands by their common type
pub data Pair : Type 0 where
  bools : Bool → Bool → Pair
  chars : ℤ → ℤ → Pair
  ints : ℤ → ℤ → Pair
  mixed : Pair

-- two values as a pair of one type, or mixed
abbrev pub pair : Value → Value → Pair
pair (of_bool a) (of_bool b) = bools a b
pair (of_bool a) (of_char b) = mixed
pair (of_bool a) (of_int b) = mixed
pair (of_char a) (of_bool b) = mixed
pair (of_char a) (of_char b) = chars a b
pair (of_char a) (of_int b) = mixed
pair (of_int a) (of_bool b) = mixed
pair (of_int a) (of_char b) = mixed
pair (of_int a) (of_int b) = ints a b

-- arithmetic, at the type's width
unfoldable pub arithmetic : (Width → ℤ → ℤ → ℤ) → Pair → Result
arithmetic f (bools a b) = mistyped
arithmetic f (chars a b) = gives (of_char (f w8 a b))
arithmetic f (ints a b) = gives (of_int (f w32 a b))
arithmetic f mixed = mistyped

-- the same where the right operand may not be 0
unfoldable pub division : (Width → ℤ → ℤ → ℤ) → Pair → Result
division f (bools a b) = mistyped
division f (chars a b) = cond (is_zero b) zero_divisor (gives (of_char (f w8 a b)))
division f (ints a b) = cond (is_zero b) zero_divisor (gives (of_int (f w32 a b)))
division f mixed = mistyped

-- chars and ints are compared by their numbers
unfoldable pub relation : (ℤ → ℤ → Bool) → Pair → Result
relation f (bools a b) = mistyped
relation f (chars a b) = gives (of_bool (f a b))
relation f (ints a b) = gives (of_bool (f a b))
relation f mixed = mistyped

-- whether two truth values are equal
abbrev pub same_truth : Bool → Bool → Bool
same_truth true b = b
same_truth false b = not b

-- two values of one type are compared; `f` turns the answer round for `!=`
unfoldable pub equality : (Bool → Bool) → Pair → Result
equality f (bools a b) = gives (of_bool (f (same_truth a b)))
equality f (chars a b) = gives (of_bool (f (equal_z a b)))
equality f (ints a b) = gives (of_bool (f (equal_z a b)))
equality f mixed = mistyped

-- two truth values are joined
unfoldable pub logic : (Bool → Bool → Bool) → Pair → Result
logic f (bools a b) = gives (of_bool (f a b))
logic f (chars a b) = mistyped
logic f (ints a b) = mistyped
logic f mixed = mistyped

-- An operator with both operands. Sums, differences and products wrap; a quotient drops the fraction, and the least
-- value by -1 wraps to itself; a remainder has the sign of the left operand.
unfoldable pub apply : Operator → Value → Value → Result
apply Add v w = arithmetic add_z (pair v w)
apply Subtract v w = arithmetic sub_z (pair v w)
apply Multiply v w = arithmetic mul_z (pair v w)
apply Divide v w = division div_z (pair v w)
apply Remainder v w = division (λ _ a b. int_rem a b) (pair v w)
apply Less v w = relation int_lt (pair v w)
apply LessEqual v w = relation int_le (pair v w)
apply Greater v w = relation (λ a b. int_lt b a) (pair v w)
apply GreaterEqual v w = relation (λ a b. int_le b a) (pair v w)
apply Equal v w = equality (λ t. t) (pair v w)
apply NotEqual v w = equality not (pair v w)
apply And v w = logic ◌&&◌ (pair v w)
apply Or v w = logic ◌||◌ (pair v w)

-- whether the left operand decides, so that the right one is skipped: `false &&`, `true ||`
pub data Decided : Type 0 where
  decided : Value → Decided
  open_still : Decided

-- what the left operand of each operator decides
unfoldable pub short_circuit : Operator → Value → Decided
short_circuit Add v = open_still
short_circuit Subtract v = open_still
short_circuit Multiply v = open_still
short_circuit Divide v = open_still
short_circuit Remainder v = open_still
short_circuit Less v = open_still
short_circuit LessEqual v = open_still
short_circuit Greater v = open_still
short_circuit GreaterEqual v = open_still
short_circuit Equal v = open_still
short_circuit NotEqual v = open_still
short_circuit And (of_bool true) = open_still
short_circuit And (of_bool false) = decided (of_bool false)
short_circuit And (of_char c) = open_still
short_circuit And (of_int n) = open_still
short_circuit Or (of_bool true) = decided (of_bool true)
short_circuit Or (of_bool false) = open_still
short_circuit Or (of_char c) = open_still
short_circuit Or (of_int n) = open_still

-- a unary operator
unfoldable pub apply_unary : Unary → Value → Result
apply_unary negate (of_bool b) = mistyped
apply_unary negate (of_char c) = gives (of_char (int_wrap w8 (neg_ℤ c)))
apply_unary negate (of_int n) = gives (of_int (int_wrap w32 (neg_ℤ n)))
apply_unary invert (of_bool b) = gives (of_bool (not b))
apply_unary invert (of_char c) = mistyped
apply_unary invert (of_int n) = mistyped
