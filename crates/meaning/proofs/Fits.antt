-- Operators give values of the types that the table of results says.
use Rattle.std.proofs.Common.{◌≡◌, ℕ, Bool, true, false, cond, ℤ, Some, None, Option, refl, arith}
use mir.Syntax.{Width}
use Rattle.meaning.specs.declared.operator.Scalar.{Scalar}
use Rattle.meaning.specs.declared.operator.Scalar.TheVariants.{Bool as bool, Char as char, Int as int}
use Rattle.meaning.specs.declared.operator.Operator.{Operator}
use Rattle.meaning.specs.declared.operator.Operator.TheVariants.{Add, Subtract, Multiply, Divide, Remainder, Less, LessEqual, Greater, GreaterEqual, Equal, NotEqual, And, Or}
use Rattle.meaning.specs.Trees.{Unary, negate, invert}
use Rattle.meaning.specs.Types.{same_type, result_at, result_of, unary_result}
use Rattle.meaning.specs.Types
use Rattle.meaning.specs.Values.{Value, of_bool, of_char, of_int, value_type, Result, gives, zero_divisor, mistyped, pair, mixed, arithmetic, division, relation, equality, logic, apply, apply_unary}

abbrev pub nothing : {A : Type 0} → Option A
nothing = None

-- nothing is no value
pub none_some : {A : Type 0} {x : A} {P : Type 0} → nothing ≡ Some x → P
none_some e = let z : ◌≡◌ {A = ℕ} 0 1 = cc in absurd (omega arith)

-- false is not true
pub false_true : {P : Type 0} → false ≡ true → P
false_true e = let z : ◌≡◌ {A = ℕ} 0 1 = cc in absurd (omega arith)

-- a result of a type, or a zero divisor
abbrev pub Fits : Scalar → Result → Type 0
Fits t (gives v) = value_type v ≡ t
Fits t zero_divisor = Unit {0}
Fits t mistyped = ⊥

-- two values, by whether they have one type
pub data Alike : Value → Value → Type 0 where
  both_bools : {a b : Bool} → Alike (of_bool a) (of_bool b)
  both_chars : {a b : ℤ} → Alike (of_char a) (of_char b)
  both_ints : {a b : ℤ} → Alike (of_int a) (of_int b)
  unlike : {v w : Value} → same_type (value_type v) (value_type w) ≡ false → pair v w ≡ mixed → Alike v w

pub alike : (v w : Value) → Alike v w
alike (of_bool a) (of_bool b) = both_bools
alike (of_bool a) (of_char b) = unlike refl refl
alike (of_bool a) (of_int b) = unlike refl refl
alike (of_char a) (of_bool b) = unlike refl refl
alike (of_char a) (of_char b) = both_chars
alike (of_char a) (of_int b) = unlike refl refl
alike (of_int a) (of_bool b) = unlike refl refl
alike (of_int a) (of_char b) = unlike refl refl
alike (of_int a) (of_int b) = both_ints

-- what the table says of two values
abbrev Taken : Types.Class → Value → Value → Scalar → Type 0
Taken k v w t = cond (same_type (value_type v) (value_type w)) (result_at k (value_type v)) None ≡ Some t

untaken : (k : Types.Class) (v w : Value) (t : Scalar) {P : Type 0} → same_type (value_type v) (value_type w) ≡ false → Taken k v w t → P
untaken k v w t s h = none_some (rw s at h)

arithmetic_fits : (f : Width → ℤ → ℤ → ℤ) (t : Scalar) {v w : Value} → Alike v w → Taken Types.arithmetic v w t → Fits t (arithmetic f (pair v w))
unfolding arithmetic
arithmetic_fits f t both_bools h = none_some h
arithmetic_fits f t both_chars h = cc
arithmetic_fits f t both_ints h = cc
arithmetic_fits f t (unlike {v} {w} s m) h = untaken Types.arithmetic v w t s h

unless_zero : (z : Bool) (v : Value) (t : Scalar) → value_type v ≡ t → Fits t (cond z zero_divisor (gives v))
unless_zero true v t h = tt
unless_zero false v t h = h

division_fits : (f : Width → ℤ → ℤ → ℤ) (t : Scalar) {v w : Value} → Alike v w → Taken Types.arithmetic v w t → Fits t (division f (pair v w))
unfolding division
division_fits f t both_bools h = none_some h
division_fits f t both_chars h = unless_zero _ _ t (cc)
division_fits f t both_ints h = unless_zero _ _ t (cc)
division_fits f t (unlike {v} {w} s m) h = untaken Types.arithmetic v w t s h

relation_fits : (f : ℤ → ℤ → Bool) (t : Scalar) {v w : Value} → Alike v w → Taken Types.relation v w t → Fits t (relation f (pair v w))
unfolding relation
relation_fits f t both_bools h = none_some h
relation_fits f t both_chars h = cc
relation_fits f t both_ints h = cc
relation_fits f t (unlike {v} {w} s m) h = untaken Types.relation v w t s h

equality_fits : (f : Bool → Bool) (t : Scalar) {v w : Value} → Alike v w → Taken Types.equality v w t → Fits t (equality f (pair v w))
unfolding equality
equality_fits f t both_bools h = cc
equality_fits f t both_chars h = cc
equality_fits f t both_ints h = cc
equality_fits f t (unlike {v} {w} s m) h = untaken Types.equality v w t s h

logic_fits : (f : Bool → Bool → Bool) (t : Scalar) {v w : Value} → Alike v w → Taken Types.logic v w t → Fits t (logic f (pair v w))
unfolding logic
logic_fits f t both_bools h = cc
logic_fits f t both_chars h = none_some h
logic_fits f t both_ints h = none_some h
logic_fits f t (unlike {v} {w} s m) h = untaken Types.logic v w t s h

pub apply_fits : (o : Operator) (v w : Value) (t : Scalar) → result_of o (value_type v) (value_type w) ≡ Some t → Fits t (apply o v w)
unfolding apply
apply_fits Add v w t h = arithmetic_fits _ t (alike v w) h
apply_fits Subtract v w t h = arithmetic_fits _ t (alike v w) h
apply_fits Multiply v w t h = arithmetic_fits _ t (alike v w) h
apply_fits Divide v w t h = division_fits _ t (alike v w) h
apply_fits Remainder v w t h = division_fits _ t (alike v w) h
apply_fits Less v w t h = relation_fits _ t (alike v w) h
apply_fits LessEqual v w t h = relation_fits _ t (alike v w) h
apply_fits Greater v w t h = relation_fits _ t (alike v w) h
apply_fits GreaterEqual v w t h = relation_fits _ t (alike v w) h
apply_fits Equal v w t h = equality_fits _ t (alike v w) h
apply_fits NotEqual v w t h = equality_fits _ t (alike v w) h
apply_fits And v w t h = logic_fits _ t (alike v w) h
apply_fits Or v w t h = logic_fits _ t (alike v w) h

pub unary_fits : (u : Unary) (v : Value) (t : Scalar) → unary_result u (value_type v) ≡ Some t → Fits t (apply_unary u v)
unfolding apply_unary
unary_fits negate (of_bool b) t h = none_some h
unary_fits negate (of_char c) t h = cc
unary_fits negate (of_int n) t h = cc
unary_fits invert (of_bool b) t h = cc
unary_fits invert (of_char c) t h = none_some h
unary_fits invert (of_int n) t h = none_some h

pub same_type_lem : (s t : Scalar) → same_type s t ≡ true → s ≡ t
same_type_lem bool bool h = refl
same_type_lem bool char h = false_true h
same_type_lem bool int h = false_true h
same_type_lem char bool h = false_true h
same_type_lem char char h = refl
same_type_lem char int h = false_true h
same_type_lem int bool h = false_true h
same_type_lem int char h = false_true h
same_type_lem int int h = refl
