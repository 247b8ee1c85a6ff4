-- The types of operators, constants and functions.
use Rattle.std.specs.Prelude.{ℕ, Bool, true, false, cond, ◌&&◌, List, [], ◌∷◌, Some, None, Option}
use Rattle.meaning.specs.declared.operator.Scalar.{Scalar}
use Rattle.meaning.specs.declared.operator.Scalar.TheVariants.{Bool as bool, Char as char, Int as int}
use Rattle.meaning.specs.declared.operator.Operator.{Operator}
use Rattle.meaning.specs.declared.operator.Operator.TheVariants.{Add, Subtract, Multiply, Divide, Remainder, Less, LessEqual, Greater, GreaterEqual, Equal, NotEqual, And, Or}
use Rattle.meaning.specs.Trees.{Constant, number, character, truth, Unary, negate, invert, Modifier, plus, minus, times, over, modulo, both, either, Return, void, gives, Parameter, nothing, takes}
use Rattle.meaning.specs.Scopes.{Callee, zone, columns, rows, report, main, callee_name, same_name}

-- whether two types are equal
abbrev pub same_type : Scalar → Scalar → Bool
same_type bool bool = true
same_type bool char = false
same_type bool int = false
same_type char bool = false
same_type char char = true
same_type char int = false
same_type int bool = false
same_type int char = false
same_type int int = true

-- the four classes of operators that take two operands
pub data Class : Type 0 where
  arithmetic relation equality logic : Class

-- the class of each operator
abbrev pub class_of : Operator → Class
class_of Add = arithmetic
class_of Subtract = arithmetic
class_of Multiply = arithmetic
class_of Divide = arithmetic
class_of Remainder = arithmetic
class_of Less = relation
class_of LessEqual = relation
class_of Greater = relation
class_of GreaterEqual = relation
class_of Equal = equality
class_of NotEqual = equality
class_of And = logic
class_of Or = logic

-- What an operator gives at two operands of one type, if it takes them: arithmetic takes chars and ints and keeps the
-- type; relations take the same and give bool; equality takes any type and gives bool; `&&` and `||` take bools.
abbrev pub result_at : Class → Scalar → Option Scalar
result_at arithmetic bool = None
result_at arithmetic char = Some char
result_at arithmetic int = Some int
result_at relation bool = None
result_at relation char = Some bool
result_at relation int = Some bool
result_at equality t = Some bool
result_at logic bool = Some bool
result_at logic char = None
result_at logic int = None

-- what an operator gives: its operands have one type
abbrev pub result_of : Operator → Scalar → Scalar → Option Scalar
result_of o s t = cond (same_type s t) (result_at (class_of o) s) None

-- unary minus takes a char or an int and keeps the type, `!` takes a bool
abbrev pub unary_result : Unary → Scalar → Option Scalar
unary_result negate bool = None
unary_result negate char = Some char
unary_result negate int = Some int
unary_result invert bool = Some bool
unary_result invert char = None
unary_result invert int = None

-- the type of a constant
abbrev pub constant_type : Constant → Scalar
constant_type (number v p) = int
constant_type (character v p) = char
constant_type (truth v p) = bool

-- the operator of a modifier: `v op= e` is `v = v op e`
abbrev pub operator_of : Modifier → Operator
operator_of plus = Add
operator_of minus = Subtract
operator_of times = Multiply
operator_of over = Divide
operator_of modulo = Remainder
operator_of both = And
operator_of either = Or

-- what a function takes and gives
pub record Signature : Type 0 where
  pub parameters : List Scalar
  pub result : Return

-- the listed functions: int zone(int), int columns(), int rows(), void report(int); main takes nothing and gives an int
abbrev pub signature : Callee → Signature
signature zone = record { parameters = int ∷ []; result = gives int }
signature columns = record { parameters = []; result = gives int }
signature rows = record { parameters = []; result = gives int }
signature report = record { parameters = int ∷ []; result = void }
signature main = record { parameters = []; result = gives int }

-- whether two lists of types are equal
unfoldable pub same_types : List Scalar → List Scalar → Bool
same_types [] [] = true
same_types [] (t ∷ ts) = false
same_types (s ∷ ss) [] = false
same_types (s ∷ ss) (t ∷ ts) = same_type s t && same_types ss ts

-- whether two functions give the same
abbrev pub same_return : Return → Return → Bool
same_return void void = true
same_return void (gives t) = false
same_return (gives s) void = false
same_return (gives s) (gives t) = same_type s t

-- the types that an extern says it takes; the parameter's name is free
abbrev pub parameter_types : Parameter → List Scalar
parameter_types nothing = []
parameter_types (takes t p x) = t ∷ []

-- whether an extern's words are those of a function
abbrev pub declares : List ℕ → Return → List Scalar → Callee → Bool
declares x t ps f = same_name x (callee_name f) && same_return t (signature f).result && same_types ps (signature f).parameters

-- the listed function that an extern declares, if it does
unfoldable pub listed : List ℕ → Return → List Scalar → Option Callee
listed x t ps =
    cond (declares x t ps zone) (Some zone) (cond (declares x t ps columns) (Some columns)
    (cond (declares x t ps rows) (Some rows) (cond (declares x t ps report) (Some report) None)))
