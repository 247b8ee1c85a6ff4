-- Numbers with a sign, of a given width: one definition for whatever computes with them.
use Rattle.std.specs.Prelude.{Bool, false, cond, ℤ, pos, negsuc, ◌+ℤ◌, ◌-ℤ◌, ◌*ℤ◌, Some, None, Option, ◌==◌, int_div, int_lt, int_rem}
use Rattle.std.specs.Int.{int_wrap, Width, w8}
use Rattle.ints.specs.declared.operator.Operator.{Operator}
use Rattle.ints.specs.declared.operator.Operator.TheVariants.{Add, Sub, Mul, Div, Rem, Less, Greater, Equal}
use Rattle.ints.specs.declared.operator.Unary.{Unary}
use Rattle.ints.specs.declared.operator.Unary.TheVariants.{Low, Not}

-- whether a number is 0
abbrev pub is_zero : ℤ → Bool
is_zero (pos n) = n == 0
is_zero (negsuc n) = false

-- whether two numbers are equal
abbrev pub equal_z : ℤ → ℤ → Bool
equal_z (pos a) (pos b) = a == b
equal_z (pos a) (negsuc b) = false
equal_z (negsuc a) (pos b) = false
equal_z (negsuc a) (negsuc b) = a == b

-- 1 for true, 0 for false
abbrev pub flag : Bool → ℤ
flag b = cond b (pos 1) (pos 0)

-- sums, differences and products wrap at the width
abbrev pub add_z : Width → ℤ → ℤ → ℤ
add_z w l r = int_wrap w (l +ℤ r)

-- a difference
abbrev pub sub_z : Width → ℤ → ℤ → ℤ
sub_z w l r = int_wrap w (l -ℤ r)

-- a product
abbrev pub mul_z : Width → ℤ → ℤ → ℤ
mul_z w l r = int_wrap w (l *ℤ r)

-- a quotient goes towards 0; the least number by -1 wraps to itself
abbrev pub div_z : Width → ℤ → ℤ → ℤ
div_z w l r = int_wrap w (int_div l r)

-- what two numbers give under an operator, unless it divides by 0; a remainder has the sign of the left one
abbrev pub compute : Width → Operator → ℤ → ℤ → Option ℤ
compute w Add l r = Some (add_z w l r)
compute w Sub l r = Some (sub_z w l r)
compute w Mul l r = Some (mul_z w l r)
compute w Div l r = cond (is_zero r) None (Some (div_z w l r))
compute w Rem l r = cond (is_zero r) None (Some (int_rem l r))
compute w Less l r = Some (flag (int_lt l r))
compute w Greater l r = Some (flag (int_lt r l))
compute w Equal l r = Some (flag (equal_z l r))

-- the low 8 bits with a sign, and the test for 0
abbrev pub changed : Unary → ℤ → ℤ
changed Low v = int_wrap w8 v
changed Not v = flag (is_zero v)
