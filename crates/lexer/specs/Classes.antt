-- The class of each byte, by rule.
use Rattle.std.specs.Prelude.{ℕ, Bool, false, cond, ◌&&◌, ◌||◌, List, [], ◌∷◌, codes, ◌==◌, nat_le}
use Rattle.lexer.specs.declared.class.Class.{Class}
use Rattle.lexer.specs.declared.class.Class.TheVariants.{Blank, Letter, Digit, Underscore, Quote, Mark, Stray}

-- b is one of the listed bytes
abbrev pub one_of : List ℕ → ℕ → Bool
one_of [] b = false
one_of (x ∷ xs) b = b == x || one_of xs b

-- b lies from low to high
abbrev pub from_to : ℕ → ℕ → ℕ → Bool
from_to low high b = nat_le low b && nat_le b high

-- space, tab, line feed and carriage return
abbrev pub is_blank : ℕ → Bool
is_blank = one_of (32 ∷ 9 ∷ 10 ∷ 13 ∷ [])

-- `a` to `z` and `A` to `Z`
abbrev pub is_letter : ℕ → Bool
is_letter b = from_to 97 122 b || from_to 65 90 b

-- `0` to `9`
abbrev pub is_digit : ℕ → Bool
is_digit = from_to 48 57

-- the bytes that marks are made of
abbrev pub is_mark : ℕ → Bool
is_mark = one_of (codes "+-*/%=!<>&|(){},;")

-- the class of a byte
abbrev pub class_of : ℕ → Class
class_of b =
    cond (is_blank b) Blank
    (cond (is_letter b) Letter
    (cond (is_digit b) Digit
    (cond (b == 95) Underscore
    (cond (b == 39) Quote
    (cond (is_mark b) Mark Stray)))))
