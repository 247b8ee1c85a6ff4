-- Numbers and character constants: their bytes and values.
use Rattle.std.specs.Prelude.{ℕ, ◌+◌, ◌-◌, ◌*◌, Bool, cond, not, ◌&&◌, ◌||◌, List, [], ◌∷◌, Some, None, fold, Option, ◌==◌}
use Rattle.lexer.specs.Classes.{is_digit, from_to}

-- a hexadecimal digit, in either case of the letters
abbrev pub is_hexadecimal : ℕ → Bool
is_hexadecimal b = is_digit b || (from_to 97 102 b || from_to 65 70 b)

-- the value of a decimal or hexadecimal digit
abbrev pub digit_value : ℕ → ℕ
digit_value b = cond (is_digit b) (b - 48) (cond (from_to 97 102 b) (b - 87) (cond (from_to 65 70 b) (b - 55) 0))

-- the number that digits stand for, however many they are
abbrev pub value_of : ℕ → List ℕ → ℕ
value_of base ds = fold (λ v d. v * base + digit_value d) 0 ds

-- the greatest number
abbrev pub greatest : ℕ
greatest = 2147483647

-- a byte that stands for itself in a character constant: printable, and neither quote nor backslash
abbrev pub is_plain : ℕ → Bool
is_plain b = from_to 32 126 b && (not (b == 39) && not (b == 92))

-- what may follow a backslash, and the value that it gives
abbrev pub escapes : List (ℕ × ℕ)
escapes =
    (110, 10) ∷ (116, 9) ∷ (114, 13) ∷ (97, 7) ∷ (98, 8) ∷ (102, 12) ∷ (118, 11) ∷ (48, 0)
    ∷ (92, 92) ∷ (39, 39) ∷ (34, 34) ∷ (63, 63) ∷ []

-- the listed value of a byte
abbrev pub escape_in : List (ℕ × ℕ) → ℕ → Option ℕ
escape_in [] b = None
escape_in (e ∷ es) b = cond (b == e.0) (Some e.1) (escape_in es b)

-- the value of the escape of a byte
abbrev pub escape_of : ℕ → Option ℕ
escape_of = escape_in escapes
