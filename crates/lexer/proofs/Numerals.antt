-- A value that is cut off above the greatest number grows digit by digit as the whole value does.
use Rattle.std.proofs.Common.{◌≡◌, ℕ, ◌+◌, ◌*◌, ◌<◌, ◌≤◌, min, true, false, List, length, get_or, take, drop, sym, ap, ◌∙◌, inl, inr, mul-le-mul_right, mul-le-mul, arith}
use Rattle.std.specs.List.{prefix_len}
use Rattle.std.proofs.lemmas.List.Sums.{prefix_len-drop_yes}
use Rattle.std.proofs.lemmas.Bool.{cases_lt}
use Rattle.lexer.specs.Classes.{is_digit}
use Rattle.lexer.specs.Constants.{is_hexadecimal, value_of}
use Rattle.lexer.specs.Reading.{sized, opens_hexadecimal, number_by, number_front}

pub product_fits : (v base : ℕ) → v ≤ 2147483648 → base ≤ 16 → v * base ≤ 34359738368
product_fits v base h k = mul-le-mul h k

pub cut_step : (x base d : ℕ) → 0 < base → min (min 2147483648 x * base + d) 2147483648 ≡ min 2147483648 (x * base + d)
cut_step x base d h =
    elim (cases_lt x 2147483648) [
      | inl l ↦ (let e : min 2147483648 x ≡ x = omega arith in rw e (omega arith))
      | inr l ↦ (let e : min 2147483648 x ≡ 2147483648 = omega arith in rw e (omega (arith, mul-le-mul_right base l)))
    ]

-- the front of a number, by the length of its run of digits

pub hexadecimal_front : (r : List ℕ) (n : ℕ) → 2 < length r → opens_hexadecimal r ≡ true → is_hexadecimal (get_or r 2 0) ≡ true → n ≡ prefix_len is_hexadecimal (drop 3 r) → number_front r ≡ sized (2 + (1 + n)) (value_of 16 (take (1 + n) (drop 2 r)))
hexadecimal_front r n h o d e =
    let run : prefix_len is_hexadecimal (drop 2 r) ≡ 1 + n = prefix_len-drop_yes is_hexadecimal r 2 0 h d ∙ ap (λ (k : ℕ). 1 + k) (sym e) in
    ap (λ b. number_by b r) o ∙ ap (λ (k : ℕ). sized (2 + k) (value_of 16 (take k (drop 2 r)))) run

pub decimal_front : (r : List ℕ) (n : ℕ) → opens_hexadecimal r ≡ false → n ≡ prefix_len is_digit r → number_front r ≡ sized (0 + n) (value_of 10 (take n r))
decimal_front r n o e = ap (λ b. number_by b r) o ∙ ap (λ (k : ℕ). sized (0 + k) (value_of 10 (take k r))) (sym e)
