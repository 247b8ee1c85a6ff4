-- The low 8 bits of what wraps at 32 bits are the low 8 bits.
use Rattle.std.proofs.Common.{◌≡◌, ℕ, suc, ◌-◌, ◌%◌, ◌<◌, Bool, true, false, ltb, ℤ, pos, negsuc, nat_abs, refl, ap, ◌∙◌, arith, w8, w32, to_z}
use mir.Val.{sel}
use Rattle.std.specs.Int.{int_rem_euclid, int_wrap}

-- a number below 2 ^ 32, read with a sign, is the same modulo 256
signed : (n : ℕ) → n < 4294967296 → nat_abs (int_rem_euclid (to_z w32 n) (pos 256)) ≡ n % 256
signed n h = go (ltb n 2147483648) refl
  where
    go : (b : Bool) → ltb n 2147483648 ≡ b → nat_abs (int_rem_euclid (sel b (pos n) (negsuc (4294967296 - suc n))) (pos 256)) ≡ n % 256
    go true e = refl
    go false e = omega arith

pub low_of_wrapped : (z : ℤ) → int_wrap w8 (int_wrap w32 z) ≡ int_wrap w8 z
unfolding int_wrap
low_of_wrapped (pos n) =
    let a : n % 4294967296 < 4294967296 = omega arith in
    let b : n % 4294967296 % 256 ≡ n % 256 = omega arith in
    ap (to_z w8) (signed (n % 4294967296) a ∙ b)
low_of_wrapped (negsuc n) =
    let a : 4294967295 - n % 4294967296 < 4294967296 = omega arith in
    let b : (4294967295 - n % 4294967296) % 256 ≡ 255 - n % 256 = omega arith in
    ap (to_z w8) (signed (4294967295 - n % 4294967296) a ∙ b)
