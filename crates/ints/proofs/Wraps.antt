-- Quotients, low bits and casts, from the bits to the numbers.
use Rattle.std.proofs.Common.{◌≡◌, ℕ, zero, suc, ◌-◌, ◌/◌, ◌%◌, ◌^◌, ◌<◌, ◌≤◌, true, false, ltb, ℤ, pos, negsuc, ◌-ℤ◌, neg_ℤ, Some, sym, refl, ap, ◌∙◌, mod-lt, mod-eq_of_lt, div-le_self, arith, w8, w32, SFits, to_z, of_z, ltb-false}
use lib.Signed.{lt_z, quot_z}
use Rattle.std.specs.Int.{int_rem_euclid, int_wrap}
use Rattle.std.proofs.lemmas.Int.{ints, to_z-of_z, to_z_pos, of_z-to_z, int_wrap_fits}
use Rattle.std.proofs.lemmas.Bool.Decides.{nat_tests}
use Rattle.ints.specs.declared.operator.Operator.TheVariants.{Div}
use Rattle.ints.specs.Arith.{is_zero, compute}

pub not_zero : (b : ℤ) → (of_z w32 b ≡ 0 → ⊥) → is_zero b ≡ false
not_zero (pos n) h = grind (arith, nat_tests)
not_zero (negsuc n) h = refl

-- bits below 2 ^ 32 are wrapped as they are
pub bits_wrapped : (n : ℕ) → n < 2 ^ 32 → to_z w32 n ≡ int_wrap w32 (pos n)
unfolding int_wrap
bits_wrapped n h = ap (to_z w32) (sym (mod-eq_of_lt h))

-- a number of 32 bits with a sign, or 2 ^ 31: what a quotient of two such numbers can be
abbrev Near : ℤ → Type 0
Near (pos n) = n < 2 ^ 32
Near (negsuc n) = n < 2 ^ 31

near_wrapped : (z : ℤ) → Near z → to_z w32 (of_z w32 z) ≡ int_wrap w32 z
near_wrapped (pos n) h = bits_wrapped n h
near_wrapped (negsuc n) h =
    let f : SFits w32 (negsuc n) = record { sfits = h } in
    to_z-of_z w32 (negsuc n) f ∙ sym (int_wrap_fits w32 (negsuc n) f)

negated_near : (n : ℕ) → n ≤ 2 ^ 31 → Near (neg_ℤ (pos n))
negated_near zero h = omega arith
negated_near (suc n) h = omega arith

quotient_near : (l r : ℤ) → SFits w32 l → Near (quot_z l r)
quotient_near (pos a) (pos b) f = omega (arith, f.sfits, div-le_self a b)
quotient_near (pos a) (negsuc b) f = negated_near (a / suc b) (omega (arith, f.sfits, div-le_self a (suc b)))
quotient_near (negsuc a) (pos b) f = negated_near (suc a / b) (omega (arith, f.sfits, div-le_self (suc a) b))
quotient_near (negsuc a) (negsuc b) f = omega (arith, f.sfits, div-le_self (suc a) (suc b))

-- what `wrapping_div` gives is the quotient, wrapped
pub quotient_is : (l r q : ℤ) → SFits w32 l → SFits w32 r → SFits w32 q → (of_z w32 r ≡ 0 → ⊥)
    → q ≡ to_z w32 (of_z w32 (quot_z (to_z w32 (of_z w32 l)) (to_z w32 (of_z w32 r))))
    → Some (to_z w32 (of_z w32 q)) ≡ compute w32 Div l r
quotient_is l r q f g h n e =
    let near : q ≡ to_z w32 (of_z w32 (quot_z l r)) = simp to_z-of_z at e in
    let is : q ≡ int_wrap w32 (quot_z l r) = near ∙ near_wrapped (quot_z l r) (quotient_near l r f) in
    rw (to_z-of_z, not_zero r n, is)

low_small : (k : ℕ) → ltb k 128 ≡ true → pos k ≡ to_z w8 k
low_small k e = rw e

low_large : (k : ℕ) → k < 256 → ltb k 128 ≡ false → pos k -ℤ pos 256 ≡ to_z w8 k
low_large k l e = let h = ltb-false k 128 e in rw e (omega (arith, ints, h))

-- the remainder by 256 is the low 8 bits, from 128 on less 256
pub low-then : (v r : ℤ) → r ≡ int_rem_euclid v (pos 256) → lt_z r (pos 128) ≡ true → r ≡ int_wrap w8 v
unfolding int_wrap
low-then (pos n) r e t = e ∙ low_small (n % 256) (rw e at t)
low-then (negsuc n) r e t = e ∙ low_small (256 - 1 - n % 256) (rw e at t)

pub low_else : (v r : ℤ) → r ≡ int_rem_euclid v (pos 256) → lt_z r (pos 128) ≡ false → r -ℤ pos 256 ≡ int_wrap w8 v
unfolding int_wrap
low_else (pos n) r e t = rw e (low_large (n % 256) (mod-lt n (omega arith)) (rw e at t))
low_else (negsuc n) r e t = rw e (low_large (256 - 1 - n % 256) (omega arith) (rw e at t))

-- the number with the bits x, from 2 ^ 31 on
pub high_bits : (x : ℕ) → 2 ^ 31 ≤ x → x < 2 ^ 32 → to_z w32 (of_z w32 (negsuc 0 -ℤ to_z w32 (4294967295 - x))) ≡ int_wrap w32 (pos x)
high_bits x low high =
    let small : to_z w32 (4294967295 - x) ≡ pos (4294967295 - x) = to_z_pos w32 (4294967295 - x) (omega arith) in
    let past : ltb x (2 ^ 31) ≡ false = grind (arith, nat_tests) in
    let is : negsuc 0 -ℤ to_z w32 (4294967295 - x) ≡ to_z w32 x = rw (small, past) (omega (arith, ints)) in
    rw is (ap (to_z w32) (of_z-to_z w32 x high) ∙ bits_wrapped x high)
