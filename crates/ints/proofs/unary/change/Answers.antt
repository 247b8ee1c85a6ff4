use Rattle.std.proofs.Common.{◌≡◌, ap, ◌∙◌, ℤ, pos, w8, w32, SFits, to_z, of_z, rules}
use Rattle.std.specs.Int.{int_rem_euclid, int_wrap}
use Rattle.std.specs.Int.RustNames.{unsigned_abs}
use Rattle.std.proofs.lemmas.Int.{to_z-of_z}
use Rattle.ints.proofs.unary.change.Goals as goal

-- the low 8 bits of a number, with a sign, and widened
low_bits : (v r s n : ℤ) → SFits w32 v → SFits w32 r → SFits w8 s → SFits w32 n
    → r ≡ int_rem_euclid (to_z w32 (of_z w32 v)) (pos 256)
    → s ≡ to_z w8 (unsigned_abs (to_z w32 (of_z w32 r)))
    → n ≡ to_z w8 (of_z w8 s)
    → to_z w32 (of_z w32 n) ≡ int_wrap w8 v
unfolding int_wrap
low_bits v r s n fv fr fs fn rem low wide =
    let rem' = simp to_z-of_z at rem in
    let low' = simp to_z-of_z at low in
    let wide' = simp to_z-of_z at wide in
    rw to_z-of_z (wide' ∙ low' ∙ ap (λ z. to_z w8 (unsigned_abs z)) rem')

pub returns-in-Low : goal.returns-in-Low
returns-in-Low c =
    let r : SFits w32 c.rem_euclid.result = search rules in
    let s : SFits w8 c.cast_signed.result = search rules in
    let n : SFits w32 c.from.result = search rules in
    rw c.in-Low.is (low_bits c.args.v _ _ _ c.ranges.v r s n c.rem_euclid.ensures.value c.cast_signed.ensures c.from.ensures)
