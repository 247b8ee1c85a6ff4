-- What an operation does to the values below a height.
use Rattle.std.proofs.Common.{◌≡◌, ℕ, zero, suc, ◌-◌, ◌<◌, ◌≤◌, true, false, ltb, ◌∷◌, get_or, set, ℤ, pos, negsuc, nat_abs, refl, ap, arith, w32}
use lib.Signed.{lt_z, le_z}
use Rattle.std.proofs.lemmas.Bool.Decides.{nat_tests}
use Rattle.boards.specs.Meaning.{Meaning, zone_answer, report_answer, reported}
use Rattle.ints.specs.Arith.{compute, changed}
use Rattle.ints.specs.declared.operator.Unary.{Unary}
use Rattle.ints.specs.declared.operator.Operator.{Operator}
use Rattle.machine.specs.declared.memory.Memory.{Memory}
use Rattle.machine.specs.Endings.{returned}
use Rattle.machine.specs.Operations.{done, ended, fault, stored, stored_top, discarded, computed, combined, turned, given, replied, zoned, zone_of, filed, report_of}
use Rattle.machine.specs.Views.{tops, store_of}
use Rattle.machine.proofs.Tops.{tops-one, tops_two}

module _ (m : Memory) (h : ℕ) where
  pub one-stored : (cell : ℤ) → lt_z cell (pos 0) ≡ false → le_z (pos 64) cell ≡ false → 0 < h
      → stored cell (store_of m h) ≡ done (set m.cells (nat_abs cell) (get_or m.values (h - 1) (pos 0))) (tops m.values (h - 1))
  one-stored (pos k) n l g =
      let t : ltb k 64 ≡ true = grind (arith, nat_tests) in
      rw t (ap (λ s. stored_top k s (store_of m h)) (tops-one m.values h g))
  one-stored (negsuc k) n l g = let z : ◌≡◌ {A = ℕ} 0 1 = cc in let b : ⊥ = omega arith in absurd b

  pub one-gone : 0 < h → discarded (tops m.values h) (store_of m h) ≡ done m.cells (tops m.values (h - 1))
  one-gone g = ap (λ s. discarded s (store_of m h)) (tops-one m.values h g)

  pub one-turned : (u : Unary) → 0 < h
      → turned u (tops m.values h) (store_of m h) ≡ done m.cells (changed u (get_or m.values (h - 1) (pos 0)) ∷ tops m.values (h - 1))
  one-turned u g = ap (λ s. turned u s (store_of m h)) (tops-one m.values h g)

  pub one-given : 0 < h → given (tops m.values h) (store_of m h) ≡ ended (returned (get_or m.values (h - 1) (pos 0))) (store_of m h)
  one-given g = ap (λ s. given s (store_of m h)) (tops-one m.values h g)

  pub two_combined : (o : Operator) → 2 ≤ h
      → combined o (tops m.values h) (store_of m h)
      ≡ computed (compute w32 o (get_or m.values (h - 2) (pos 0)) (get_or m.values (h - 1) (pos 0))) (tops m.values (h - 2)) (store_of m h)
  two_combined o g = ap (λ s. combined o s (store_of m h)) (tops_two m.values h g)

  pub one-zoned : (b : Meaning) → 0 < h
      → zone_of (tops m.values h) (store_of m h) b ≡ zoned (zone_answer b (get_or m.values (h - 1) (pos 0))) (tops m.values (h - 1)) (store_of m h)
  one-zoned b g = ap (λ s. zone_of s (store_of m h) b) (tops-one m.values h g)

  pub one-reported : (b : Meaning) → 0 < h
      → report_of (tops m.values h) (store_of m h) b
      ≡ replied (filed (report_answer b) (tops m.values (h - 1)) (store_of m h)) (reported b (get_or m.values (h - 1) (pos 0)))
  one-reported b g = ap (λ s. report_of s (store_of m h) b) (tops-one m.values h g)

-- fewer than two values are too few for an operator
pub too_few : (o : Operator) (m : Memory) (h : ℕ) → h < 2 → combined o (tops m.values h) (store_of m h) ≡ fault (store_of m h)
too_few o m zero l = refl
too_few o m (suc zero) l = refl
too_few o m (suc (suc h)) l = let b : ⊥ = omega arith in absurd b
