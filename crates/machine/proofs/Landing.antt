-- Where jumps lead, and numbers that no instruction has.
use Rattle.std.proofs.Common.{◌≡◌, ◌≢◌, ℕ, zero, suc, ◌+◌, ◌^◌, ◌<◌, ◌≤◌, true, false, cond, eqb, ltb, List, ◌∷◌, length, get_or, ℤ, pos, negsuc, refl, sym, ap, ◌∙◌, arith, w32, SFits, of_z}
use Rattle.std.proofs.lemmas.Option.{slice_get-get_or, slice_get_past}
use Rattle.std.proofs.lemmas.Bool.Decides.{nat_tests}
use Rattle.boards.specs.Meaning.{Meaning}
use Rattle.ints.specs.Arith.{equal_z, is_zero}
use Rattle.machine.specs.declared.instruction.Instruction.{Instruction}
use Rattle.machine.specs.declared.memory.Memory.{Memory}
use Rattle.machine.specs.declared.op.Op.{Op}
use Rattle.machine.specs.declared.op.Op.TheVariants as O
use Rattle.machine.specs.Codes.{code_of, unknown, decode, may_land}
use Rattle.machine.specs.Steps.{at, go, go_to, jumped, branched}
use Rattle.machine.specs.Views.{tops, store_of}

-- the comparison of bits is that of numbers
same_bits : (z : ℤ) → SFits w32 z → eqb (of_z w32 z) 16 ≡ equal_z z (pos 16)
same_bits (pos n) f = refl
same_bits (negsuc n) f = let l : n < 2 ^ 31 = f.sfits in grind (arith, nat_tests)

module _ (code : List Instruction) (from to : ℕ) (back : to ≤ from) where
  not_ahead : ltb from to ≡ false
  not_ahead = grind (arith, nat_tests)

  pub lands_back : (d : Instruction) → to < length code → SFits w32 (get_or code to d).code
      → eqb (of_z w32 (get_or code to d).code) 16 ≡ may_land code from to
  lands_back d l f = rw (not_ahead, slice_get-get_or code to d l) (same_bits (get_or code to d).code f)

  pub lands_nowhere : length code ≤ to → ltb to (length code) ≡ may_land code from to
  lands_nowhere l =
      let past : ltb to (length code) ≡ false = grind (arith, nat_tests) in
      rw (not_ahead, past, slice_get_past code to l)

pub zero_bits : (z : ℤ) → SFits w32 z → (of_z w32 z ≡ 0 → ⊥) → is_zero z ≡ false
zero_bits (pos n) f h = grind (arith, nat_tests)
zero_bits (negsuc n) f h = refl

pub no_bits : (z : ℤ) → SFits w32 z → of_z w32 z ≡ 0 → is_zero z ≡ true
no_bits (pos n) f h = grind (arith, nat_tests)
no_bits (negsuc n) f h = let l : n < 2 ^ 31 = f.sfits in let b : ⊥ = omega arith in absurd b

pub taken : (code : List Instruction) (a v : ℤ) (m : Memory) (h k from l : ℕ) (b : Meaning) → tops m.values h ≡ v ∷ tops m.values k → is_zero v ≡ true
    → jumped code a (tops m.values k) (at (store_of m h) from l b) ≡ branched code a (tops m.values h) (at (store_of m h) from l b)
taken code a v m h k from l b e z =
    let u = at (store_of m h) from l b in
    sym (ap (λ s. branched code a s u) e ∙ ap (λ t. cond t (jumped code a (tops m.values k) u) (go (go_to u (tops m.values k) (from + 1)))) z)

pub unknown_code : (z a : ℤ) → ((op : Op) → z ≢ pos (code_of op)) → decode z a ≡ unknown
unknown_code (pos zero) a f = absurd (f O.Push refl)
unknown_code (pos (suc zero)) a f = absurd (f O.Load refl)
unknown_code (pos (suc (suc zero))) a f = absurd (f O.Store refl)
unknown_code (pos (suc (suc (suc zero)))) a f = absurd (f O.Pop refl)
unknown_code (pos (suc (suc (suc (suc zero))))) a f = absurd (f O.Add refl)
unknown_code (pos (suc (suc (suc (suc (suc zero)))))) a f = absurd (f O.Subtract refl)
unknown_code (pos (suc (suc (suc (suc (suc (suc zero))))))) a f = absurd (f O.Multiply refl)
unknown_code (pos (suc (suc (suc (suc (suc (suc (suc zero)))))))) a f = absurd (f O.Divide refl)
unknown_code (pos (suc (suc (suc (suc (suc (suc (suc (suc zero))))))))) a f = absurd (f O.Remainder refl)
unknown_code (pos (suc (suc (suc (suc (suc (suc (suc (suc (suc zero)))))))))) a f = absurd (f O.Low refl)
unknown_code (pos (suc (suc (suc (suc (suc (suc (suc (suc (suc (suc zero))))))))))) a f = absurd (f O.Less refl)
unknown_code (pos (suc (suc (suc (suc (suc (suc (suc (suc (suc (suc (suc zero)))))))))))) a f = absurd (f O.Greater refl)
unknown_code (pos (suc (suc (suc (suc (suc (suc (suc (suc (suc (suc (suc (suc zero))))))))))))) a f = absurd (f O.Equal refl)
unknown_code (pos (suc (suc (suc (suc (suc (suc (suc (suc (suc (suc (suc (suc (suc zero)))))))))))))) a f = absurd (f O.Not refl)
unknown_code (pos (suc (suc (suc (suc (suc (suc (suc (suc (suc (suc (suc (suc (suc (suc zero))))))))))))))) a f = absurd (f O.Jump refl)
unknown_code (pos (suc (suc (suc (suc (suc (suc (suc (suc (suc (suc (suc (suc (suc (suc (suc zero)))))))))))))))) a f = absurd (f O.JumpIfZero refl)
unknown_code (pos (suc (suc (suc (suc (suc (suc (suc (suc (suc (suc (suc (suc (suc (suc (suc (suc zero))))))))))))))))) a f = absurd (f O.Tick refl)
unknown_code (pos (suc (suc (suc (suc (suc (suc (suc (suc (suc (suc (suc (suc (suc (suc (suc (suc (suc zero)))))))))))))))))) a f = absurd (f O.Zone refl)
unknown_code (pos (suc (suc (suc (suc (suc (suc (suc (suc (suc (suc (suc (suc (suc (suc (suc (suc (suc (suc zero))))))))))))))))))) a f = absurd (f O.Columns refl)
unknown_code (pos (suc (suc (suc (suc (suc (suc (suc (suc (suc (suc (suc (suc (suc (suc (suc (suc (suc (suc (suc zero)))))))))))))))))))) a f = absurd (f O.Rows refl)
unknown_code (pos (suc (suc (suc (suc (suc (suc (suc (suc (suc (suc (suc (suc (suc (suc (suc (suc (suc (suc (suc (suc zero))))))))))))))))))))) a f = absurd (f O.Report refl)
unknown_code (pos (suc (suc (suc (suc (suc (suc (suc (suc (suc (suc (suc (suc (suc (suc (suc (suc (suc (suc (suc (suc (suc zero)))))))))))))))))))))) a f = absurd (f O.Return refl)
unknown_code (pos (suc (suc (suc (suc (suc (suc (suc (suc (suc (suc (suc (suc (suc (suc (suc (suc (suc (suc (suc (suc (suc (suc n))))))))))))))))))))))) a f = refl
unknown_code (negsuc n) a f = refl
