-- A list whose first records are those of another.
use Rattle.std.proofs.Common.{◌≡◌, ℕ, zero, suc, ◌+◌, ◌<◌, List, [], ◌∷◌, ◌++◌, length, take, drop, set, Some, None, sym, refl, ap, ◌∙◌, add-one, arith}
use Rattle.std.specs.List.{slice_get}
use Rattle.std.proofs.lemmas.List.{take_all}
use Rattle.machine.specs.declared.instruction.Instruction.{Instruction}

copied : (h b : List Instruction) (i : ℕ) (x : Instruction) → slice_get h i ≡ Some x → i < length b → set (take i h ++ drop i b) i x ≡ take (suc i) h ++ drop (suc i) b
copied [] b i x e l = let z : ◌≡◌ {A = ℕ} 0 1 = cc in absurd (omega arith)
copied (y ∷ h) [] i x e l = absurd (omega arith)
copied (y ∷ h) (z ∷ b) zero x e l = let a : x ≡ y = cc in ap (λ (w : Instruction). w ∷ b) a
copied (y ∷ h) (z ∷ b) (suc i) x e l = ap (λ (w : List Instruction). y ∷ w) (copied h b i x e (omega arith))

-- one more record
pub copied_more : (h b t : List Instruction) (i : ℕ) (x : Instruction) → Some x ≡ slice_get h i → i < length b → t ≡ take i h ++ drop i b → set t i x ≡ take (i + 1) h ++ drop (i + 1) b
copied_more h b t i x e l k = rw (k, add-one) (copied h b i x (sym e) l)

pub never_past : (h : List Instruction) (i : ℕ) → None ≡ slice_get h i → i < length h → ⊥
never_past [] i e l = omega arith
never_past (y ∷ h) zero e l = let z : ◌≡◌ {A = ℕ} 0 1 = cc in omega arith
never_past (y ∷ h) (suc i) e l = never_past h i e (omega arith)

-- all of them
pub copied_all : (h b t : List Instruction) (i n : ℕ) → i ≡ n → n ≡ length h → t ≡ take i h ++ drop i b → t ≡ h ++ drop n b
copied_all h b t i n e k l = l ∙ rw (e, k, take_all (length h) h (omega arith)) refl
