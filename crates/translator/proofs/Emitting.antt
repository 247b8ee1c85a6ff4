-- Code after some more instructions.
use Rattle.std.proofs.Common.{◌≡◌, ℕ, ◌+◌, ◌≤◌, List, [], ◌∷◌, ◌++◌, length, pos, sym, ap, ◌∙◌, append_assoc, arith, length-append}
use Rattle.stacks.specs.Held.{Held}
use Rattle.machine.specs.declared.instruction.Instruction.{Instruction}
use Rattle.layout.proofs.Compiled.{ins, plainly, past, expr_end, expr_code}
use Rattle.layout.proofs.Walk.{after}
use Rattle.layout.proofs.Ends.{expr_after}
use Rattle.meaning.specs.Trees.{Expr}
use Rattle.meaning.specs.Check.{Scope}
use Rattle.translator.specs.Translation.{code_limit}
use Rattle.translator.specs.Code.{Placed, coded, Emits}

pub emit_one : (B A : Held Instruction) (C : List Instruction) (c p : ℕ) → Emits B c 0 p A → B ≡ coded C → past (c ∷ []) (length C) ≤ code_limit → Placed p →
    A ≡ coded (C ++ plainly (c ∷ []) p)
emit_one B A C c p e b l q = e C b (omega arith) (omega arith) q

pub emit_two : (B M A : Held Instruction) (C : List Instruction) (c d p : ℕ) → Emits B c 0 p M → Emits M d 0 p A → B ≡ coded C → past (c ∷ d ∷ []) (length C) ≤ code_limit → Placed p →
    A ≡ coded (C ++ plainly (c ∷ d ∷ []) p)
emit_two B M A C c d p e f b l q =
    let m = e C b (omega arith) (omega arith) q in
    let n = length-append C (ins c (pos 0) p ∷ []) in
    f (C ++ (ins c (pos 0) p ∷ [])) m (omega arith) (omega arith) q ∙ ap coded (append_assoc C (ins c (pos 0) p ∷ []) (ins d (pos 0) p ∷ []))

-- the same by an equal list of codes
pub by_codes : (A : Held Instruction) (C : List Instruction) (cs ds : List ℕ) (p : ℕ) → cs ≡ ds → past cs (length C) ≤ code_limit → (past ds (length C) ≤ code_limit → A ≡ coded (C ++ plainly ds p)) →
    A ≡ coded (C ++ plainly cs p)
by_codes A C cs ds p e l f = rw e (f (rw e at l))

-- the length of code that ends somewhere
pub after-length : (is : List Instruction) (o : ℕ) → after is o ≡ o + length is
after-length [] o = omega arith
after-length (i ∷ is) o = let h = after-length is (o + 1) in omega arith

pub code-length : (C : List Instruction) (e : Expr) (Γ : Scope) → length (C ++ expr_code e Γ (length C)) ≡ expr_end e Γ (length C)
code-length C e Γ = length-append C (expr_code e Γ (length C)) ∙ sym (after-length (expr_code e Γ (length C)) (length C)) ∙ expr_after e Γ (length C)
