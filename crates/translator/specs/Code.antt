-- The code that grows while a script is translated.
use Rattle.std.specs.Prelude.{◌≡◌, ℕ, zero, suc, ◌<◌, cond, List, [], ◌∷◌, ◌++◌, length, drop, ℤ, pos, Some, None, Option}
use Rattle.stacks.specs.Held.{Held, holding, cut}
use Rattle.machine.specs.declared.instruction.Instruction.{Instruction}
use Rattle.layout.proofs.Compiled.{ins}
use Rattle.translator.specs.Translation.{code_limit}
use Rattle.machine.specs.declared.op.Op.{Op}
use Rattle.machine.specs.Codes.{code_of}
use Rattle.translator.specs.declared.pending.Jump.{Jump}

-- a place that fits an int
abbrev pub Placed : ℕ → Type 0
Placed p = p < 2147483648

-- the code stack holds this code
abbrev pub coded : List Instruction → Held Instruction
coded C = holding C code_limit

-- one more instruction, where there is room
abbrev pub Emits : Held Instruction → (code operand place : ℕ) → Held Instruction → Type 0
Emits before c a p after =
    (C : List Instruction) → before ≡ coded C → length C < code_limit → Placed a → Placed p → after ≡ coded (C ++ (ins c (pos a) p ∷ []))

-- one more instruction, with any operand
abbrev pub Appends : Held Instruction → (code : ℕ) → ℤ → (place : ℕ) → Held Instruction → Type 0
Appends before c v p after =
    (C : List Instruction) → before ≡ coded C → length C < code_limit → Placed p → after ≡ coded (C ++ (ins c v p ∷ []))

-- one more instruction that pushes a constant
abbrev pub Pushes : Held Instruction → ℤ → ℕ → Held Instruction → Type 0
Pushes before v p after = Appends before 0 v p after

-- the numbers of one instruction, and perhaps of a second
abbrev pub codes_by : Op → Option Op → List ℕ
codes_by first None = code_of first ∷ []
codes_by first (Some second) = code_of first ∷ code_of second ∷ []

-- an instruction with another target
abbrev pub aim : ℕ → Instruction → Instruction
aim t i = record { code = i.code; operand = pos t; place = i.place }

-- code in which the instruction at i has the target t
unfoldable pub aimed : ℕ → ℕ → List Instruction → List Instruction
aimed i t [] = []
aimed zero t (x ∷ xs) = aim t x ∷ xs
aimed (suc i) t (x ∷ xs) = x ∷ aimed i t xs

-- code in which kept jumps have their targets: a `break` goes to k, a `continue` to c
unfoldable pub patched : List Jump → (k c : ℕ) → List Instruction → List Instruction
patched [] k c C = C
patched (j ∷ js) k c C = aimed j.at (cond j.leaves k c) (patched js k c C)

-- the jump at a position gets its target
abbrev pub Lands : Held Instruction → ℕ → ℕ → Held Instruction → Type 0
Lands before i t after = (C : List Instruction) → before ≡ coded C → Placed t → after ≡ coded (aimed i t C)

-- the jumps from a mark on get their targets and are forgotten
abbrev pub LandsAll : Held Jump → Held Instruction → ℕ → ℕ → ℕ → Held Jump → Held Instruction → Type 0
LandsAll J before mark k c K after =
    (C : List Instruction) → before ≡ coded C → Placed k → Placed c
    → (after ≡ coded (patched (drop mark J.held) k c C)) × (K ≡ cut mark J)

-- on the way there: what is left to land comes to the same
abbrev pub LandsOn : Held Jump → Held Instruction → ℕ → ℕ → ℕ → Held Jump → Held Instruction → Type 0
LandsOn J before mark k c K after =
    (C : List Instruction) → before ≡ coded C → Placed k → Placed c
    → (D : List Instruction) × (after ≡ coded D) × (patched (drop mark J.held) k c C ≡ patched (drop mark K.held) k c D) × (cut mark K ≡ cut mark J)
