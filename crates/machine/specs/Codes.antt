-- The instructions by their codes.
use Rattle.std.specs.Prelude.{◌≡◌, ◌≢◌, ℕ, Bool, false, ◌||◌, List, [], ◌∷◌, ℤ, pos, negsuc, Some, None, Option, Result, MatchResult, nat_lt, slice_index_or}
use Rattle.std.specs.List.{slice_get}
use Rattle.ints.specs.Arith.{equal_z}
use Rattle.ints.specs.declared.operator.Operator.{Operator}
use Rattle.ints.specs.declared.operator.Operator.TheVariants.{Add, Sub, Mul, Div, Rem, Less, Greater, Equal}
use Rattle.ints.specs.declared.operator.Unary.{Unary}
use Rattle.ints.specs.declared.operator.Unary.TheVariants.{Low, Not}
use Rattle.machine.specs.declared.instruction.Instruction.{Instruction}
use Rattle.machine.specs.declared.op.Op.{Op}
use Rattle.machine.specs.declared.op.Op.TheVariants as O
use Rattle.machine.specs.declared.op.UnknownCode.{UnknownCode}

-- the number of each instruction
abbrev pub code_of : Op → ℕ
code_of O.Push = 0
code_of O.Load = 1
code_of O.Store = 2
code_of O.Pop = 3
code_of O.Add = 4
code_of O.Subtract = 5
code_of O.Multiply = 6
code_of O.Divide = 7
code_of O.Remainder = 8
code_of O.Low = 9
code_of O.Less = 10
code_of O.Greater = 11
code_of O.Equal = 12
code_of O.Not = 13
code_of O.Jump = 14
code_of O.JumpIfZero = 15
code_of O.Tick = 16
code_of O.Zone = 17
code_of O.Columns = 18
code_of O.Rows = 19
code_of O.Report = 20
code_of O.Return = 21

-- the result is the instruction with this number, or says that none has it
abbrev pub Names : ℤ → Result Op UnknownCode → Type 0
Names code r = MatchResult r (λ op. code ≡ pos (code_of op)) (λ e. (e.0 ≡ code) × ((op : Op) → code ≢ pos (code_of op)))

-- what works on cells and values alone
pub data Plain : Type 0 where
  push : ℤ → Plain
  load : ℤ → Plain
  store : ℤ → Plain
  discard : Plain
  binary : Operator → Plain
  unary : Unary → Plain
  give : Plain

-- what asks the board
pub data Query : Type 0 where
  zone : Query
  columns : Query
  rows : Query
  report : Query

-- what an instruction does
pub data Operation : Type 0 where
  plain : Plain → Operation
  ask : Query → Operation
  jump : ℤ → Operation
  jump_if_zero : ℤ → Operation
  tick : Operation
  unknown : Operation

-- with the operand a, by code from 0
abbrev pub operations : ℤ → List Operation
operations a =
    plain (push a) ∷ plain (load a) ∷ plain (store a) ∷ plain discard
    ∷ plain (binary Add) ∷ plain (binary Sub) ∷ plain (binary Mul) ∷ plain (binary Div) ∷ plain (binary Rem)
    ∷ plain (unary Low)
    ∷ plain (binary Less) ∷ plain (binary Greater) ∷ plain (binary Equal)
    ∷ plain (unary Not)
    ∷ jump a ∷ jump_if_zero a ∷ tick
    ∷ ask zone ∷ ask columns ∷ ask rows ∷ ask report
    ∷ plain give ∷ []

-- the operation of a code with an operand; any other code is unknown
abbrev pub decode : ℤ → ℤ → Operation
decode (pos n) a = slice_index_or (operations a) n unknown
decode (negsuc n) a = unknown

-- the operation of an instruction
abbrev pub operation_of : Instruction → Operation
operation_of i = decode i.code i.operand

-- whether a tick stands there
abbrev pub is_tick : Option Instruction → Bool
is_tick None = false
is_tick (Some i) = equal_z i.code (pos 16)

-- where a taken jump may lead: forward, or onto a tick
abbrev pub may_land : List Instruction → ℕ → ℕ → Bool
may_land code from to = nat_lt from to || is_tick (slice_get code to)

-- the place of the instruction at a position
abbrev pub place_of : Option Instruction → ℤ
place_of None = pos 0
place_of (Some i) = i.place

-- the place of the instruction at position k, 0 where there is none
abbrev pub place_at : List Instruction → ℕ → ℤ
place_at code k = place_of (slice_get code k)
