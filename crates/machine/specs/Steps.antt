-- One step: the instruction at the position, with the position and the ticks that are left.
use Rattle.std.specs.Prelude.{ℕ, zero, suc, ◌+◌, cond, List, [], ◌∷◌, ℤ, pos, negsuc, Some, None, Option}
use Rattle.std.specs.List.{slice_get}
use Rattle.boards.specs.Meaning.{Meaning}
use Rattle.ints.specs.Arith.{is_zero}
use Rattle.machine.specs.declared.instruction.Instruction.{Instruction}
use Rattle.machine.specs.Endings.{End}
use Rattle.machine.specs.Codes.{Operation, plain, ask, jump, jump_if_zero, tick, unknown, operation_of, may_land}
use Rattle.machine.specs.Operations.{Store, How, goes, ends, waits, breaks, exec, answer}

-- a run under way
pub record State : Type 0 where
  pub store : Store
  pub position : ℕ
  pub left : ℕ
  pub board : Meaning

-- the state with this store, position, ticks left and board
abbrev pub at : Store → ℕ → ℕ → Meaning → State
at m p l b = record { store = m; position = p; left = l; board = b }

-- how a step came out, and the state after it
pub data Next : Type 0 where
  go : State → Next
  stop : End → State → Next
  wait : State → Next
  break : State → Next

-- the same state with other values on the stack, at another position
abbrev pub go_to : State → List ℤ → ℕ → State
go_to u s p = at (record { cells = u.store.cells; stack = s }) p u.left u.board

-- after an operation that goes on the next instruction follows
abbrev pub moved : How → State → Store → Meaning → Next
moved goes u m b = go (at m (u.position + 1) u.left b)
moved (ends e) u m b = stop e (at m u.position u.left b)
moved waits u m b = wait (at m u.position u.left b)
moved breaks u m b = break (at m u.position u.left b)

-- a jump back that lands on no tick is broken
abbrev pub jumped : List Instruction → ℤ → List ℤ → State → Next
jumped code (pos t) s u = cond (may_land code u.position t) (go (go_to u s t)) (break u)
jumped code (negsuc t) s u = break u

-- a jump is taken where the top value is 0; the value goes either way
abbrev pub branched : List Instruction → ℤ → List ℤ → State → Next
branched code a [] u = break u
branched code a (v ∷ s) u = cond (is_zero v) (jumped code a s u) (go (go_to u s (u.position + 1)))

-- a tick is spent, or waited for
abbrev pub ticked : ℕ → State → Next
ticked zero u = wait u
ticked (suc l) u = go (at u.store (u.position + 1) l u.board)

-- what an operation makes of a state
abbrev pub performed : List Instruction → State → Operation → Next
performed code u (plain o) = moved (exec o u.store).how u (exec o u.store).store u.board
performed code u (ask q) = moved (answer q u.store u.board).did.how u (answer q u.store u.board).did.store (answer q u.store u.board).board
performed code u (jump a) = jumped code a u.store.stack u
performed code u (jump_if_zero a) = branched code a u.store.stack u
performed code u tick = ticked u.left u
performed code u unknown = break u

-- where no instruction stands the run is broken
abbrev pub fetched : List Instruction → State → Option Instruction → Next
fetched code u None = break u
fetched code u (Some i) = performed code u (operation_of i)

-- one step: the instruction at the position is carried out
abbrev pub step : List Instruction → State → Next
step code u = fetched code u (slice_get code u.position)
