-- What holds of every run.
use Rattle.std.specs.Prelude.{◌≡◌, ℕ, ◌+◌, ◌*◌, ◌≤◌, List, length, Some, None}
use Rattle.boards.specs.Meaning.{Meaning}
use Rattle.machine.specs.declared.instruction.Instruction.{Instruction}
use Rattle.machine.specs.Endings.{waiting}
use Rattle.machine.specs.Steps.{State}
use Rattle.machine.specs.Runs.{Ran, Runs, run, Kept, Over, fresh, call}

-- every run of any code ends, and in one way: as the function says
pub record Ends : Type 0 where
  pub some : (code : List Instruction) (u : State) → Runs code u (run code u)
  pub one : (code : List Instruction) (u : State) (r : Ran) → Runs code u r → r ≡ run code u

-- a run that was not over waits exactly where it still is not
pub record Waits : Type 0 where
  pub is_open : (code : List Instruction) (k : Kept) (b : Meaning) (ticks : ℕ) → k.over ≡ None → (call code k b ticks).end ≡ waiting → (call code k b ticks).kept.over ≡ None
  pub while_waiting : (code : List Instruction) (k : Kept) (b : Meaning) (ticks : ℕ) → (call code k b ticks).kept.over ≡ None → (call code k b ticks).end ≡ waiting

-- a run that is not over after its ticks, given more, is the run with all of them from the start
abbrev pub Resumes : Type 0
Resumes =
    (code : List Instruction) (k : Kept) (b : Meaning) (ticks more : ℕ) → (call code k b ticks).kept.over ≡ None
    → call code k b (ticks + more) ≡ call code (call code k b ticks).kept (call code k b ticks).board more

-- since its start a run counts at most as many instructions as the code has, once and once more for each tick spent
abbrev pub Bounded : Type 0
Bounded =
    (code : List Instruction) (b : Meaning) (ticks : ℕ)
    → (call code fresh b ticks).kept.counted ≤ ((call code fresh b ticks).kept.spent + 1) * length code

-- a run that is over stays over: whatever code, board and ticks it is given, it answers the same and changes nothing
abbrev pub Stays : Type 0
Stays =
    (code : List Instruction) (k : Kept) (b : Meaning) (ticks : ℕ) (o : Over) → (call code k b ticks).kept.over ≡ Some o
    → (other : List Instruction) (c : Meaning) (more : ℕ)
    → call other (call code k b ticks).kept c more
    ≡ record { end = (call code k b ticks).end; place = (call code k b ticks).place; kept = (call code k b ticks).kept; board = c }
