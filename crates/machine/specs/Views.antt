-- What the machine's parts stand for.
use Rattle.std.specs.Prelude.{◌≡◌, ℕ, zero, suc, ◌+◌, ◌-◌, ◌<◌, ◌≤◌, List, [], ◌∷◌, ℤ, pos, Some, None, Option, Ok, Err, Result, slice_index_or}
use Rattle.std.specs.declared.ops.ControlFlow.{ControlFlow}
use Rattle.std.specs.declared.ops.ControlFlow.TheVariants.{Continue, Break}
use Rattle.boards.specs.Meaning.{Meaning}
use Rattle.machine.specs.declared.answer.Answer.{Answer}
use Rattle.machine.specs.declared.answer.Ended.{Ended}
use Rattle.machine.specs.declared.instruction.Instruction.{Instruction}
use Rattle.machine.specs.declared.running.Halted.{Halted}
use Rattle.machine.specs.declared.memory.Memory.{Memory}
use Rattle.machine.specs.declared.cursor.Cursor.{Cursor}
use Rattle.machine.specs.declared.machine.Machine.{Machine}
use Rattle.machine.specs.declared.stop.Stop.{Stop}
use Rattle.machine.specs.declared.stop.Stop.TheVariants.{Waits, Ends, Breaks}
use Rattle.machine.specs.Endings.{end_of}
use Rattle.machine.specs.Operations.{Store, How, ends, waits, breaks, Did, done, Reply}
use Rattle.machine.specs.Steps.{State, at, Next, go, stop, wait, break}
use Rattle.machine.specs.Runs.{Kept, Over, up_to, end_as, place_as, over_as, Said, Turn, on, off}

-- the first n of xs, the last of them first
abbrev pub tops : List ℤ → ℕ → List ℤ
tops xs zero = []
tops xs (suc n) = slice_index_or xs n (pos 0) ∷ tops xs n

-- the cells and values that a memory has, with so many values
abbrev pub store_of : Memory → ℕ → Store
store_of m height = record { cells = m.cells; stack = tops m.values height }

-- the state that memory, cursor and board stand for
abbrev pub state_of : Memory → Cursor → Meaning → State
state_of m c b = at (store_of m c.height) c.position c.left b

-- how a run comes out where it stops, as the code says it
abbrev pub stop_of : Stop → How
stop_of Waits = waits
stop_of (Ends e) = ends (end_of e)
stop_of Breaks = breaks

-- a run that stops in this state
abbrev pub stopped : Stop → State → Next
stopped Waits u = wait u
stopped (Ends e) u = stop (end_of e) u
stopped Breaks u = break u

-- an instruction that ends the run counts, a waiting tick and a broken one do not
abbrev pub carried_of : Stop → ℕ
carried_of Waits = 0
carried_of (Ends e) = 1
carried_of Breaks = 0

-- how a step comes out: what stops leaves the state before it, what goes on leads to the one after it
abbrev pub next_of : Result (Unit {0}) Stop → (before after : State) → Next
next_of (Ok x) u v = go v
next_of (Err s) u v = stopped s u

-- the step that led from one cursor to another, with the memory and the board after it
abbrev pub after : Result (Unit {0}) Stop → (from to : Cursor) → Memory → Meaning → Next
after r from to m b = next_of r (state_of m from b) (state_of m to b)

-- the state at the instruction that was fetched: the cursor is already on the next one
abbrev pub fetched_at : Memory → Cursor → ℕ → Meaning → State
fetched_at m c position b = at (store_of m c.height) position c.left b

-- the cursors differ in their height alone
pub record Level (old new : Cursor) : Type 0 where
  pub position : new.position ≡ old.position
  pub left : new.left ≡ old.left

-- the top value was taken, and there is room above what is left; with no value there is a fault
abbrev pub Popped : List ℤ → Cursor → Cursor → Result ℤ Stop → Type 0
Popped xs old new (Ok v) = (tops xs old.height ≡ v ∷ tops xs new.height) × Level old new × (new.height < 256)
Popped xs old new (Err s) = (tops xs old.height ≡ []) × (s ≡ Breaks)

-- the two top values were taken, the right one from the top; with fewer there is a fault
abbrev pub PoppedTwo : List ℤ → Cursor → Cursor → Result (ℤ × ℤ) Stop → Type 0
PoppedTwo xs old new (Ok p) = (tops xs old.height ≡ p.1 ∷ (p.0 ∷ tops xs new.height)) × Level old new × (new.height < 256)
PoppedTwo xs old new (Err s) = (old.height < 2) × (s ≡ Breaks)

-- one more value lies on top
pub record Put (v : ℤ) (old : Memory) (from : Cursor) (new : Memory) (to : Cursor) : Type 0 where
  pub cells : new.cells ≡ old.cells
  pub stack : tops new.values to.height ≡ v ∷ tops old.values from.height
  pub level : Level from to

-- the index of a cell; a number that no cell has is a fault
abbrev pub Indexed : ℤ → Result ℕ Stop → Type 0
Indexed cell (Ok i) = (cell ≡ pos i) × (i < 64)
Indexed cell (Err s) = ((i : ℕ) → cell ≡ pos i → 64 ≤ i) × (s ≡ Breaks)

-- an instruction did what an operation does
abbrev pub Moves : Did → (old new : Cursor) → Memory → Result (Unit {0}) Stop → Type 0
Moves d old new m (Ok x) = (done m.cells (tops m.values new.height) ≡ d) × Level old new
Moves d old new m (Err s) = record { how = stop_of s; store = store_of m old.height } ≡ d

-- the same of a question, with the board after it
pub record Asks (a : Reply) (old new : Cursor) (m : Memory) (b : Meaning) (r : Result (Unit {0}) Stop) : Type 0 where
  pub moves : Moves a.did old new m r
  pub board : b ≡ a.board

-- how a run is over, as a machine keeps it
abbrev pub over_of : Option Ended → Option Over
over_of None = None
over_of (Some o) = Some (record { end = end_of o.ending; place = o.place })

-- what a machine keeps between runs
abbrev pub keeps : Machine → Kept
keeps m = record {
  cells = m.memory.cells;
  stack = tops m.memory.values m.height;
  position = m.position;
  spent = m.spent;
  counted = m.counted;
  over = over_of m.over;
}

-- what an answer tells
abbrev pub said_of : Answer → Said
said_of a = record { end = end_of a.ending; place = a.place; spent = a.spent; counted = a.counted }

-- where a run that is not over begins with ticks at hand, or what is answered of one that is over
abbrev pub Begun : Machine → ℕ → ControlFlow Answer Cursor → Type 0
Begun m ticks (Continue c) = (m.over ≡ None) × (c.position ≡ m.position) × (c.height ≡ m.height) × (c.left ≡ ticks)
Begun m ticks (Break a) = (o : Ended) × (m.over ≡ Some o) × (said_of a ≡ record { end = end_of o.ending; place = o.place; spent = m.spent; counted = m.counted })

-- what a machine answers and keeps when a run has come to halted
abbrev pub settled : Machine → List Instruction → Halted → ℕ → Said × Kept
settled m code h ticks = (
  record {
    end = end_as (stop_of h.stop);
    place = place_as (stop_of h.stop) code h.at.position;
    spent = up_to (m.spent + (ticks - h.at.left));
    counted = h.counted;
  },
  record {
    cells = m.memory.cells;
    stack = tops m.memory.values h.at.height;
    position = h.at.position;
    spent = up_to (m.spent + (ticks - h.at.left));
    counted = h.counted;
    over = over_as (stop_of h.stop) code h.at.position;
  },
)

-- an answer and a machine are those of s
pub record Settled (s : Said × Kept) (r : Answer) (m : Machine) : Type 0 where
  pub answer : said_of r ≡ s.0
  pub after : keeps m ≡ s.1

-- one step: how many ticks are left, or the answer
abbrev pub turn_of : ControlFlow Answer ℕ → Kept → Meaning → Turn
turn_of (Continue l) k b = on l k b
turn_of (Break a) k b = off (said_of a) k b
