-- A run: steps until one ends it, or waits, or is broken.
use Rattle.std.specs.Prelude.{◌≡◌, ℕ, zero, suc, ◌+◌, ◌-◌, ◌*◌, min, List, [], length, replicate, ℤ, pos, Some, None, Option}
use Rattle.boards.specs.Meaning.{Meaning}
use Rattle.machine.specs.declared.instruction.Instruction.{Instruction}
use Rattle.machine.specs.Endings.{End, waiting, broken}
use Rattle.machine.specs.Codes.{place_at}
use Rattle.machine.specs.Operations.{How, goes, ends, waits, breaks}
use Rattle.machine.specs.Steps.{State, at, Next, go, stop, wait, break, step}

-- how a run came out, its last state, and how many instructions were carried out
pub record Ran : Type 0 where
  pub how : How
  pub state : State
  pub carried : ℕ

-- a run with its outcome, last state and count
abbrev pub ran : How → State → ℕ → Ran
ran h u n = record { how = h; state = u; carried = n }

-- a run after n more instructions
abbrev pub later : ℕ → Ran → Ran
later n r = ran r.how r.state (n + r.carried)

-- an instruction that ends the run counts, a waiting tick and a broken one do not
abbrev pub onward : Next → (State → Ran) → Ran
onward (go v) k = later 1 (k v)
onward (stop e v) k = ran (ends e) v 1
onward (wait v) k = ran waits v 0
onward (break v) k = ran breaks v 0

-- a run is its steps, to the first that does not go on
pub data Runs (code : List Instruction) : State → Ran → Type 0 where
  by_step : {u v : State} {r q : Ran} → step code u ≡ go v → Runs code v q → r ≡ later 1 q → Runs code u r
  by_stop : {u v : State} {r : Ran} {e : End} → step code u ≡ stop e v → r ≡ ran (ends e) v 1 → Runs code u r
  by_wait : {u v : State} {r : Ran} → step code u ≡ wait v → r ≡ ran waits v 0 → Runs code u r
  by_break : {u v : State} {r : Ran} → step code u ≡ break v → r ≡ ran breaks v 0 → Runs code u r

-- the first n steps; a step to spare is a broken run
unfoldable pub steps : ℕ → List Instruction → State → Ran
steps zero code u = ran breaks u 0
steps (suc n) code u = onward (step code u) (λ v. steps n code v)

-- Between two ticks the position only rises, so this many steps always suffice.
unfoldable pub run : List Instruction → State → Ran
run code u = steps (suc (suc u.left * length code)) code u

-- the end that a caller is told
abbrev pub end_as : How → End
end_as goes = broken
end_as (ends e) = e
end_as waits = waiting
end_as breaks = broken

-- a broken run has no place, any other that of its last instruction
abbrev pub place_as : How → List Instruction → ℕ → ℤ
place_as goes code p = pos 0
place_as (ends e) code p = place_at code p
place_as waits code p = place_at code p
place_as breaks code p = pos 0

-- how a run was over
pub record Over : Type 0 where
  pub end : End
  pub place : ℤ

-- a machine between calls
pub record Kept : Type 0 where
  pub cells : List ℤ
  pub stack : List ℤ
  pub position : ℕ
  pub spent : ℕ
  pub counted : ℕ
  pub over : Option Over

-- before its first instruction
abbrev pub fresh : Kept
fresh = record { cells = replicate 64 (pos 0); stack = []; position = 0; spent = 0; counted = 0; over = None }

-- what is counted stops here
abbrev pub up_to : ℕ → ℕ
up_to n = min n 18446744073709551615

-- the run of a machine that is granted ticks
abbrev pub begun : Kept → Meaning → ℕ → State
begun k b ticks = at (record { cells = k.cells; stack = k.stack }) k.position ticks b

-- what a call answers and leaves
pub record Call : Type 0 where
  pub end : End
  pub place : ℤ
  pub kept : Kept
  pub board : Meaning

-- a run that waits can go on, any other is over
abbrev pub over_as : How → List Instruction → ℕ → Option Over
over_as goes code p = Some (record { end = broken; place = pos 0 })
over_as (ends e) code p = Some (record { end = e; place = place_at code p })
over_as waits code p = None
over_as breaks code p = Some (record { end = broken; place = pos 0 })

-- what is kept of a run that began at k with ticks, is at u and has carried out n instructions: the ticks that are not left are spent
abbrev pub kept_at : Kept → ℕ → State → ℕ → Option Over → Kept
kept_at k ticks u n o = record {
  cells = u.store.cells;
  stack = u.store.stack;
  position = u.position;
  spent = up_to (k.spent + (ticks - u.left));
  counted = up_to (k.counted + n);
  over = o;
}

-- what a call answers and keeps, from how its run came out
abbrev pub called : Kept → ℕ → List Instruction → Ran → Call
called k ticks code r = record {
  end = end_as r.how;
  place = place_as r.how code r.state.position;
  kept = kept_at k ticks r.state r.carried (over_as r.how code r.state.position);
  board = r.state.board;
}

-- a run that is over answers as before, and nothing changes
abbrev pub again : Over → Kept → Meaning → Call
again o k b = record { end = o.end; place = o.place; kept = k; board = b }

-- a run that is not over goes on; one that is over stays so
abbrev pub call_from : Option Over → List Instruction → Kept → Meaning → ℕ → Call
call_from None code k b ticks = called k ticks code (run code (begun k b ticks))
call_from (Some o) code k b ticks = again o k b

-- a run of the machine over a code list
abbrev pub call : List Instruction → Kept → Meaning → ℕ → Call
call code k b ticks = call_from k.over code k b ticks

-- what a caller is told: the end, the place, and the ticks and instructions since the start
pub record Said : Type 0 where
  pub end : End
  pub place : ℤ
  pub spent : ℕ
  pub counted : ℕ

-- what a call tells
abbrev pub says : Call → Said
says r = record { end = r.end; place = r.place; spent = r.kept.spent; counted = r.kept.counted }

-- one step goes on, with the ticks that are left, or is the end of the run
pub data Turn : Type 0 where
  on : ℕ → Kept → Meaning → Turn
  off : Said → Kept → Meaning → Turn

-- the step was the last of the run
abbrev pub closed : Call → Turn
closed c = off (says c) c.kept c.board

-- what a step comes to; one that goes on counts 1
abbrev pub turned : Kept → ℕ → List Instruction → Next → Turn
turned k ticks code (go v) = on v.left (kept_at k ticks v 1 None) v.board
turned k ticks code (stop e v) = closed (called k ticks code (ran (ends e) v 1))
turned k ticks code (wait v) = closed (called k ticks code (ran waits v 0))
turned k ticks code (break v) = closed (called k ticks code (ran breaks v 0))

-- a step of a run that is not over; one that is over stays so
abbrev pub turn_from : Option Over → List Instruction → Kept → Meaning → ℕ → Turn
turn_from None code k b ticks = turned k ticks code (step code (begun k b ticks))
turn_from (Some o) code k b ticks = closed (again o k b)

-- one step of the machine
abbrev pub turn : List Instruction → Kept → Meaning → ℕ → Turn
turn code k b ticks = turn_from k.over code k b ticks
