-- What load, rewind and go answer and leave, whatever the engine, the lists and the board.
use Rattle.std.specs.Prelude.{◌≡◌, ℕ, ◌+◌, Bool, cond, not, List, [], ◌∷◌, length, is_some, Some, nat_lt}
use Rattle.refusal.specs.Told.{Told, accepted, refused}
use Rattle.boards.specs.Meaning.{Meaning}
use Rattle.machine.specs.declared.instruction.Instruction.{Instruction}
use Rattle.machine.specs.Runs.{Said, Call, call, says}
use Rattle.translator.specs.declared.counts.Counts.{Counts}
use Rattle.translator.specs.Translation.{Translation}
use Rattle.engine.specs.Views.{Held, ready, records, loaded_of}

-- the most ticks of one go
abbrev pub tick_limit : ℕ
tick_limit = 1000000

-- the most ticks granted since a load or rewind
abbrev pub grant_limit : ℕ
grant_limit = 4000000000

-- the first reason that holds refuses, with its number; where none does the call is accepted
abbrev pub unless : {X : Type 0} → List (Bool × ℕ) → X → Told X
unless [] x = accepted x
unless (r ∷ rs) x = cond r.0 (refused r.1 0) (unless rs x)

-- accepted, unless a reason holds
abbrev pub judged : List (Bool × ℕ) → Told (Unit {0})
judged rs = unless {X = Unit {0}} rs tt

-- what is left after a call: something new where it was accepted, else what was there
abbrev pub after : {X Y : Type 0} → Told X → (X → Y) → Y → Y
after (accepted x) new old = new x
after (refused n p) new old = old

-- what is told of an accepted answer
abbrev pub telling : {X Y : Type 0} → (X → Y) → Told X → Told Y
telling f (accepted x) = accepted (f x)
telling f (refused n p) = refused n p

-- Load: the source is translated into the code list, or refused. The code that is accepted is the engine's from now on, and
-- is about to start.
pub record Loads (source : List ℕ) (room : ℕ) (e : Held) (before : List Instruction) (t : Told Counts) (f : Held) (code : List Instruction) : Type 0 where
  pub translation : Translation source room before code t
  pub engine : f ≡ after t (λ c. ready (Some c.code)) e

-- 18 where nothing is loaded
abbrev pub rewind_reasons : Held → List (Bool × ℕ)
rewind_reasons e = (not (is_some e.loaded), 18) ∷ []

-- Rewind: what is loaded is about to start again.
pub record Rewinds (e : Held) (t : Told (Unit {0})) (f : Held) : Type 0 where
  pub answer : t ≡ judged (rewind_reasons e)
  pub engine : f ≡ after t (λ _. ready e.loaded) e

-- Why a go is refused, in this order: 18 nothing is loaded, 19 the code list is shorter than what was loaded, 20 too many
-- ticks, 21 the run is over, 22 too many ticks granted since the load or rewind, these included.
abbrev pub go_reasons : Held → (length ticks : ℕ) → List (Bool × ℕ)
go_reasons e n ticks =
    (not (is_some e.loaded), 18) ∷ (nat_lt n (records e.loaded), 19) ∷ (nat_lt tick_limit ticks, 20)
    ∷ (is_some e.machine.over, 21) ∷ (nat_lt grant_limit (e.granted + ticks), 22) ∷ []

-- a go that is accepted is a call of the machine on the loaded records of the list, whatever they are
abbrev pub going : Held → List Instruction → Meaning → ℕ → Told Call
going e code b ticks = unless (go_reasons e (length code) ticks) (call (loaded_of e code) e.machine b ticks)

-- an engine after a go: what the machine keeps, and these ticks granted too
abbrev pub gone : Held → ℕ → Call → Held
gone e ticks c = record { loaded = e.loaded; machine = c.kept; granted = e.granted + ticks }

-- Go: what it tells, the engine and the board after it.
pub record Goes (e : Held) (code : List Instruction) (b : Meaning) (ticks : ℕ) (t : Told Said) (f : Held) (c : Meaning) : Type 0 where
  pub answer : t ≡ telling says (going e code b ticks)
  pub engine : f ≡ after (going e code b ticks) (gone e ticks) e
  pub board : c ≡ after (going e code b ticks) (λ x. x.board) b
