-- The log of a succession of calls. It is kept from the calls' arguments and the meaning of the first board alone, and says
-- by the language what each call has to answer.
use Rattle.std.specs.Prelude.{◌≡◌, ℕ, ◌+◌, ◌*◌, ◌≤◌, Bool, true, false, not, List, [], ◌∷◌, length, pos, is_some, Some, None, Option, nat_lt}
use Rattle.refusal.specs.Told.{Told, accepted, refused}
use Rattle.boards.specs.Meaning.{Meaning}
use Rattle.lexer.specs.Reading.{reading}
use Rattle.meaning.specs.Trees.{Script}
use Rattle.meaning.specs.Sources.{Means}
use Rattle.meaning.specs.Run.{Ending, returned, waiting, divided, board, stuck, Outcome, run_script}
use Rattle.machine.specs.Runs.{Said}
use Rattle.layout.specs.Faithful.{end_alike}
use Rattle.translator.specs.declared.counts.Counts.{Counts}
use Rattle.translator.specs.Translation.{Sized, Refused}
use Rattle.engine.specs.Calls.{judged, after, tick_limit, grant_limit}

-- the source of the latest accepted load; the board as it stood at the latest accepted load or rewind; the board now; the
-- ticks granted since; and whether the run is over
pub record Log : Type 0 where
  pub source : Option (List ℕ)
  pub start : Meaning
  pub board : Meaning
  pub granted : ℕ
  pub over : Bool

-- the log before the first call, over the board that is handed first
abbrev pub empty : Meaning → Log
empty b = record { source = None; start = b; board = b; granted = 0; over = false }

-- a source starts on the board as it is now
abbrev pub started : Option (List ℕ) → Log → Log
started source L = record { source = source; start = L.board; board = L.board; granted = 0; over = false }

-- whether a run can go on
abbrev pub waits : Ending → Bool
waits (returned v) = false
waits waiting = true
waits divided = false
waits (board n) = false
waits stuck = false

-- ticks are granted, and the run from the starting board comes to an outcome
abbrev pub ran : Log → ℕ → Outcome → Log
ran L ticks o = record { source = L.source; start = L.start; board = o.board; granted = L.granted + ticks; over = not (waits o.ending) }

-- A load is accepted: the lists are long enough, and the source means a script. Both counts are answered; there are at most
-- four records of code a token.
pub record Accepts (source : List ℕ) (room slots : ℕ) (c : Counts) : Type 0 where
  pub sized : Sized source room slots
  pub script : Script
  pub means : Means source script
  pub tokens : c.tokens ≡ length (reading source).tokens
  pub code : c.code ≤ 4 * c.tokens

-- the answer of a load of a source, with lists of so many records, and the log after it
abbrev pub JudgesLoad : (slots : ℕ) → Log → List ℕ → (room : ℕ) → Told Counts → Log → Type 0
JudgesLoad slots L source room (accepted c) M = Accepts source room slots c × (M ≡ started (Some source) L)
JudgesLoad slots L source room (refused n p) M = Refused source room slots n p × (M ≡ L)

-- the answer of a rewind, and the log after it
abbrev pub JudgesRewind : Log → Told (Unit {0}) → Log → Type 0
JudgesRewind L t M = (t ≡ judged ((not (is_some L.source), 18) ∷ [])) × (M ≡ after t (λ _. started L.source L) L)

-- why a go is refused, in this order
abbrev pub reasons : Log → ℕ → List (Bool × ℕ)
reasons L ticks = (not (is_some L.source), 18) ∷ (nat_lt tick_limit ticks, 20) ∷ (L.over, 21) ∷ (nat_lt grant_limit (L.granted + ticks), 22) ∷ []

-- an answer tells how a script's run came out, and not that it was broken
pub record Tells (o : Outcome) (a : Said) : Type 0 where
  pub end : a.end ≡ end_alike o.ending
  pub place : a.place ≡ pos o.place
  pub spent : a.spent ≡ o.spent
  pub unbroken : a.end.number ≡ 4 → ⊥

-- A go is accepted: it answers the run of the latest source's script from the starting board with all ticks granted since,
-- and this run is what the log goes on from.
pub record Answers (L : Log) (ticks : ℕ) (a : Said) (M : Log) : Type 0 where
  pub may : judged (reasons L ticks) ≡ accepted tt
  pub source : List ℕ
  pub latest : L.source ≡ Some source
  pub script : Script
  pub means : Means source script
  pub tells : Tells (run_script script L.start (L.granted + ticks)) a
  pub then : M ≡ ran L ticks (run_script script L.start (L.granted + ticks))

-- the answer of a go, and the log after it
abbrev pub JudgesGo : Log → ℕ → Told Said → Log → Type 0
JudgesGo L ticks (accepted a) M = Answers L ticks a M
JudgesGo L ticks (refused n p) M = (judged (reasons L ticks) ≡ refused n p) × (M ≡ L)
