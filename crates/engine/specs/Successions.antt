-- Calls one after the other on one engine, code list and board, and the law that holds of them.
use Rattle.std.specs.Prelude.{◌≡◌, ℕ, List, length, None}
use Rattle.refusal.specs.Told.{Told, accepted, refused}
use Rattle.boards.specs.Meaning.{Meaning}
use Rattle.lexer.specs.declared.kind.Token.{Token}
use Rattle.machine.specs.declared.instruction.Instruction.{Instruction}
use Rattle.machine.specs.Runs.{Said}
use Rattle.translator.specs.declared.counts.Counts.{Counts}
use Rattle.engine.specs.Views.{ready}
use Rattle.engine.specs.Calls.{Loads, Rewinds, Goes}
use Rattle.engine.specs.Log.{Log, empty, JudgesLoad, JudgesRewind, JudgesGo}
use Rattle.engine.specs.Agreement.{State, state, Agrees, CountedIn}

-- a call, with what is handed to it beside the engine, the code list and the board
pub data Request : Type 0 where
  load : (source : List ℕ) → (tokens : List Token) → Request
  rewind : Request
  go : (ticks : ℕ) → Request

-- what a call tells
abbrev pub Reply : Request → Type 0
Reply (load source tokens) = Told Counts
Reply rewind = Told (Unit {0})
Reply (go ticks) = Told Said

-- a call does what its contract says
abbrev pub Performs : State → (q : Request) → Reply q → State → Type 0
Performs S (load source tokens) t T =
    Loads source (length tokens) S.engine S.code t T.engine T.code × (T.board ≡ S.board)
Performs S rewind t T = Rewinds S.engine t T.engine × (T.code ≡ S.code) × (T.board ≡ S.board)
Performs S (go ticks) t T = Goes S.engine S.code S.board ticks t T.engine T.board × (T.code ≡ S.code)

-- what the log says of a call on a code list of so many records
abbrev pub Judges : (slots : ℕ) → Log → (q : Request) → Reply q → Log → Type 0
Judges slots L (load source tokens) t M = JudgesLoad slots L source (length tokens) t M
Judges slots L rewind t M = JudgesRewind L t M
Judges slots L (go ticks) t M = JudgesGo L ticks t M

-- what a call counts, which only a go does
abbrev pub Counting : Log → State → (q : Request) → Reply q → Type 0
Counting M T (load source tokens) t = Unit {0}
Counting M T rewind t = Unit {0}
Counting M T (go ticks) t = CountedIn M T t

-- The law of one call: whatever log the state before agrees with, the answer is the log's, and the state after agrees with
-- the log after the call.
abbrev pub Lawful : State → (q : Request) → Reply q → State → Type 0
Lawful S q t T = (L : Log) → Agrees L S → (M : Log) × Judges (length S.code) L q t M × Agrees M T × Counting M T q t

-- calls, each with its answer, that lead from one state to another
pub data Succession : State → State → Type 0 where
  none : {S : State} → Succession S S
  first : {S T U : State} (q : Request) (t : Reply q) → Performs S q t T → Succession T U → Succession S U

-- The log is kept over a succession on a code list of so many records: it judges each call, and the state agrees with it
-- after each.
abbrev pub Logged : (slots : ℕ) → {S T : State} → Log → Succession S T → Type 0
Logged slots L none = Unit {0}
Logged slots L (first {S} {T} q t p rest) = (M : Log) × Judges slots L q t M × Agrees M T × Counting M T q t × Logged slots M rest

-- The law of successions: over any code list and any board, whatever they hold, any calls on a newly made engine go as the
-- log says that is kept of them from the first board on.
abbrev pub SuccessionsAreLawful : Type 0
SuccessionsAreLawful =
    (code : List Instruction) (b : Meaning) (T : State) (calls : Succession (state (ready None) code b) T)
    → Agrees (empty b) (state (ready None) code b) × Logged (length code) (empty b) calls

-- two answers are both the same refusal, or both accept what is the same
abbrev pub AlikeBy : {X : Type 0} → (X → X → Type 0) → Told X → Told X → Type 0
AlikeBy same (accepted x) (accepted y) = same x y
AlikeBy same (accepted x) (refused m q) = ⊥
AlikeBy same (refused n p) (accepted y) = ⊥
AlikeBy same (refused n p) (refused m q) = (n ≡ m) × (p ≡ q)

-- Two answers of a call tell the same of it. How many records of code there are, and how many instructions were counted, is
-- left to the choice of the code.
abbrev pub Alike : (q : Request) → Reply q → Reply q → Type 0
Alike (load source tokens) t u = AlikeBy (λ c d. c.tokens ≡ d.tokens) t u
Alike rewind t u = AlikeBy (λ _ _. Unit {0}) t u
Alike (go ticks) t u = AlikeBy (λ a b. (a.end ≡ b.end) × (a.place ≡ b.place) × (a.spent ≡ b.spent)) t u

-- Of each call the log says one thing: what it answers, and how the log goes on.
abbrev pub OneJudgement : Type 0
OneJudgement =
    (slots : ℕ) (L : Log) (q : Request) (t u : Reply q) (M N : Log) → Judges slots L q t M → Judges slots L q u N → Alike q t u × (M ≡ N)
