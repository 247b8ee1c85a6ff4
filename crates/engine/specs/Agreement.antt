-- When an engine, its code list and its board agree with a log. Code is tied to its source by what it does alone.
use Rattle.std.specs.Prelude.{◌≡◌, ℕ, ◌+◌, ◌*◌, ◌≤◌, List, length, is_some, Some, None, Option}
use Rattle.refusal.specs.Told.{Told, accepted, refused}
use Rattle.boards.specs.Meaning.{Meaning}
use Rattle.lexer.specs.Reading.{reading}
use Rattle.meaning.specs.Trees.{Script}
use Rattle.meaning.specs.Sources.{Means}
use Rattle.machine.specs.declared.instruction.Instruction.{Instruction}
use Rattle.machine.specs.Runs.{Said, Kept, fresh, begun, call, run}
use Rattle.layout.specs.Faithful.{Faithful}
use Rattle.engine.specs.Views.{Held, ready, records, loaded_of}
use Rattle.engine.specs.Calls.{grant_limit}
use Rattle.engine.specs.Log.{Log}

-- an engine with the code list and the board that it is used with
pub record State : Type 0 where
  pub engine : Held
  pub code : List Instruction
  pub board : Meaning

-- these three together
abbrev pub state : Held → List Instruction → Meaning → State
state e code b = record { engine = e; code = code; board = b }

-- How far code has run: no go was accepted yet, or it has come to where all the ticks granted bring it from the starting
-- board.
pub data Progress (code : List Instruction) (L : Log) (k : Kept) : Type 0 where
  fresh_yet : k ≡ fresh → L.granted ≡ 0 → L.board ≡ L.start → Progress code L k
  run_on : k ≡ (call code fresh L.start L.granted).kept → L.board ≡ (call code fresh L.start L.granted).board → Progress code L k

-- The loaded records, at most four a token, are faithful to the script that the source means, and the machine has run them
-- from the starting board with the ticks granted.
pub record Running (source : List ℕ) (L : Log) (S : State) : Type 0 where
  pub script : Script
  pub means : Means source script
  pub count : ℕ
  pub loaded : S.engine.loaded ≡ Some count
  pub there : count ≤ length S.code
  pub few : count ≤ 4 * length (reading source).tokens
  pub faithful : Faithful (loaded_of S.engine S.code) script
  pub progress : Progress (loaded_of S.engine S.code) L S.engine.machine
  pub over : is_some S.engine.machine.over ≡ L.over
  pub granted : S.engine.granted ≡ L.granted
  pub within : L.granted ≤ grant_limit

-- with no source nothing is loaded, and nothing has run
abbrev pub AgreesOn : Option (List ℕ) → Log → State → Type 0
AgreesOn None L S = S.engine ≡ ready None
AgreesOn (Some source) L S = Running source L S

-- the state is as the log has it
pub record Agrees (L : Log) (S : State) : Type 0 where
  pub board : S.board ≡ L.board
  pub engine : AgreesOn L.source L S

-- The instructions that an answer counts are those that the machine carried out on the loaded code, from the starting board
-- with the ticks granted; at most as many as the code is long, once and once more for each tick spent.
pub record Counted (L : Log) (S : State) (a : Said) : Type 0 where
  pub carried : a.counted ≡ (run (loaded_of S.engine S.code) (begun fresh L.start L.granted)).carried
  pub bounded : a.counted ≤ (a.spent + 1) * records S.engine.loaded

-- an answer of a go counts so, unless it is a refusal
abbrev pub CountedIn : Log → State → Told Said → Type 0
CountedIn L S (accepted a) = Counted L S a
CountedIn L S (refused n p) = Unit {0}
