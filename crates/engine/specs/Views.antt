-- What an engine holds between calls.
use Rattle.std.specs.Prelude.{ℕ, List, take, Some, None, Ok, Err, Option, Result}
use Rattle.refusal.specs.declared.reason.Refusal.{Refusal}
use Rattle.refusal.specs.Told.{Told, accepted, refused, number_of}
use Rattle.machine.specs.declared.answer.Answer.{Answer}
use Rattle.machine.specs.declared.instruction.Instruction.{Instruction}
use Rattle.machine.specs.Runs.{Kept, Said, fresh}
use Rattle.machine.specs.Views.{keeps, said_of}
use Rattle.engine.specs.declared.engine.Engine.{Engine}

-- how many records were loaded, the machine that runs them, and the ticks granted since the load or the latest rewind
pub record Held : Type 0 where
  pub loaded : Option ℕ
  pub machine : Kept
  pub granted : ℕ

-- what an engine holds
abbrev pub holds : Engine → Held
holds e = record { loaded = e.loaded; machine = keeps e.machine; granted = e.granted }

-- an engine whose first n records, if any are loaded, are about to run from their start
abbrev pub ready : Option ℕ → Held
ready n = record { loaded = n; machine = fresh; granted = 0 }

-- the number of loaded records, 0 where nothing is loaded
abbrev pub records : Option ℕ → ℕ
records (Some n) = n
records None = 0

-- the records of a code list that an engine runs
abbrev pub loaded_of : Held → List Instruction → List Instruction
loaded_of e code = take (records e.loaded) code

-- what the result of a go tells
abbrev pub told_go : Result Answer Refusal → Told Said
told_go (Ok a) = accepted (said_of a)
told_go (Err e) = refused (number_of e.reason) e.place
