-- When code is faithful to a script: whatever the board and however many ticks, the machine's run of the code and the
-- script's run end alike.
use Rattle.std.specs.Prelude.{◌≡◌, ℕ, ◌-◌, ◌*◌, ◌≤◌, List, length, pos}
use Rattle.refusal.specs.Told.{accepted}
use Rattle.boards.specs.Meaning.{Meaning}
use Rattle.meaning.specs.Trees.{Script}
use Rattle.meaning.specs.Written.{script_lexemes}
use Rattle.meaning.specs.Depths.{script_depths, greatest}
use Rattle.meaning.specs.Grammar.{Grammatical}
use Rattle.meaning.specs.Check.{check_script}
use Rattle.meaning.specs.Run.{Ending, returned, waiting, divided, board, stuck, Outcome, run_script}
use Rattle.machine.specs.declared.instruction.Instruction.{Instruction}
use Rattle.machine.specs.Endings.{End, refused_by, broken}
use Rattle.machine.specs.Endings
use Rattle.machine.specs.Runs.{Ran, run, fresh, begun, end_as, place_as}

-- an ending of a script's run as the machine tells it
abbrev pub end_alike : Ending → End
end_alike (returned v) = Endings.returned v
end_alike waiting = Endings.waiting
end_alike divided = Endings.divided
end_alike (board n) = refused_by n
end_alike stuck = broken

-- a run of the machine with a number of ticks that comes to what a script's run came to
pub record Alike (code : List Instruction) (ticks : ℕ) (o : Outcome) (r : Ran) : Type 0 where
  pub ending : end_as r.how ≡ end_alike o.ending
  pub place : place_as r.how code r.state.position ≡ pos o.place
  pub spent : ticks - r.state.left ≡ o.spent
  pub board : r.state.board ≡ o.board

-- the code does what the script means
abbrev pub Faithful : List Instruction → Script → Type 0
Faithful code s = (b : Meaning) (ticks : ℕ) → Alike code ticks (run_script s b ticks) (run code (begun fresh b ticks))

-- code for every script of the grammar that is no deeper than 32 and passes the check
abbrev pub EveryScriptHasFaithfulCode : Type 0
EveryScriptHasFaithfulCode =
    (s : Script) → Grammatical s → greatest (script_depths s) ≤ 32 → check_script s ≡ accepted tt →
    (code : List Instruction) × Faithful code s × (length code ≤ 4 * length (script_lexemes s))
