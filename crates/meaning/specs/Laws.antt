-- What holds of every run.
use Rattle.std.specs.Prelude.{◌≡◌, ℕ, ◌+◌, List, ◌++◌, ℤ, ◌≢◌}
use Rattle.refusal.specs.Told.{accepted}
use Rattle.boards.specs.Meaning.{Meaning, with_reports}
use Rattle.meaning.specs.Trees.{Script}
use Rattle.meaning.specs.Check.{check_script}
use Rattle.meaning.specs.Run.{waiting, stuck, run_script}

-- With more ticks, a run that ended otherwise than waiting ends the same way, spends the same, and leaves the same board.
abbrev pub MoreTicksChangeNothing : Type 0
MoreTicksChangeNothing =
    (s : Script) (b : Meaning) (ticks more : ℕ) → ((run_script s b ticks).ending ≢ waiting) →
    run_script s b (ticks + more) ≡ run_script s b ticks

-- A run that waits has spent all its ticks.
abbrev pub WaitingSpendsAll : Type 0
WaitingSpendsAll = (s : Script) (b : Meaning) (ticks : ℕ) → (run_script s b ticks).ending ≡ waiting → (run_script s b ticks).spent ≡ ticks

-- The run of a script that passes the check never meets an absent name or a value of another type.
abbrev pub CheckedNeverStuck : Type 0
CheckedNeverStuck = (s : Script) (b : Meaning) (ticks : ℕ) → check_script s ≡ accepted tt → (run_script s b ticks).ending ≢ stuck

-- A run adds reports at the end of the board's list, and changes nothing else of the board.
abbrev pub ReportsOnlyGrow : Type 0
ReportsOnlyGrow =
    (s : Script) (b : Meaning) (ticks : ℕ) →
    (filed : List ℤ) × ((run_script s b ticks).board ≡ with_reports b (b.reports ++ filed))
