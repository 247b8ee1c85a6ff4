-- What the record of reports holds, and the board that zones and such a record make.
use Rattle.std.specs.Prelude.{ℕ, Bool, List, length, ℤ, nat_lt}
use Rattle.boards.specs.Meaning.{Meaning}
use Rattle.boards.specs.declared.reports.Reports.{Reports}

-- the reports filed, the oldest first
abbrev pub filed : Reports → List ℤ
filed s = s.list.items

-- how many reports the record takes in all
abbrev pub allowed : Reports → ℕ
allowed s = s.allowance

-- whether there are fewer reports than it takes
abbrev pub takes_more : Reports → Bool
takes_more s = nat_lt (length (filed s)) (allowed s)

-- the board with these zones that keeps its reports in this record
abbrev pub board_of : (columns rows : ℕ) → List ℤ → Reports → Meaning
board_of c r zs s = record {
  columns = c;
  rows = r;
  zones = zs;
  reports = filed s;
  allowance = allowed s;
}
