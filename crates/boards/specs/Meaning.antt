-- What a board means, and what each call on it answers.
use Rattle.std.specs.Prelude.{◌≡◌, ℕ, ◌*◌, ◌≤◌, Bool, cond, List, [], ◌∷◌, ◌++◌, length, ℤ, pos, negsuc, Some, None, Option, nat_lt, slice_index_or}
use Rattle.refusal.specs.Told.{Told, accepted, refused}

-- A board: a grid of zones, row by row from the top left; the reports filed on it, the oldest first;
-- and its allowance, how many reports it takes in all.
pub record Meaning : Type 0 where
  pub columns : ℕ
  pub rows : ℕ
  pub zones : List ℤ
  pub reports : List ℤ
  pub allowance : ℕ

-- what holds of every board that was made
pub record Sound (m : Meaning) : Type 0 where
  pub columns_least : 1 ≤ m.columns
  pub columns_most : m.columns ≤ 64
  pub rows_least : 1 ≤ m.rows
  pub rows_most : m.rows ≤ 64
  pub zoned : length m.zones ≡ m.columns * m.rows
  pub allowance_most : m.allowance ≤ 64
  pub reports_most : length m.reports ≤ m.allowance

-- zone i, from 0, or refusal 23 where there is none
abbrev pub zone_answer : Meaning → ℤ → Told ℤ
zone_answer m (pos n) = cond (nat_lt n (length m.zones)) (accepted (slice_index_or m.zones n (pos 0))) (refused 23 0)
zone_answer m (negsuc n) = refused 23 0

-- the number i of a zone as an index below a count, or refusal 23
abbrev pub index_answer : ℕ → ℤ → Told ℕ
index_answer count (pos n) = cond (nat_lt n count) (accepted n) (refused 23 0)
index_answer count (negsuc n) = refused 23 0

-- whether there are fewer reports than the allowance
abbrev pub has_room : Meaning → Bool
has_room m = nat_lt (length m.reports) m.allowance

-- a report is taken, or refused with 24 where there are no fewer reports than the allowance
abbrev pub report_answer : Meaning → Told (Unit {0})
report_answer m = cond (has_room m) (accepted tt) (refused 24 0)

-- the board with other reports
abbrev pub with_reports : Meaning → List ℤ → Meaning
with_reports m rs = record { columns = m.columns; rows = m.rows; zones = m.zones; reports = rs; allowance = m.allowance }

-- the board after a report of v: an accepted one stands at the list's end, a refused one changes nothing
abbrev pub reported : Meaning → ℤ → Meaning
reported m v = cond (has_room m) (with_reports m (m.reports ++ (v ∷ []))) m

-- whatever is reported, a sound board stays sound
abbrev pub ReportKeepsSound : ℤ → Type 0
ReportKeepsSound v = (m : Meaning) → Sound m → Sound (reported m v)

-- report k, from 0, or nothing past the end
abbrev pub kept_answer : Meaning → ℕ → Option ℤ
kept_answer m k = cond (nat_lt k (length m.reports)) (Some (slice_index_or m.reports k (pos 0))) None
