-- What keeps a board sound. Assumes nothing.
use Rattle.std.proofs.Common.{◌<◌, [], ◌∷◌, ◌++◌, length, ℤ, arith}
use Rattle.std.proofs.lemmas.List.{length_push}
use Rattle.std.proofs.lemmas.Bool.{cond_both, ltb-true}
use Rattle.boards.specs.Meaning.{Meaning, Sound, has_room, with_reports, ReportKeepsSound}

-- one more report, where there is room for it
with_report : (m : Meaning) (v : ℤ) → Sound m → length m.reports < m.allowance → Sound (with_reports m (m.reports ++ (v ∷ [])))
with_report m v s h = record {
  columns_least = s.columns_least;
  columns_most = s.columns_most;
  rows_least = s.rows_least;
  rows_most = s.rows_most;
  zoned = s.zoned;
  allowance_most = s.allowance_most;
  reports_most = rw length_push (omega arith);
}

pub report_keeps_sound : (v : ℤ) → ReportKeepsSound v
report_keeps_sound v m s =
    cond_both (has_room m) (with_reports m (m.reports ++ (v ∷ []))) m Sound
    (λ e. with_report m v s (ltb-true _ _ e))
    (λ e. s)
