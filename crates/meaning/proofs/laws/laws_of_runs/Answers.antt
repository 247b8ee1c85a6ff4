-- Each law is a theorem of its own.
use Rattle.meaning.proofs.Follows.{waiting_spends_all, reports_only_grow}
use Rattle.meaning.proofs.Richer.{more_ticks_change_nothing}
use Rattle.meaning.proofs.Sound.{checked_never_stuck}
use Rattle.meaning.proofs.laws.laws_of_runs.Goals as goal

pub returns : goal.returns
returns c = record {
  more_ticks = more_ticks_change_nothing;
  waiting = waiting_spends_all;
  checked = checked_never_stuck;
  reports = reports_only_grow;
}
