-- Zones that are given by a function of their number. Assumes nothing.
use Rattle.std.proofs.Common.{◌≡◌, ℕ, ◌<◌, ℤ, pos, negsuc, sym, refl, ap, ◌∙◌, arith}
use Rattle.std.proofs.lemmas.Bool.Decides.{nat_tests}
use Rattle.refusal.specs.Told.{Told, accepted, refused}
use Rattle.boards.specs.Meaning.{Meaning, zone_answer, index_answer}
use Rattle.boards.specs.Table.{table}
use Rattle.boards.proofs.Tables.{length-table, get_or-table}

-- what is answered at an index
abbrev at : (ℕ → ℤ) → Told ℕ → Told ℤ
at f (accepted k) = accepted (f k)
at f (refused number place) = refused number place

pub index_below : (n k : ℕ) (i : ℤ) → accepted k ≡ index_answer n i → k < n
index_below n k (pos j) e = grind (arith, nat_tests)
index_below n k (negsuc j) e = grind (arith, nat_tests)

module _ (m : Meaning) (n : ℕ) (f : ℕ → ℤ) (tabled : m.zones ≡ table n f) where
  by_index : (i : ℤ) → zone_answer m i ≡ at f (index_answer n i)
  by_index (pos k) = rw (tabled, length-table) (grind (arith, nat_tests, get_or-table))
  by_index (negsuc k) = refl

  pub zone_there : (i : ℤ) (k : ℕ) (v : ℤ) → accepted k ≡ index_answer n i → v ≡ f k → accepted v ≡ zone_answer m i
  zone_there i k v e s = ap accepted s ∙ ap (at f) e ∙ sym (by_index i)

  pub zone_missing : (i : ℤ) (number place : ℕ) → refused number place ≡ index_answer n i → refused number place ≡ zone_answer m i
  zone_missing i number place e = ap (at f) e ∙ sym (by_index i)
