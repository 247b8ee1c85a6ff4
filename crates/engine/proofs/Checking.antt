-- From what is told of a source with two lists of the least length to the number of its check.
use Rattle.std.proofs.Common.{◌≡◌, ℕ, ◌+◌, ◌*◌, ◌<◌, ◌≤◌, List, ap, arith}
use Rattle.lexer.specs.Reading.{token_limit}
use Rattle.translator.specs.Translation.{code_limit, Refused, long, few_tokens, few_records, unread, wrong, unfit}
use Rattle.engine.specs.Checked.{Checked, fails}
use Rattle.engine.proofs.Places.{place_small}

-- what the least lists refuse is no matter of the lists
longer : (source : List ℕ) (n p : ℕ) → Refused source token_limit code_limit n p → (room slots : ℕ) → token_limit ≤ room → code_limit ≤ slots → Refused source room slots n p
longer source n p (long l) room slots t c = long l
longer source n p (few_tokens s h) room slots t c = let b : ⊥ = omega arith in absurd b
longer source n p (few_records s h k) room slots t c = let b : ⊥ = omega arith in absurd b
longer source n p (unread z f) room slots t c = unread (record { bytes = z.bytes; tokens = t; code = c }) f
longer source n p (wrong z f w) room slots t c = wrong (record { bytes = z.bytes; tokens = t; code = c }) f w
longer source n p (unfit z r) room slots t c = unfit (record { bytes = z.bytes; tokens = t; code = c }) r

module _ (source : List ℕ) (n p : ℕ) (r : Refused source token_limit code_limit n p) where
  -- a number of one byte and the place do not overflow
  pub fits : (m : ℕ) → m < 256 → m * 65536 + p < 4294967296
  fits m h = omega (arith, place_small source token_limit code_limit n p r)

  pub check_fails : (m : ℕ) → m ≡ n → Checked source (m * 65536 + p)
  check_fails m e = fails n p (longer source n p r) (place_small source token_limit code_limit n p r) (ap (λ k. k * 65536 + p) e)
