-- What the check of a source answers, as one number.
use Rattle.std.specs.Prelude.{◌≡◌, ℕ, ◌+◌, ◌*◌, ◌≤◌, List}
use Rattle.lexer.specs.Reading.{source_limit, token_limit}
use Rattle.meaning.specs.Trees.{Script}
use Rattle.meaning.specs.Sources.{Means}
use Rattle.translator.specs.Translation.{code_limit, Refused}

-- The number for a source: 0 where it means a script; else the number of its refusal, whatever lists are long enough, times
-- 65,536, and the place, which is less.
pub data Checked (source : List ℕ) (r : ℕ) : Type 0 where
  means : (s : Script) → Means source s → r ≡ 0 → Checked source r
  fails : (n p : ℕ) → ((room slots : ℕ) → token_limit ≤ room → code_limit ≤ slots → Refused source room slots n p) → p ≤ source_limit → r ≡ n * 65536 + p → Checked source r
