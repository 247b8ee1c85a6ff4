-- What is told of a list of lexemes: that it is a script's, or the first that is wrong.
use Rattle.std.specs.Prelude.{◌≡◌, ℕ, zero, suc, min, List, [], ◌∷◌}
use Rattle.refusal.specs.Told.{Told, accepted, refused}
use Rattle.lexer.specs.Lexeme.{Lexeme}
use Rattle.meaning.specs.Trees.{Script}
use Rattle.meaning.specs.Grammar.{Accepted, Unexpected, EndsEarly, TooDeep}

-- the place of lexeme k
abbrev pub place_at : List Lexeme → ℕ → ℕ
place_at [] k = 0
place_at (l ∷ ls) zero = l.place
place_at (l ∷ ls) (suc k) = place_at ls k

-- the end of a source of n bytes, as far as 32 bits can say it
abbrev pub end_place : ℕ → ℕ
end_place n = min n 4294967295

-- Why lexemes of a source of n bytes are refused, by number and place: a lexeme with which no script goes on, an end before
-- a script does, or something at depth 33.
pub data Wrong (ls : List Lexeme) (n : ℕ) : (number place : ℕ) → Type 0 where
  unexpected : (k : ℕ) → Unexpected ls k → Wrong ls n 9 (place_at ls k)
  early : EndsEarly ls → Wrong ls n 9 (end_place n)
  deep : (k : ℕ) → TooDeep ls k → Wrong ls n 10 (place_at ls k)

-- What is told: accepted with a script, not too deep, that the lexemes read as; or refused for a reason that holds.
abbrev pub Verdict : List Lexeme → ℕ → Told (Unit {0}) → Type 0
Verdict ls n (accepted u) = (s : Script) × Accepted ls s
Verdict ls n (refused m p) = Wrong ls n m p

-- No two verdicts hold of the same lexemes, so each is told exactly when it holds.
abbrev pub OneVerdict : Type 0
OneVerdict = (ls : List Lexeme) (n : ℕ) (x y : Told (Unit {0})) → Verdict ls n x → Verdict ls n y → x ≡ y
