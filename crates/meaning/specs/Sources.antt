-- What becomes of a source: which script it is, or with which number and place it is refused.
use Rattle.std.specs.Prelude.{◌≡◌, ℕ, ◌≤◌, List, length}
use Rattle.refusal.specs.Told.{accepted, refused}
use Rattle.lexer.specs.Lexeme.{Lexeme}
use Rattle.lexer.specs.Reading.{reading, lexemes, source_limit, none}
use Rattle.meaning.specs.Trees.{Script}
use Rattle.meaning.specs.Grammar.{Accepted, EndsEarly}
use Rattle.meaning.specs.Check.{check_script}

-- the lexemes of a source
abbrev pub lexemes_of : List ℕ → List Lexeme
lexemes_of source = lexemes source (reading source).tokens

-- the source is not too long, all of it is read, and it is this script of the grammar
pub record Reads (source : List ℕ) (s : Script) : Type 0 where
  pub short : length source ≤ source_limit
  pub whole : (reading source).fault ≡ none
  pub script : Accepted (lexemes_of source) s

-- the source is this script, which passes the check
pub record Means (source : List ℕ) (s : Script) : Type 0 where
  pub reads : Reads source s
  pub checked : check_script s ≡ accepted tt

-- the source is a script that the check refuses
pub record Refuses (source : List ℕ) (number place : ℕ) : Type 0 where
  pub script : Script
  pub reads : Reads source script
  pub checked : check_script script ≡ refused number place

-- the source ends although a script would go on
pub record Unfinished (source : List ℕ) : Type 0 where
  pub whole : (reading source).fault ≡ none
  pub early : EndsEarly (lexemes_of source)
