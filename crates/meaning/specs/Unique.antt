-- That a list of lexemes says one thing.
use Rattle.std.specs.Prelude.{◌≡◌, List}
use Rattle.lexer.specs.Lexeme.{Lexeme}
use Rattle.meaning.specs.Trees.{Script}
use Rattle.meaning.specs.Grammar.{ReadsAs}

-- Lexemes read as at most one script.
abbrev pub Unique : Type 0
Unique = (ls : List Lexeme) (s t : Script) → ReadsAs ls s → ReadsAs ls t → s ≡ t
