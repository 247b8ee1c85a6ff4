-- How large what is loaded can be: a source has at most 1,024 tokens, and its script as many lexemes.
use Rattle.std.proofs.Common.{◌≡◌, ℕ, zero, suc, ◌≤◌, List, [], ◌∷◌, length, ap, ◌∙◌, suc-le-suc, zero-le}
use lib.ListN.{length-map}
use Rattle.lexer.specs.declared.kind.Token.{Token}
use Rattle.lexer.specs.Laws.{Reads}
use Rattle.lexer.specs.Reading.{Fault, reading, token_limit, lexeme}
use Rattle.lexer.proofs.Unique.{decided}
use Rattle.meaning.specs.Trees.{Script}
use Rattle.meaning.specs.Written.{script_lexemes}
use Rattle.meaning.specs.Sources.{Means}

-- what reads with room for so many tokens has no more
reads_few : (room p : ℕ) (t : List ℕ) (ts : List Token) (f : Fault) → Reads room p t ts f → length ts ≤ room
reads_few room p t [] f r = zero-le
reads_few zero p t (x ∷ xs) f r = absurd r
reads_few (suc room) p t (x ∷ xs) f r = suc-le-suc (reads_few room _ _ xs f r.3)

-- a source has at most 1,024 tokens
pub tokens_few : (source : List ℕ) → length (reading source).tokens ≤ 1024
tokens_few source = reads_few token_limit 0 source (reading source).tokens (reading source).fault (decided source).reads

-- a script has as many lexemes as its source has tokens
pub script_tokens : (source : List ℕ) (s : Script) → Means source s → length (script_lexemes s) ≡ length (reading source).tokens
script_tokens source s m = ap length m.reads.script.reads.lexemes ∙ length-map (reading source).tokens (lexeme source)
