use Rattle.std.proofs.Common.{◌≡◌, drop}
use Rattle.lexer.specs.Spelling.{keywords, word_kind, word_kind_in}
use Rattle.lexer.proofs.spellings.word_kind.Given as goal

-- none of the keywords so far spells the word
abbrev pub invariant-loop-keyword : goal.invariant-loop-keyword
invariant-loop-keyword l = word_kind l.word ≡ word_kind_in (drop l.keyword-index keywords) l.word
