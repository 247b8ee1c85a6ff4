-- What a token says, apart from its length.
use Rattle.std.specs.Prelude.{ℕ, List, ℤ}
use Rattle.lexer.specs.declared.kind.Kind.{Kind}

-- A symbol with its place: the kind of a token; a name's bytes (none for any other kind); a constant's value (0 for any
-- other kind); and the position of its first byte in the source.
pub record Lexeme : Type 0 where
  pub kind : Kind
  pub name : List ℕ
  pub value : ℤ
  pub place : ℕ
