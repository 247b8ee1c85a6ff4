-- The kind of the token at a place, as code sees it.
use Rattle.std.specs.Option.{option_eq}
use Rattle.std.proofs.Common.{◌≡◌, ℕ, ◌<◌, ◌≤◌, List, length, get_or, Option, Some, None, sym, refl, ap, drop_of_length-le, drop-cons}
use Rattle.lexer.specs.declared.kind.Kind.{Kind}
use Rattle.lexer.specs.declared.kind.Kind.TheVariants as Kinds
use Rattle.lexer.specs.declared.kind.Token.{Token}
use Rattle.lookahead.specs.Seen.{code, is_kind, kind_of, first_kind, seen}

pub seen_at : (ts : List Token) (at : ℕ) (d : Token) → at < length ts → kind_of (get_or ts at d) ≡ seen ts at
seen_at ts at d h = ap first_kind (sym (drop-cons ts at d h))

pub seen-past : (ts : List Token) (at : ℕ) → length ts ≤ at → None ≡ seen ts at
seen-past ts at h = ap first_kind (sym (drop_of_length-le ts h))

-- what `as u8` gives
pub tag_code : (k : Kind) → denote.Enum.Declared.tag_of Rattle.lexer.specs.contracts.kind.Kind.the_type k ≡ code k
tag_code Kinds.Name = refl
tag_code Kinds.Number = refl
tag_code Kinds.Character = refl
tag_code Kinds.Bool = refl
tag_code Kinds.Char = refl
tag_code Kinds.Int = refl
tag_code Kinds.Float = refl
tag_code Kinds.Void = refl
tag_code Kinds.Extern = refl
tag_code Kinds.Static = refl
tag_code Kinds.If = refl
tag_code Kinds.Else = refl
tag_code Kinds.While = refl
tag_code Kinds.Do = refl
tag_code Kinds.For = refl
tag_code Kinds.To = refl
tag_code Kinds.Break = refl
tag_code Kinds.Continue = refl
tag_code Kinds.Return = refl
tag_code Kinds.True = refl
tag_code Kinds.False = refl
tag_code Kinds.Plus = refl
tag_code Kinds.Minus = refl
tag_code Kinds.Star = refl
tag_code Kinds.Slash = refl
tag_code Kinds.Percent = refl
tag_code Kinds.Assign = refl
tag_code Kinds.Equal = refl
tag_code Kinds.NotEqual = refl
tag_code Kinds.Not = refl
tag_code Kinds.Less = refl
tag_code Kinds.LessEqual = refl
tag_code Kinds.Greater = refl
tag_code Kinds.GreaterEqual = refl
tag_code Kinds.And = refl
tag_code Kinds.Or = refl
tag_code Kinds.PlusAssign = refl
tag_code Kinds.MinusAssign = refl
tag_code Kinds.StarAssign = refl
tag_code Kinds.SlashAssign = refl
tag_code Kinds.PercentAssign = refl
tag_code Kinds.AndAssign = refl
tag_code Kinds.OrAssign = refl
tag_code Kinds.OpenParen = refl
tag_code Kinds.CloseParen = refl
tag_code Kinds.OpenBrace = refl
tag_code Kinds.CloseBrace = refl
tag_code Kinds.Comma = refl
tag_code Kinds.Semicolon = refl

-- what `==` of a kind that may be there and one that is there gives
pub same_kind : (o : Option Kind) (k : Kind) → option_eq Rattle.lexer.specs.contracts.kind.KindPartialEq.TheImpl.eq-value.it o (Some k) ≡ is_kind o k
same_kind None k = refl
same_kind (Some f) k = rw (sym (tag_code f), sym (tag_code k)) refl
