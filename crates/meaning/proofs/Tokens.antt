-- A lexeme as the grammar sees it: what it is, with what a tree keeps of it.
use Rattle.std.proofs.Common.{◌≡◌, ℕ, zero, suc, true, false, List, [], ◌∷◌, ℤ, pos, negsuc, refl}
use Rattle.lexer.specs.Lexeme.{Lexeme}
use Rattle.lexer.specs.declared.kind.Kind.{Kind}
use Rattle.lexer.specs.declared.kind.Kind.TheVariants as K
use Rattle.meaning.specs.declared.operator.Scalar.{Scalar}
use Rattle.meaning.specs.declared.operator.Scalar.TheVariants.{Bool as bool, Char as char, Int as int}
use Rattle.meaning.specs.declared.operator.Operator.{Operator}
use Rattle.meaning.specs.declared.operator.Operator.TheVariants.{Add, Subtract, Multiply, Divide, Remainder, Less, LessEqual, Greater, GreaterEqual, Equal, NotEqual, And, Or}
use Rattle.meaning.specs.Trees.{Ident, Constant, number, character, truth, Modifier, plus, minus, times, over, modulo, both, either}
use Rattle.meaning.specs.Written.{sign, ident, literal, type_kind, binary_kind, modifier_kind}

-- the keywords and marks that stand for themselves
pub data Word : Type 0 where
  Void Extern Static If Else While Do For To Break Continue Return Assign OpenParen CloseParen OpenBrace CloseBrace Comma Semicolon : Word

-- a lexeme sorted by its part in the grammar
pub data Tok : Type 0 where
  name : Ident → Tok
  value : Constant → Tok
  type : Scalar → ℕ → Tok
  operator : Operator → ℕ → Tok
  bang : ℕ → Tok
  modifier : Modifier → ℕ → Tok
  word : Word → ℕ → Tok
  -- what stands in no script; also what follows the last lexeme
  stray : Tok

abbrev pub word_kind : Word → Kind
word_kind Void = K.Void
word_kind Extern = K.Extern
word_kind Static = K.Static
word_kind If = K.If
word_kind Else = K.Else
word_kind While = K.While
word_kind Do = K.Do
word_kind For = K.For
word_kind To = K.To
word_kind Break = K.Break
word_kind Continue = K.Continue
word_kind Return = K.Return
word_kind Assign = K.Assign
word_kind OpenParen = K.OpenParen
word_kind CloseParen = K.CloseParen
word_kind OpenBrace = K.OpenBrace
word_kind CloseBrace = K.CloseBrace
word_kind Comma = K.Comma
word_kind Semicolon = K.Semicolon

-- the token, where a lexeme carries neither a name nor a value
abbrev pub bare : List ℕ → ℤ → Tok → Tok
bare [] (pos zero) t = t
bare [] (pos (suc n)) t = stray
bare [] (negsuc n) t = stray
bare (b ∷ bs) v t = stray

-- the token, where a lexeme carries no value
abbrev pub valueless : ℤ → Tok → Tok
valueless (pos zero) t = t
valueless (pos (suc n)) t = stray
valueless (negsuc n) t = stray

-- the token, where a lexeme carries no name
abbrev pub nameless : List ℕ → Tok → Tok
nameless [] t = t
nameless (b ∷ bs) t = stray

abbrev pub sorted : Kind → List ℕ → ℤ → ℕ → Tok
sorted K.Name n v p = valueless v (name (record { bytes = n; place = p }))
sorted K.Number n v p = nameless n (value (number v p))
sorted K.Character n v p = nameless n (value (character v p))
sorted K.Bool n v p = bare n v (type bool p)
sorted K.Char n v p = bare n v (type char p)
sorted K.Int n v p = bare n v (type int p)
sorted K.Float n v p = stray
sorted K.Void n v p = bare n v (word Void p)
sorted K.Extern n v p = bare n v (word Extern p)
sorted K.Static n v p = bare n v (word Static p)
sorted K.If n v p = bare n v (word If p)
sorted K.Else n v p = bare n v (word Else p)
sorted K.While n v p = bare n v (word While p)
sorted K.Do n v p = bare n v (word Do p)
sorted K.For n v p = bare n v (word For p)
sorted K.To n v p = bare n v (word To p)
sorted K.Break n v p = bare n v (word Break p)
sorted K.Continue n v p = bare n v (word Continue p)
sorted K.Return n v p = bare n v (word Return p)
sorted K.True n v p = bare n v (value (truth true p))
sorted K.False n v p = bare n v (value (truth false p))
sorted K.Plus n v p = bare n v (operator Add p)
sorted K.Minus n v p = bare n v (operator Subtract p)
sorted K.Star n v p = bare n v (operator Multiply p)
sorted K.Slash n v p = bare n v (operator Divide p)
sorted K.Percent n v p = bare n v (operator Remainder p)
sorted K.Assign n v p = bare n v (word Assign p)
sorted K.Equal n v p = bare n v (operator Equal p)
sorted K.NotEqual n v p = bare n v (operator NotEqual p)
sorted K.Not n v p = bare n v (bang p)
sorted K.Less n v p = bare n v (operator Less p)
sorted K.LessEqual n v p = bare n v (operator LessEqual p)
sorted K.Greater n v p = bare n v (operator Greater p)
sorted K.GreaterEqual n v p = bare n v (operator GreaterEqual p)
sorted K.And n v p = bare n v (operator And p)
sorted K.Or n v p = bare n v (operator Or p)
sorted K.PlusAssign n v p = bare n v (modifier plus p)
sorted K.MinusAssign n v p = bare n v (modifier minus p)
sorted K.StarAssign n v p = bare n v (modifier times p)
sorted K.SlashAssign n v p = bare n v (modifier over p)
sorted K.PercentAssign n v p = bare n v (modifier modulo p)
sorted K.AndAssign n v p = bare n v (modifier both p)
sorted K.OrAssign n v p = bare n v (modifier either p)
sorted K.OpenParen n v p = bare n v (word OpenParen p)
sorted K.CloseParen n v p = bare n v (word CloseParen p)
sorted K.OpenBrace n v p = bare n v (word OpenBrace p)
sorted K.CloseBrace n v p = bare n v (word CloseBrace p)
sorted K.Comma n v p = bare n v (word Comma p)
sorted K.Semicolon n v p = bare n v (word Semicolon p)

abbrev pub tok_of : Lexeme → Tok
tok_of l = sorted l.kind l.name l.value l.place

-- the first token of a list
abbrev pub next : List Lexeme → Tok
next [] = stray
next (l ∷ ls) = tok_of l

-- the lexeme is written as the token says
abbrev pub Spelled : Lexeme → Tok → Type 0
Spelled l (name x) = l ≡ ident x
Spelled l (value c) = l ≡ literal c
Spelled l (type t p) = l ≡ sign (type_kind t) p
Spelled l (operator o p) = l ≡ sign (binary_kind o) p
Spelled l (bang p) = l ≡ sign K.Not p
Spelled l (modifier m p) = l ≡ sign (modifier_kind m) p
Spelled l (word w p) = l ≡ sign (word_kind w) p
Spelled l stray = Unit {0}

abbrev made : Kind → List ℕ → ℤ → ℕ → Lexeme
made k n v p = record { kind = k; name = n; value = v; place = p }

bare_spelled : (k : Kind) (n : List ℕ) (v : ℤ) (p : ℕ) (t : Tok) → Spelled (sign k p) t → Spelled (made k n v p) (bare n v t)
bare_spelled k [] (pos zero) p t h = h
bare_spelled k [] (pos (suc m)) p t h = tt
bare_spelled k [] (negsuc m) p t h = tt
bare_spelled k (b ∷ bs) v p t h = tt

name_spelled : (n : List ℕ) (v : ℤ) (p : ℕ) → Spelled (made K.Name n v p) (valueless v (name (record { bytes = n; place = p })))
name_spelled n (pos zero) p = refl
name_spelled n (pos (suc m)) p = tt
name_spelled n (negsuc m) p = tt

number_spelled : (n : List ℕ) (v : ℤ) (p : ℕ) → Spelled (made K.Number n v p) (nameless n (value (number v p)))
number_spelled [] v p = refl
number_spelled (b ∷ bs) v p = tt

character_spelled : (n : List ℕ) (v : ℤ) (p : ℕ) → Spelled (made K.Character n v p) (nameless n (value (character v p)))
character_spelled [] v p = refl
character_spelled (b ∷ bs) v p = tt

sorted_spelled : (k : Kind) (n : List ℕ) (v : ℤ) (p : ℕ) → Spelled (made k n v p) (sorted k n v p)
sorted_spelled K.Name n v p = name_spelled n v p
sorted_spelled K.Number n v p = number_spelled n v p
sorted_spelled K.Character n v p = character_spelled n v p
sorted_spelled K.Bool n v p = bare_spelled K.Bool n v p (type bool p) refl
sorted_spelled K.Char n v p = bare_spelled K.Char n v p (type char p) refl
sorted_spelled K.Int n v p = bare_spelled K.Int n v p (type int p) refl
sorted_spelled K.Float n v p = tt
sorted_spelled K.Void n v p = bare_spelled K.Void n v p (word Void p) refl
sorted_spelled K.Extern n v p = bare_spelled K.Extern n v p (word Extern p) refl
sorted_spelled K.Static n v p = bare_spelled K.Static n v p (word Static p) refl
sorted_spelled K.If n v p = bare_spelled K.If n v p (word If p) refl
sorted_spelled K.Else n v p = bare_spelled K.Else n v p (word Else p) refl
sorted_spelled K.While n v p = bare_spelled K.While n v p (word While p) refl
sorted_spelled K.Do n v p = bare_spelled K.Do n v p (word Do p) refl
sorted_spelled K.For n v p = bare_spelled K.For n v p (word For p) refl
sorted_spelled K.To n v p = bare_spelled K.To n v p (word To p) refl
sorted_spelled K.Break n v p = bare_spelled K.Break n v p (word Break p) refl
sorted_spelled K.Continue n v p = bare_spelled K.Continue n v p (word Continue p) refl
sorted_spelled K.Return n v p = bare_spelled K.Return n v p (word Return p) refl
sorted_spelled K.True n v p = bare_spelled K.True n v p (value (truth true p)) refl
sorted_spelled K.False n v p = bare_spelled K.False n v p (value (truth false p)) refl
sorted_spelled K.Plus n v p = bare_spelled K.Plus n v p (operator Add p) refl
sorted_spelled K.Minus n v p = bare_spelled K.Minus n v p (operator Subtract p) refl
sorted_spelled K.Star n v p = bare_spelled K.Star n v p (operator Multiply p) refl
sorted_spelled K.Slash n v p = bare_spelled K.Slash n v p (operator Divide p) refl
sorted_spelled K.Percent n v p = bare_spelled K.Percent n v p (operator Remainder p) refl
sorted_spelled K.Assign n v p = bare_spelled K.Assign n v p (word Assign p) refl
sorted_spelled K.Equal n v p = bare_spelled K.Equal n v p (operator Equal p) refl
sorted_spelled K.NotEqual n v p = bare_spelled K.NotEqual n v p (operator NotEqual p) refl
sorted_spelled K.Not n v p = bare_spelled K.Not n v p (bang p) refl
sorted_spelled K.Less n v p = bare_spelled K.Less n v p (operator Less p) refl
sorted_spelled K.LessEqual n v p = bare_spelled K.LessEqual n v p (operator LessEqual p) refl
sorted_spelled K.Greater n v p = bare_spelled K.Greater n v p (operator Greater p) refl
sorted_spelled K.GreaterEqual n v p = bare_spelled K.GreaterEqual n v p (operator GreaterEqual p) refl
sorted_spelled K.And n v p = bare_spelled K.And n v p (operator And p) refl
sorted_spelled K.Or n v p = bare_spelled K.Or n v p (operator Or p) refl
sorted_spelled K.PlusAssign n v p = bare_spelled K.PlusAssign n v p (modifier plus p) refl
sorted_spelled K.MinusAssign n v p = bare_spelled K.MinusAssign n v p (modifier minus p) refl
sorted_spelled K.StarAssign n v p = bare_spelled K.StarAssign n v p (modifier times p) refl
sorted_spelled K.SlashAssign n v p = bare_spelled K.SlashAssign n v p (modifier over p) refl
sorted_spelled K.PercentAssign n v p = bare_spelled K.PercentAssign n v p (modifier modulo p) refl
sorted_spelled K.AndAssign n v p = bare_spelled K.AndAssign n v p (modifier both p) refl
sorted_spelled K.OrAssign n v p = bare_spelled K.OrAssign n v p (modifier either p) refl
sorted_spelled K.OpenParen n v p = bare_spelled K.OpenParen n v p (word OpenParen p) refl
sorted_spelled K.CloseParen n v p = bare_spelled K.CloseParen n v p (word CloseParen p) refl
sorted_spelled K.OpenBrace n v p = bare_spelled K.OpenBrace n v p (word OpenBrace p) refl
sorted_spelled K.CloseBrace n v p = bare_spelled K.CloseBrace n v p (word CloseBrace p) refl
sorted_spelled K.Comma n v p = bare_spelled K.Comma n v p (word Comma p) refl
sorted_spelled K.Semicolon n v p = bare_spelled K.Semicolon n v p (word Semicolon p) refl

-- Every lexeme is written as its token says.
pub spelled : (l : Lexeme) → Spelled l (tok_of l)
spelled l = sorted_spelled l.kind l.name l.value l.place

-- The tokens of what trees write.

pub tok_word : (w : Word) (p : ℕ) → tok_of (sign (word_kind w) p) ≡ word w p
tok_word Void p = refl
tok_word Extern p = refl
tok_word Static p = refl
tok_word If p = refl
tok_word Else p = refl
tok_word While p = refl
tok_word Do p = refl
tok_word For p = refl
tok_word To p = refl
tok_word Break p = refl
tok_word Continue p = refl
tok_word Return p = refl
tok_word Assign p = refl
tok_word OpenParen p = refl
tok_word CloseParen p = refl
tok_word OpenBrace p = refl
tok_word CloseBrace p = refl
tok_word Comma p = refl
tok_word Semicolon p = refl

pub tok_type : (t : Scalar) (p : ℕ) → tok_of (sign (type_kind t) p) ≡ type t p
tok_type bool p = refl
tok_type char p = refl
tok_type int p = refl

pub tok_operator : (o : Operator) (p : ℕ) → tok_of (sign (binary_kind o) p) ≡ operator o p
tok_operator Add p = refl
tok_operator Subtract p = refl
tok_operator Multiply p = refl
tok_operator Divide p = refl
tok_operator Remainder p = refl
tok_operator Less p = refl
tok_operator LessEqual p = refl
tok_operator Greater p = refl
tok_operator GreaterEqual p = refl
tok_operator Equal p = refl
tok_operator NotEqual p = refl
tok_operator And p = refl
tok_operator Or p = refl

pub tok_modifier : (m : Modifier) (p : ℕ) → tok_of (sign (modifier_kind m) p) ≡ modifier m p
tok_modifier plus p = refl
tok_modifier minus p = refl
tok_modifier times p = refl
tok_modifier over p = refl
tok_modifier modulo p = refl
tok_modifier both p = refl
tok_modifier either p = refl

pub tok_literal : (c : Constant) → tok_of (literal c) ≡ value c
tok_literal (number v p) = refl
tok_literal (character v p) = refl
tok_literal (truth true p) = refl
tok_literal (truth false p) = refl
