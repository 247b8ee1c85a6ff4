-- The kind of the token at a place in the list, as the grammar sees it.
use Rattle.std.specs.Prelude.{ℕ, zero, suc, ◌+◌, Bool, true, false, cond, ◌&&◌, ◌||◌, List, [], ◌∷◌, take, drop, ℤ, pos, negsuc, Some, None, Option, ◌==◌}
use Rattle.lexer.specs.declared.kind.Kind.{Kind}
use Rattle.lexer.specs.declared.kind.Kind.TheVariants as K
use Rattle.lexer.specs.declared.kind.Token.{Token}
use Rattle.meaning.specs.Written.{main_name}
use Rattle.std.specs.Str.{bytes_eq}
use Rattle.lookahead.specs.declared.class.Lead.{Lead}
use Rattle.lookahead.specs.declared.class.Lead.TheVariants as L
use Rattle.lookahead.specs.declared.class.Start.{Start}
use Rattle.lookahead.specs.declared.class.Start.TheVariants as S

-- the number of a kind, in their order
abbrev pub code : Kind → ℕ
code K.Name = 0
code K.Number = 1
code K.Character = 2
code K.Bool = 3
code K.Char = 4
code K.Int = 5
code K.Float = 6
code K.Void = 7
code K.Extern = 8
code K.Static = 9
code K.If = 10
code K.Else = 11
code K.While = 12
code K.Do = 13
code K.For = 14
code K.To = 15
code K.Break = 16
code K.Continue = 17
code K.Return = 18
code K.True = 19
code K.False = 20
code K.Plus = 21
code K.Minus = 22
code K.Star = 23
code K.Slash = 24
code K.Percent = 25
code K.Assign = 26
code K.Equal = 27
code K.NotEqual = 28
code K.Not = 29
code K.Less = 30
code K.LessEqual = 31
code K.Greater = 32
code K.GreaterEqual = 33
code K.And = 34
code K.Or = 35
code K.PlusAssign = 36
code K.MinusAssign = 37
code K.StarAssign = 38
code K.SlashAssign = 39
code K.PercentAssign = 40
code K.AndAssign = 41
code K.OrAssign = 42
code K.OpenParen = 43
code K.CloseParen = 44
code K.OpenBrace = 45
code K.CloseBrace = 46
code K.Comma = 47
code K.Semicolon = 48

-- numbers and characters, which have a value
abbrev pub is_valued : Kind → Bool
is_valued K.Name = false
is_valued K.Number = true
is_valued K.Character = true
is_valued K.Bool = false
is_valued K.Char = false
is_valued K.Int = false
is_valued K.Float = false
is_valued K.Void = false
is_valued K.Extern = false
is_valued K.Static = false
is_valued K.If = false
is_valued K.Else = false
is_valued K.While = false
is_valued K.Do = false
is_valued K.For = false
is_valued K.To = false
is_valued K.Break = false
is_valued K.Continue = false
is_valued K.Return = false
is_valued K.True = false
is_valued K.False = false
is_valued K.Plus = false
is_valued K.Minus = false
is_valued K.Star = false
is_valued K.Slash = false
is_valued K.Percent = false
is_valued K.Assign = false
is_valued K.Equal = false
is_valued K.NotEqual = false
is_valued K.Not = false
is_valued K.Less = false
is_valued K.LessEqual = false
is_valued K.Greater = false
is_valued K.GreaterEqual = false
is_valued K.And = false
is_valued K.Or = false
is_valued K.PlusAssign = false
is_valued K.MinusAssign = false
is_valued K.StarAssign = false
is_valued K.SlashAssign = false
is_valued K.PercentAssign = false
is_valued K.AndAssign = false
is_valued K.OrAssign = false
is_valued K.OpenParen = false
is_valued K.CloseParen = false
is_valued K.OpenBrace = false
is_valued K.CloseBrace = false
is_valued K.Comma = false
is_valued K.Semicolon = false

-- whether a number is 0
abbrev pub is_zero : ℤ → Bool
is_zero (pos zero) = true
is_zero (pos (suc n)) = false
is_zero (negsuc n) = false

-- a token of this kind; none, where a keyword, mark or name has a value: no script has such a lexeme
abbrev pub kind_of : Token → Option Kind
kind_of t = cond (is_valued t.kind || is_zero t.value) (Some t.kind) None

-- the kind of the first of some tokens
abbrev pub first_kind : List Token → Option Kind
first_kind [] = None
first_kind (t ∷ ts) = kind_of t

-- the kind of the token at a position, none past the end
abbrev pub seen : List Token → ℕ → Option Kind
seen ts at = first_kind (drop at ts)

-- how an operand begins with a kind of token, if one does
abbrev pub start_of : Option Kind → Option Start
start_of None = None
start_of (Some K.Name) = Some S.Name
start_of (Some K.Number) = Some S.Constant
start_of (Some K.Character) = Some S.Constant
start_of (Some K.Bool) = None
start_of (Some K.Char) = None
start_of (Some K.Int) = None
start_of (Some K.Float) = None
start_of (Some K.Void) = None
start_of (Some K.Extern) = None
start_of (Some K.Static) = None
start_of (Some K.If) = None
start_of (Some K.Else) = None
start_of (Some K.While) = None
start_of (Some K.Do) = None
start_of (Some K.For) = None
start_of (Some K.To) = None
start_of (Some K.Break) = None
start_of (Some K.Continue) = None
start_of (Some K.Return) = None
start_of (Some K.True) = Some S.Constant
start_of (Some K.False) = Some S.Constant
start_of (Some K.Plus) = None
start_of (Some K.Minus) = Some S.Prefix
start_of (Some K.Star) = None
start_of (Some K.Slash) = None
start_of (Some K.Percent) = None
start_of (Some K.Assign) = None
start_of (Some K.Equal) = None
start_of (Some K.NotEqual) = None
start_of (Some K.Not) = Some S.Prefix
start_of (Some K.Less) = None
start_of (Some K.LessEqual) = None
start_of (Some K.Greater) = None
start_of (Some K.GreaterEqual) = None
start_of (Some K.And) = None
start_of (Some K.Or) = None
start_of (Some K.PlusAssign) = None
start_of (Some K.MinusAssign) = None
start_of (Some K.StarAssign) = None
start_of (Some K.SlashAssign) = None
start_of (Some K.PercentAssign) = None
start_of (Some K.AndAssign) = None
start_of (Some K.OrAssign) = None
start_of (Some K.OpenParen) = Some S.Bracket
start_of (Some K.CloseParen) = None
start_of (Some K.OpenBrace) = None
start_of (Some K.CloseBrace) = None
start_of (Some K.Comma) = None
start_of (Some K.Semicolon) = None

-- how loosely an operator binds, if it is one that takes two operands
abbrev pub looseness_of : Option Kind → Option ℕ
looseness_of None = None
looseness_of (Some K.Name) = None
looseness_of (Some K.Number) = None
looseness_of (Some K.Character) = None
looseness_of (Some K.Bool) = None
looseness_of (Some K.Char) = None
looseness_of (Some K.Int) = None
looseness_of (Some K.Float) = None
looseness_of (Some K.Void) = None
looseness_of (Some K.Extern) = None
looseness_of (Some K.Static) = None
looseness_of (Some K.If) = None
looseness_of (Some K.Else) = None
looseness_of (Some K.While) = None
looseness_of (Some K.Do) = None
looseness_of (Some K.For) = None
looseness_of (Some K.To) = None
looseness_of (Some K.Break) = None
looseness_of (Some K.Continue) = None
looseness_of (Some K.Return) = None
looseness_of (Some K.True) = None
looseness_of (Some K.False) = None
looseness_of (Some K.Plus) = Some 2
looseness_of (Some K.Minus) = Some 2
looseness_of (Some K.Star) = Some 1
looseness_of (Some K.Slash) = Some 1
looseness_of (Some K.Percent) = Some 1
looseness_of (Some K.Assign) = None
looseness_of (Some K.Equal) = Some 4
looseness_of (Some K.NotEqual) = Some 4
looseness_of (Some K.Not) = None
looseness_of (Some K.Less) = Some 3
looseness_of (Some K.LessEqual) = Some 3
looseness_of (Some K.Greater) = Some 3
looseness_of (Some K.GreaterEqual) = Some 3
looseness_of (Some K.And) = Some 5
looseness_of (Some K.Or) = Some 6
looseness_of (Some K.PlusAssign) = None
looseness_of (Some K.MinusAssign) = None
looseness_of (Some K.StarAssign) = None
looseness_of (Some K.SlashAssign) = None
looseness_of (Some K.PercentAssign) = None
looseness_of (Some K.AndAssign) = None
looseness_of (Some K.OrAssign) = None
looseness_of (Some K.OpenParen) = None
looseness_of (Some K.CloseParen) = None
looseness_of (Some K.OpenBrace) = None
looseness_of (Some K.CloseBrace) = None
looseness_of (Some K.Comma) = None
looseness_of (Some K.Semicolon) = None

-- whether a token of the kind is there
abbrev pub is_kind : Option Kind → Kind → Bool
is_kind None k = false
is_kind (Some f) k = code f == code k

-- how a statement begins with a kind of token, if one does
abbrev pub lead_of : Option Kind → Option Lead
lead_of None = None
lead_of (Some K.Name) = Some L.Name
lead_of (Some K.Number) = Some L.Expression
lead_of (Some K.Character) = Some L.Expression
lead_of (Some K.Bool) = Some L.Definition
lead_of (Some K.Char) = Some L.Definition
lead_of (Some K.Int) = Some L.Definition
lead_of (Some K.Float) = None
lead_of (Some K.Void) = None
lead_of (Some K.Extern) = None
lead_of (Some K.Static) = None
lead_of (Some K.If) = Some L.If
lead_of (Some K.Else) = None
lead_of (Some K.While) = Some L.While
lead_of (Some K.Do) = Some L.Do
lead_of (Some K.For) = Some L.For
lead_of (Some K.To) = None
lead_of (Some K.Break) = Some L.Jump
lead_of (Some K.Continue) = Some L.Jump
lead_of (Some K.Return) = Some L.Return
lead_of (Some K.True) = Some L.Expression
lead_of (Some K.False) = Some L.Expression
lead_of (Some K.Plus) = None
lead_of (Some K.Minus) = Some L.Expression
lead_of (Some K.Star) = None
lead_of (Some K.Slash) = None
lead_of (Some K.Percent) = None
lead_of (Some K.Assign) = None
lead_of (Some K.Equal) = None
lead_of (Some K.NotEqual) = None
lead_of (Some K.Not) = Some L.Expression
lead_of (Some K.Less) = None
lead_of (Some K.LessEqual) = None
lead_of (Some K.Greater) = None
lead_of (Some K.GreaterEqual) = None
lead_of (Some K.And) = None
lead_of (Some K.Or) = None
lead_of (Some K.PlusAssign) = None
lead_of (Some K.MinusAssign) = None
lead_of (Some K.StarAssign) = None
lead_of (Some K.SlashAssign) = None
lead_of (Some K.PercentAssign) = None
lead_of (Some K.AndAssign) = None
lead_of (Some K.OrAssign) = None
lead_of (Some K.OpenParen) = Some L.Expression
lead_of (Some K.CloseParen) = None
lead_of (Some K.OpenBrace) = Some L.Block
lead_of (Some K.CloseBrace) = None
lead_of (Some K.Comma) = None
lead_of (Some K.Semicolon) = None

-- whether an assignment goes on with a kind of token
abbrev pub assigns_of : Option Kind → Bool
assigns_of None = false
assigns_of (Some K.Name) = false
assigns_of (Some K.Number) = false
assigns_of (Some K.Character) = false
assigns_of (Some K.Bool) = false
assigns_of (Some K.Char) = false
assigns_of (Some K.Int) = false
assigns_of (Some K.Float) = false
assigns_of (Some K.Void) = false
assigns_of (Some K.Extern) = false
assigns_of (Some K.Static) = false
assigns_of (Some K.If) = false
assigns_of (Some K.Else) = false
assigns_of (Some K.While) = false
assigns_of (Some K.Do) = false
assigns_of (Some K.For) = false
assigns_of (Some K.To) = false
assigns_of (Some K.Break) = false
assigns_of (Some K.Continue) = false
assigns_of (Some K.Return) = false
assigns_of (Some K.True) = false
assigns_of (Some K.False) = false
assigns_of (Some K.Plus) = false
assigns_of (Some K.Minus) = false
assigns_of (Some K.Star) = false
assigns_of (Some K.Slash) = false
assigns_of (Some K.Percent) = false
assigns_of (Some K.Assign) = true
assigns_of (Some K.Equal) = false
assigns_of (Some K.NotEqual) = false
assigns_of (Some K.Not) = false
assigns_of (Some K.Less) = false
assigns_of (Some K.LessEqual) = false
assigns_of (Some K.Greater) = false
assigns_of (Some K.GreaterEqual) = false
assigns_of (Some K.And) = false
assigns_of (Some K.Or) = false
assigns_of (Some K.PlusAssign) = true
assigns_of (Some K.MinusAssign) = true
assigns_of (Some K.StarAssign) = true
assigns_of (Some K.SlashAssign) = true
assigns_of (Some K.PercentAssign) = true
assigns_of (Some K.AndAssign) = true
assigns_of (Some K.OrAssign) = true
assigns_of (Some K.OpenParen) = false
assigns_of (Some K.CloseParen) = false
assigns_of (Some K.OpenBrace) = false
assigns_of (Some K.CloseBrace) = false
assigns_of (Some K.Comma) = false
assigns_of (Some K.Semicolon) = false

-- whether a kind of token is a type
abbrev pub is_scalar : Option Kind → Bool
is_scalar None = false
is_scalar (Some K.Name) = false
is_scalar (Some K.Number) = false
is_scalar (Some K.Character) = false
is_scalar (Some K.Bool) = true
is_scalar (Some K.Char) = true
is_scalar (Some K.Int) = true
is_scalar (Some K.Float) = false
is_scalar (Some K.Void) = false
is_scalar (Some K.Extern) = false
is_scalar (Some K.Static) = false
is_scalar (Some K.If) = false
is_scalar (Some K.Else) = false
is_scalar (Some K.While) = false
is_scalar (Some K.Do) = false
is_scalar (Some K.For) = false
is_scalar (Some K.To) = false
is_scalar (Some K.Break) = false
is_scalar (Some K.Continue) = false
is_scalar (Some K.Return) = false
is_scalar (Some K.True) = false
is_scalar (Some K.False) = false
is_scalar (Some K.Plus) = false
is_scalar (Some K.Minus) = false
is_scalar (Some K.Star) = false
is_scalar (Some K.Slash) = false
is_scalar (Some K.Percent) = false
is_scalar (Some K.Assign) = false
is_scalar (Some K.Equal) = false
is_scalar (Some K.NotEqual) = false
is_scalar (Some K.Not) = false
is_scalar (Some K.Less) = false
is_scalar (Some K.LessEqual) = false
is_scalar (Some K.Greater) = false
is_scalar (Some K.GreaterEqual) = false
is_scalar (Some K.And) = false
is_scalar (Some K.Or) = false
is_scalar (Some K.PlusAssign) = false
is_scalar (Some K.MinusAssign) = false
is_scalar (Some K.StarAssign) = false
is_scalar (Some K.SlashAssign) = false
is_scalar (Some K.PercentAssign) = false
is_scalar (Some K.AndAssign) = false
is_scalar (Some K.OrAssign) = false
is_scalar (Some K.OpenParen) = false
is_scalar (Some K.CloseParen) = false
is_scalar (Some K.OpenBrace) = false
is_scalar (Some K.CloseBrace) = false
is_scalar (Some K.Comma) = false
is_scalar (Some K.Semicolon) = false

-- whether a kind of token says what an extern gives
abbrev pub is_result : Option Kind → Bool
is_result None = false
is_result (Some K.Name) = false
is_result (Some K.Number) = false
is_result (Some K.Character) = false
is_result (Some K.Bool) = true
is_result (Some K.Char) = true
is_result (Some K.Int) = true
is_result (Some K.Float) = false
is_result (Some K.Void) = true
is_result (Some K.Extern) = false
is_result (Some K.Static) = false
is_result (Some K.If) = false
is_result (Some K.Else) = false
is_result (Some K.While) = false
is_result (Some K.Do) = false
is_result (Some K.For) = false
is_result (Some K.To) = false
is_result (Some K.Break) = false
is_result (Some K.Continue) = false
is_result (Some K.Return) = false
is_result (Some K.True) = false
is_result (Some K.False) = false
is_result (Some K.Plus) = false
is_result (Some K.Minus) = false
is_result (Some K.Star) = false
is_result (Some K.Slash) = false
is_result (Some K.Percent) = false
is_result (Some K.Assign) = false
is_result (Some K.Equal) = false
is_result (Some K.NotEqual) = false
is_result (Some K.Not) = false
is_result (Some K.Less) = false
is_result (Some K.LessEqual) = false
is_result (Some K.Greater) = false
is_result (Some K.GreaterEqual) = false
is_result (Some K.And) = false
is_result (Some K.Or) = false
is_result (Some K.PlusAssign) = false
is_result (Some K.MinusAssign) = false
is_result (Some K.StarAssign) = false
is_result (Some K.SlashAssign) = false
is_result (Some K.PercentAssign) = false
is_result (Some K.AndAssign) = false
is_result (Some K.OrAssign) = false
is_result (Some K.OpenParen) = false
is_result (Some K.CloseParen) = false
is_result (Some K.OpenBrace) = false
is_result (Some K.CloseBrace) = false
is_result (Some K.Comma) = false
is_result (Some K.Semicolon) = false

-- whether a kind of token is a constant
abbrev pub is_constant : Option Kind → Bool
is_constant None = false
is_constant (Some K.Name) = false
is_constant (Some K.Number) = true
is_constant (Some K.Character) = true
is_constant (Some K.Bool) = false
is_constant (Some K.Char) = false
is_constant (Some K.Int) = false
is_constant (Some K.Float) = false
is_constant (Some K.Void) = false
is_constant (Some K.Extern) = false
is_constant (Some K.Static) = false
is_constant (Some K.If) = false
is_constant (Some K.Else) = false
is_constant (Some K.While) = false
is_constant (Some K.Do) = false
is_constant (Some K.For) = false
is_constant (Some K.To) = false
is_constant (Some K.Break) = false
is_constant (Some K.Continue) = false
is_constant (Some K.Return) = false
is_constant (Some K.True) = true
is_constant (Some K.False) = true
is_constant (Some K.Plus) = false
is_constant (Some K.Minus) = false
is_constant (Some K.Star) = false
is_constant (Some K.Slash) = false
is_constant (Some K.Percent) = false
is_constant (Some K.Assign) = false
is_constant (Some K.Equal) = false
is_constant (Some K.NotEqual) = false
is_constant (Some K.Not) = false
is_constant (Some K.Less) = false
is_constant (Some K.LessEqual) = false
is_constant (Some K.Greater) = false
is_constant (Some K.GreaterEqual) = false
is_constant (Some K.And) = false
is_constant (Some K.Or) = false
is_constant (Some K.PlusAssign) = false
is_constant (Some K.MinusAssign) = false
is_constant (Some K.StarAssign) = false
is_constant (Some K.SlashAssign) = false
is_constant (Some K.PercentAssign) = false
is_constant (Some K.AndAssign) = false
is_constant (Some K.OrAssign) = false
is_constant (Some K.OpenParen) = false
is_constant (Some K.CloseParen) = false
is_constant (Some K.OpenBrace) = false
is_constant (Some K.CloseBrace) = false
is_constant (Some K.Comma) = false
is_constant (Some K.Semicolon) = false

-- the place after `static`, where it stands at i
abbrev pub past_static : List Token → ℕ → ℕ
past_static ts i = cond (is_kind (seen ts i) K.Static) (i + 1) i

-- whether the first of some tokens is the name `main`
abbrev pub main_first : List ℕ → List Token → Bool
main_first s [] = false
main_first s (t ∷ ts) = is_kind (kind_of t) K.Name && bytes_eq (take t.length (drop t.place s)) main_name

-- whether the token at i is the name `main`
abbrev pub is_main : List ℕ → List Token → ℕ → Bool
is_main s ts i = main_first s (drop i ts)

-- the place after `[static] int main (`, if that stands at i
abbrev pub past_main : List ℕ → List Token → ℕ → Option ℕ
past_main s ts i =
    cond (is_kind (seen ts (past_static ts i)) K.Int && (is_main s ts (past_static ts i + 1) && is_kind (seen ts (past_static ts i + 2)) K.OpenParen))
    (Some (past_static ts i + 3)) None

-- a record that is not filled
abbrev pub empty_token : Token
empty_token = record { kind = K.Name; place = 0; length = 0; value = pos 0 }
