-- Keywords and marks: the spelling of each.
use Rattle.std.specs.Prelude.{ℕ, Bool, true, false, cond, ◌&&◌, List, [], ◌∷◌, length, Some, None, codes, Option, ◌==◌}
use Rattle.std.specs.Str.{bytes_eq}
use Rattle.lexer.specs.declared.kind.Kind.{Kind}
use Rattle.lexer.specs.declared.kind.Kind.TheVariants.{Name, Number, Character, Bool as Bool', Char, Int, Float, Void, Extern, Static, If, Else, While, Do, For, To, Break, Continue, Return, True, False, Plus, Minus, Star, Slash, Percent, Assign, Equal, NotEqual, Not, Less, LessEqual, Greater, GreaterEqual, And, Or, PlusAssign, MinusAssign, StarAssign, SlashAssign, PercentAssign, AndAssign, OrAssign, OpenParen, CloseParen, OpenBrace, CloseBrace, Comma, Semicolon}

-- the number of each kind: names and constants from 0, keywords from 10, marks from 40
abbrev pub kind_number : Kind → ℕ
kind_number Name = 0
kind_number Number = 1
kind_number Character = 2
kind_number Bool' = 10
kind_number Char = 11
kind_number Int = 12
kind_number Float = 13
kind_number Void = 14
kind_number Extern = 15
kind_number Static = 16
kind_number If = 17
kind_number Else = 18
kind_number While = 19
kind_number Do = 20
kind_number For = 21
kind_number To = 22
kind_number Break = 23
kind_number Continue = 24
kind_number Return = 25
kind_number True = 26
kind_number False = 27
kind_number Plus = 40
kind_number Minus = 41
kind_number Star = 42
kind_number Slash = 43
kind_number Percent = 44
kind_number Assign = 45
kind_number Equal = 46
kind_number NotEqual = 47
kind_number Not = 48
kind_number Less = 49
kind_number LessEqual = 50
kind_number Greater = 51
kind_number GreaterEqual = 52
kind_number And = 53
kind_number Or = 54
kind_number PlusAssign = 55
kind_number MinusAssign = 56
kind_number StarAssign = 57
kind_number SlashAssign = 58
kind_number PercentAssign = 59
kind_number AndAssign = 60
kind_number OrAssign = 61
kind_number OpenParen = 62
kind_number CloseParen = 63
kind_number OpenBrace = 64
kind_number CloseBrace = 65
kind_number Comma = 66
kind_number Semicolon = 67

-- the spelling of each keyword and mark; names and constants have none
abbrev pub spelling_of : Kind → List ℕ
spelling_of Name = []
spelling_of Number = []
spelling_of Character = []
spelling_of Bool' = codes "bool"
spelling_of Char = codes "char"
spelling_of Int = codes "int"
spelling_of Float = codes "float"
spelling_of Void = codes "void"
spelling_of Extern = codes "extern"
spelling_of Static = codes "static"
spelling_of If = codes "if"
spelling_of Else = codes "else"
spelling_of While = codes "while"
spelling_of Do = codes "do"
spelling_of For = codes "for"
spelling_of To = codes "to"
spelling_of Break = codes "break"
spelling_of Continue = codes "continue"
spelling_of Return = codes "return"
spelling_of True = codes "true"
spelling_of False = codes "false"
spelling_of Plus = codes "+"
spelling_of Minus = codes "-"
spelling_of Star = codes "*"
spelling_of Slash = codes "/"
spelling_of Percent = codes "%"
spelling_of Assign = codes "="
spelling_of Equal = codes "=="
spelling_of NotEqual = codes "!="
spelling_of Not = codes "!"
spelling_of Less = codes "<"
spelling_of LessEqual = codes "<="
spelling_of Greater = codes ">"
spelling_of GreaterEqual = codes ">="
spelling_of And = codes "&&"
spelling_of Or = codes "||"
spelling_of PlusAssign = codes "+="
spelling_of MinusAssign = codes "-="
spelling_of StarAssign = codes "*="
spelling_of SlashAssign = codes "/="
spelling_of PercentAssign = codes "%="
spelling_of AndAssign = codes "&&="
spelling_of OrAssign = codes "||="
spelling_of OpenParen = codes "("
spelling_of CloseParen = codes ")"
spelling_of OpenBrace = codes "{"
spelling_of CloseBrace = codes "}"
spelling_of Comma = codes ","
spelling_of Semicolon = codes ";"

-- what a kind is called: the keyword or mark itself, or a word for names and constants
abbrev pub label_of : Kind → List ℕ
label_of Name = codes "name"
label_of Number = codes "number"
label_of Character = codes "character"
label_of k = spelling_of k

-- the keywords
abbrev pub keywords : List Kind
keywords =
    Bool' ∷ Char ∷ Int ∷ Float ∷ Void ∷ Extern ∷ Static ∷ If ∷ Else ∷ While ∷ Do ∷ For ∷ To ∷ Break ∷ Continue ∷
    Return ∷ True ∷ False ∷ []

-- the marks, longer ones first
abbrev pub marks : List Kind
marks =
    AndAssign ∷ OrAssign ∷ Equal ∷ NotEqual ∷ LessEqual ∷ GreaterEqual ∷ And ∷ Or ∷ PlusAssign ∷ MinusAssign ∷
    StarAssign ∷ SlashAssign ∷ PercentAssign ∷ Plus ∷ Minus ∷ Star ∷ Slash ∷ Percent ∷ Assign ∷ Not ∷ Less ∷
    Greater ∷ OpenParen ∷ CloseParen ∷ OpenBrace ∷ CloseBrace ∷ Comma ∷ Semicolon ∷ []

-- the kind of a word: the listed keyword so spelled, or a name
abbrev pub word_kind_in : List Kind → List ℕ → Kind
word_kind_in [] w = Name
word_kind_in (k ∷ ks) w = cond (bytes_eq w (spelling_of k)) k (word_kind_in ks w)

-- the kind of a word
abbrev pub word_kind : List ℕ → Kind
word_kind = word_kind_in keywords

-- r begins with the spelling s
abbrev pub begins : List ℕ → List ℕ → Bool
begins [] r = true
begins (x ∷ xs) [] = false
begins (x ∷ xs) (b ∷ r) = b == x && begins xs r

-- the first listed mark that r begins with, and its length
abbrev pub mark_in : List Kind → List ℕ → Option (Kind × ℕ)
mark_in [] r = None
mark_in (k ∷ ks) r = cond (begins (spelling_of k) r) (Some (k, length (spelling_of k))) (mark_in ks r)

-- the mark that r begins with, and its length: the longest, since longer ones are listed first
abbrev pub mark_at : List ℕ → Option (Kind × ℕ)
mark_at = mark_in marks
