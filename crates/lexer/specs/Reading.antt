-- The reading of a source: its tokens, or those before the first fault, with that fault.
use Rattle.std.specs.Prelude.{ℕ, zero, suc, ◌+◌, ◌-◌, Bool, true, false, cond, ◌&&◌, ◌||◌, List, [], ◌∷◌, ◌++◌, map, length, take, drop, pos, Some, None, codes, Option, ◌==◌, nat_le, nat_lt, slice_index}
use Rattle.std.specs.List.{prefix_len}
use Rattle.refusal.specs.Told.{Told, accepted, refused}
use Rattle.lexer.specs.declared.class.Class.{Class}
use Rattle.lexer.specs.declared.class.Class.TheVariants.{Blank, Letter, Digit, Underscore, Quote, Mark, Stray}
use Rattle.lexer.specs.declared.kind.Kind.{Kind}
use Rattle.lexer.specs.declared.kind.Kind.TheVariants.{Number, Character}
use Rattle.lexer.specs.declared.kind.Token.{Token}
use Rattle.lexer.specs.declared.reader.State.{State}
use Rattle.lexer.specs.declared.reader.State.TheVariants.{Code, LineComment, LongComment}
use Rattle.lexer.specs.Classes.{class_of, is_letter, is_digit}
use Rattle.lexer.specs.Lexeme.{Lexeme}
use Rattle.lexer.specs.Spelling.{kind_number, begins, word_kind, mark_at}
use Rattle.lexer.specs.Constants.{is_hexadecimal, value_of, greatest, is_plain, escape_of}

-- What the front of the rest of a source is: no part of a token, of one byte and so many more, and the state after them;
-- a token; or a fault, by its number.
pub data Front : Type 0 where
  between : State → (more : ℕ) → Front
  token : Kind → (length value : ℕ) → Front
  wrong : (number : ℕ) → Front

-- a byte of a name after its first
abbrev pub is_word : ℕ → Bool
is_word b = is_letter b || (is_digit b || b == 95)

-- a name or a keyword
abbrev pub word_front : List ℕ → Front
word_front r = token (word_kind (take (prefix_len is_word r) r)) (prefix_len is_word r) 0

-- a number of n bytes, unless it is too large
abbrev pub sized : ℕ → ℕ → Front
sized n v = cond (nat_le v greatest) (token Number n v) (wrong 7)

-- the digits in the base that follow so many bytes
abbrev pub numeral : (ℕ → Bool) → (base before : ℕ) → List ℕ → Front
numeral p base before r = sized (before + prefix_len p (drop before r)) (value_of base (take (prefix_len p (drop before r)) (drop before r)))

-- `0x` and a hexadecimal digit
abbrev pub opens_hexadecimal : List ℕ → Bool
opens_hexadecimal r = slice_index r 0 == 48 && (slice_index r 1 == 120 && is_hexadecimal (slice_index r 2))

-- hexadecimal or decimal
abbrev pub number_by : Bool → List ℕ → Front
number_by true r = numeral is_hexadecimal 16 2 r
number_by false r = numeral is_digit 10 0 r

-- a number
abbrev pub number_front : List ℕ → Front
number_front r = number_by (opens_hexadecimal r) r

-- an escape in quotes
abbrev pub escape_front : Option ℕ → Front
escape_front (Some v) = token Character 4 v
escape_front None = wrong 6

-- a character constant: a backslash and a byte, or a plain byte, and the closing quote
abbrev pub character_front : List ℕ → Front
character_front r =
    cond (slice_index r 1 == 92 && slice_index r 3 == 39) (escape_front (escape_of (slice_index r 2)))
    (cond (is_plain (slice_index r 1) && slice_index r 2 == 39) (token Character 3 (slice_index r 1)) (wrong 6))

-- a mark
abbrev pub mark_front : Option (Kind × ℕ) → Front
mark_front (Some m) = token m.0 m.1 0
mark_front None = wrong 4

-- the token at the front, by the class of its first byte
abbrev pub token_front : Class → List ℕ → Front
token_front Blank r = wrong 4
token_front Letter r = word_front r
token_front Digit r = number_front r
token_front Underscore r = wrong 4
token_front Quote r = character_front r
token_front Mark r = mark_front (mark_at r)
token_front Stray r = wrong 4

-- a comment that opens at the place, if one does, else a mark
abbrev pub comment_or : (line long : Bool) → ℕ → List ℕ → Front
comment_or true long p r = between LineComment 1
comment_or false true p r = between (LongComment p) 1
comment_or false false p r = token_front Mark r

-- the front where a token may begin
abbrev pub code_front : Class → ℕ → List ℕ → Front
code_front Blank p r = between Code 0
code_front Letter p r = token_front Letter r
code_front Digit p r = token_front Digit r
code_front Underscore p r = token_front Underscore r
code_front Quote p r = token_front Quote r
code_front Mark p r = comment_or (begins (codes "//") r) (begins (codes "/*") r) p r
code_front Stray p r = token_front Stray r

-- the front of what is left, in the state, at the place
abbrev pub front : State → ℕ → List ℕ → Front
front Code p r = code_front (class_of (slice_index r 0)) p r
front LineComment p r = between (cond (slice_index r 0 == 10) Code LineComment) 0
front (LongComment q) p r = cond (begins (codes "*/") r) (between Code 1) (between (LongComment q) 0)

-- no fault, or the number and place of the first
pub data Fault : Type 0 where
  none : Fault
  fault : (number place : ℕ) → Fault

-- the tokens before the first fault, or all of them, and that fault
pub record Reading : Type 0 where
  pub tokens : List Token
  pub fault : Fault

-- nothing more is read
abbrev pub stopped : Fault → Reading
stopped f = record { tokens = []; fault = f }

-- a token, and the reading after it
abbrev pub preceded : Token → Reading → Reading
preceded x r = record { tokens = x ∷ r.tokens; fault = r.fault }

-- the token of a kind at a place, with its length and value
abbrev pub token_of : Kind → (place length value : ℕ) → Token
token_of k p n v = record { kind = k; place = p; length = n; value = pos v }

-- the end of the source: a long comment that is open there is a fault, at the place where it opened
abbrev pub ended : State → Reading
ended Code = stopped none
ended LineComment = stopped none
ended (LongComment q) = stopped (fault 5 q)

-- what a front at the place p comes to, with room for so many tokens; go is the reading after its first byte
abbrev pub follow : Front → (room p : ℕ) → (State → ℕ → ℕ → Reading) → Reading
follow (between s k) room p go = go s k room
follow (token k n v) zero p go = stopped (fault 8 p)
follow (token k n v) (suc room) p go = preceded (token_of k p n v) (go Code (n - 1) room)
follow (wrong n) room p go = stopped (fault n p)

-- The reading of what is left from the place p on, in the state s, after so many bytes that belong to what came before,
-- with room for so many tokens.
unfoldable pub reading_from : List ℕ → State → (more room p : ℕ) → Reading
reading_from [] s more room p = ended s
reading_from (b ∷ r) s (suc more) room p = reading_from r s more room (suc p)
reading_from (b ∷ r) s zero room p = follow (front s p (b ∷ r)) room p (λ s' more room'. reading_from r s' more room' (suc p))

-- the most tokens of a source
abbrev pub token_limit : ℕ
token_limit = 1024

-- the most bytes of a source
abbrev pub source_limit : ℕ
source_limit = 16384

-- the reading of a source
unfoldable pub reading : List ℕ → Reading
unfolding reading_from
reading s = reading_from s Code 0 token_limit 0

-- what a reading tells: the count of its tokens, or its fault
abbrev pub told_of : List Token → Fault → Told ℕ
told_of ts none = accepted (length ts)
told_of ts (fault n p) = refused n p

-- the tokens in the first records, the further records as they were
abbrev pub written : List Token → List Token → List Token
written ts list = ts ++ drop (length ts) list

-- The answer for a source, by the length of the token list: a source or a list of a wrong length is refused before anything
-- is read.
abbrev pub answer_by : (long short : Bool) → List ℕ → Told ℕ
answer_by true short s = refused 1 0
answer_by false true s = refused 2 0
answer_by false false s = told_of (reading s).tokens (reading s).fault

-- the answer for a source and a token list of so many records
abbrev pub answer : List ℕ → ℕ → Told ℕ
answer s room = answer_by (nat_lt source_limit (length s)) (nat_lt room token_limit) s

-- the token list after that answer
abbrev pub list_by : (long short : Bool) → List ℕ → List Token → List Token
list_by true short s list = list
list_by false true s list = list
list_by false false s list = written (reading s).tokens list

-- the token list after a source is read into it
abbrev pub list_after : List ℕ → List Token → List Token
list_after s list = list_by (nat_lt source_limit (length s)) (nat_lt (length list) token_limit) s list

-- the part of the source that a token names, if it exists
abbrev pub text_of : List ℕ → Token → Option (List ℕ)
text_of s x = cond (nat_le (x.place + x.length) (length s)) (Some (take x.length (drop x.place s))) None

-- the text of record k, if there is such a record
abbrev pub text_at : List ℕ → List Token → ℕ → Option (List ℕ)
text_at s [] k = None
text_at s (x ∷ xs) zero = text_of s x
text_at s (x ∷ xs) (suc k) = text_at s xs k

-- a name's bytes; any other kind has none
abbrev pub name_bytes : ℕ → List ℕ → Token → List ℕ
name_bytes zero s x = take x.length (drop x.place s)
name_bytes (suc k) s x = []

-- the lexeme of a token of the source
abbrev pub lexeme : List ℕ → Token → Lexeme
lexeme s x = record { kind = x.kind; name = name_bytes (kind_number x.kind) s x; value = x.value; place = x.place }

-- the lexemes of tokens of the source
abbrev pub lexemes : List ℕ → List Token → List Lexeme
lexemes s xs = map (lexeme s) xs
