-- What the inner functions answer, in the words of the reading.
use Rattle.std.specs.Prelude.{◌≡◌, ℕ, zero, suc, ◌+◌, ◌<◌, ◌≤◌, Bool, true, false, cond, List, length, drop, IfOk, Some, None, Ok, Err, Option, Result, OnSome, nat_lt, slice_index, slice_set}
use Rattle.refusal.specs.declared.reason.Reason.{Reason}
use Rattle.refusal.specs.declared.reason.Refusal.{Refusal}
use Rattle.refusal.specs.Told.{Told, accepted, refused, number_of}
use Rattle.lexer.specs.declared.kind.Kind.{Kind}
use Rattle.lexer.specs.declared.kind.Token.{Token}
use Rattle.lexer.specs.declared.reader.Reader.{Reader}
use Rattle.lexer.specs.declared.reader.State.{State}
use Rattle.lexer.specs.declared.reader.State.TheVariants.{Code}
use Rattle.lexer.specs.declared.scan.Run.{Run}
use Rattle.lexer.specs.declared.scan.Run.TheVariants.{Word, Decimal, Hexadecimal}
use Rattle.lexer.specs.declared.scan.Scanned.{Scanned}
use Rattle.lexer.specs.Classes.{class_of, is_digit}
use Rattle.lexer.specs.Constants.{is_hexadecimal}
use Rattle.lexer.specs.Reading.{Front, token, wrong, is_word, front, token_front, none, fault, Reading, stopped, preceded, token_of, reading_from, token_limit}

-- the bytes of a run
abbrev pub in_run : Run → ℕ → Bool
in_run Word = is_word
in_run Decimal = is_digit
in_run Hexadecimal = is_hexadecimal

-- the token that was scanned, or the fault
abbrev pub front_of : Result Scanned Reason → Front
front_of (Ok x) = token x.kind x.length x.value
front_of (Err e) = wrong (number_of e)

-- The answer for a place where a token may begin: the token at the front there, which takes up at least a byte, or the fault.
abbrev pub TokenAt : List ℕ → ℕ → Result Token Refusal → Type 0
TokenAt s at (Ok x) =
    (k : Kind) × (n : ℕ) × (v : ℕ) × (token_front (class_of (slice_index (drop at s) 0)) (drop at s) ≡ token k n v) × (x ≡ token_of k at n v) × (0 < n) × (at + n ≤ length s)
TokenAt s at (Err e) =
    (token_front (class_of (slice_index (drop at s) 0)) (drop at s) ≡ wrong (number_of e.reason)) × (e.place ≡ at)

-- the reading of the source s from the place at, in the state
abbrev pub ahead : List ℕ → ℕ → State → ℕ → Reading
ahead s at state room = reading_from (drop at s) state 0 room at

-- A reader has gone on over its source by so many bytes, into the state.
pub record Passed (r r' : Reader) (bytes : ℕ) (state : State) : Type 0 where
  pub source : r'.source ≡ r.source
  pub at : r'.at ≡ r.at + bytes
  pub into : r'.state ≡ state

-- A reader has gone on over its source, past what is no part of a token: what is left gives what was left before.
pub record Came (r r' : Reader) : Type 0 where
  pub source : r'.source ≡ r.source
  pub on : r.at ≤ r'.at
  pub reads : (room : ℕ) → ahead r.source.now r.at r.state room ≡ ahead r.source.now r'.at r'.state room

-- One step of a reader. Where a token begins it has stayed; else it has passed over what is no part of a token.
abbrev pub Stepped : Reader → Reader → Bool → Type 0
Stepped r r' true =
    (r'.source ≡ r.source) × (r'.at ≡ r.at) × (r.state ≡ Code)
    × (front Code r.at (drop r.at r.source.now) ≡ token_front (class_of (slice_index (drop r.at r.source.now) 0)) (drop r.at r.source.now))
Stepped r r' false = Came r r' × (r.at < r'.at)

-- what is read, if a reader has come to the place at with this answer
abbrev pub after_next : Result (Option Token) Refusal → List ℕ → ℕ → State → ℕ → Reading
after_next (Ok None) s at state room = stopped none
after_next (Ok (Some x)) s at state zero = stopped (fault 8 x.place)
after_next (Ok (Some x)) s at state (suc room) = preceded x (ahead s at state room)
after_next (Err e) s at state room = stopped (fault (number_of e.reason) e.place)

-- One token of the source is read on: a token takes up at least a byte.
pub record Next (r r' : Reader) (answer : Result (Option Token) Refusal) : Type 0 where
  pub source : r'.source ≡ r.source
  pub reads : (room : ℕ) → ahead r.source.now r.at r.state room ≡ after_next answer r.source.now r'.at r'.state room
  pub on : IfOk answer (λ x. OnSome x (r.at < r'.at))

-- one more token, if there is room for it
abbrev pub stored_told : ℕ → Token → Told ℕ
stored_told count x = cond (nat_lt count token_limit) (accepted (count + 1)) (refused 8 x.place)

-- the token list after that
abbrev pub stored_list : List Token → ℕ → Token → List Token
stored_list list count x = cond (nat_lt count token_limit) (slice_set list count x) list
