-- The tokens of a source as a relation: what a token is, what may stand between tokens, and when a source reads as tokens
-- and a fault.
use Rattle.std.specs.Prelude.{◌≡◌, ℕ, zero, suc, ◌+◌, ◌<◌, ◌≤◌, Bool, true, false, ◌⊎◌, List, [], ◌∷◌, length, take, drop, pos, codes, ◌≢◌, slice_index}
use Rattle.lexer.specs.declared.kind.Kind.{Kind}
use Rattle.lexer.specs.declared.kind.Kind.TheVariants.{Name, Number, Character}
use Rattle.lexer.specs.declared.kind.Token.{Token}
use Rattle.lexer.specs.Classes.{is_blank, is_letter, is_digit}
use Rattle.lexer.specs.Spelling.{keywords, marks, spelling_of, begins}
use Rattle.lexer.specs.Constants.{is_hexadecimal, value_of, greatest, is_plain, escapes}
use Rattle.lexer.specs.Reading.{is_word, Fault, none, fault, reading, token_limit}

-- every byte passes the test
abbrev pub Every : (ℕ → Bool) → List ℕ → Type 0
Every p [] = Unit {0}
Every p (b ∷ bs) = (p b ≡ true) × Every p bs

-- x is in the list
abbrev pub Listed : {X : Type 0} → X → List X → Type 0
Listed x [] = ⊥
Listed x (y ∷ ys) = (x ≡ y) ⊎ Listed x ys

-- The bytes are a token of the kind, with the value; a number may be of any size here.
pub data IsToken (bs : List ℕ) (k : Kind) (v : ℕ) : Type 0 where
  -- a letter, then letters, digits and underscores, spelled as no keyword
  name : (b : ℕ) (w : List ℕ) → bs ≡ b ∷ w → is_letter b ≡ true → Every is_word w → ((q : Kind) → Listed q keywords → bs ≢ spelling_of q) → k ≡ Name → v ≡ 0 → IsToken bs k v
  keyword : Listed k keywords → bs ≡ spelling_of k → v ≡ 0 → IsToken bs k v
  mark : Listed k marks → bs ≡ spelling_of k → v ≡ 0 → IsToken bs k v
  -- one digit or more
  decimal : (d : ℕ) (ds : List ℕ) → bs ≡ d ∷ ds → Every is_digit bs → k ≡ Number → v ≡ value_of 10 bs → IsToken bs k v
  -- `0x`, then one hexadecimal digit or more
  hexadecimal : (d : ℕ) (ds : List ℕ) → bs ≡ 48 ∷ 120 ∷ d ∷ ds → Every is_hexadecimal (d ∷ ds) → k ≡ Number → v ≡ value_of 16 (d ∷ ds) → IsToken bs k v
  -- one byte in quotes
  plain : bs ≡ 39 ∷ v ∷ 39 ∷ [] → is_plain v ≡ true → k ≡ Character → IsToken bs k v
  -- a backslash and one byte in quotes
  escape : (c : ℕ) → bs ≡ 39 ∷ 92 ∷ c ∷ 39 ∷ [] → Listed (c, v) escapes → k ≡ Character → IsToken bs k v

-- The first n bytes of r are a token, and no longer front of r is one of any kind.
pub record Longest (r : List ℕ) (n : ℕ) (k : Kind) (v : ℕ) : Type 0 where
  pub within : n ≤ length r
  pub is : IsToken (take n r) k v
  pub most : (m : ℕ) (q : Kind) (w : ℕ) → m ≤ length r → IsToken (take m r) q w → m ≤ n

-- no front of r is a token
abbrev pub NoToken : List ℕ → Type 0
NoToken r = (m : ℕ) (q : Kind) (w : ℕ) → m ≤ length r → IsToken (take m r) q w → ⊥

-- A line comment's text t, from the place p on, ends with a line feed or with the source; u is left then, from the place q
-- on.
pub data Line : ℕ → List ℕ → ℕ → List ℕ → Type 0 where
  feed : {p : ℕ} {t : List ℕ} → Line p (10 ∷ t) (suc p) t
  end : {p : ℕ} → Line p [] p []
  more : {p q b : ℕ} {t u : List ℕ} → (b ≢ 10) → Line (suc p) t q u → Line p (b ∷ t) q u

-- A long comment's text ends with the first `*/`.
pub data Long : ℕ → List ℕ → ℕ → List ℕ → Type 0 where
  close : {p : ℕ} {t : List ℕ} → Long p (42 ∷ 47 ∷ t) (suc (suc p)) t
  further : {p q b : ℕ} {t u : List ℕ} → begins (codes "*/") (b ∷ t) ≡ false → Long (suc p) t q u → Long p (b ∷ t) q u

-- no `*/` stands in the text
abbrev pub Unclosed : List ℕ → Type 0
Unclosed [] = Unit {0}
Unclosed (b ∷ t) = (begins (codes "*/") (b ∷ t) ≡ false) × Unclosed t

-- From the place p, where t is left of the source, up to the place q, where u is left, stand blanks and whole comments only.
pub data Gap : ℕ → List ℕ → ℕ → List ℕ → Type 0 where
  empty : {p : ℕ} {t : List ℕ} → Gap p t p t
  blank : {p q b : ℕ} {t u : List ℕ} → is_blank b ≡ true → Gap (suc p) t q u → Gap p (b ∷ t) q u
  line : {p m q : ℕ} {t r u : List ℕ} → Line (suc (suc p)) t m r → Gap m r q u → Gap p (47 ∷ 47 ∷ t) q u
  long : {p m q : ℕ} {t r u : List ℕ} → Long (suc (suc p)) t m r → Gap m r q u → Gap p (47 ∷ 42 ∷ t) q u

-- Something begins that is neither a blank nor a comment.
pub record Begins (r : List ℕ) : Type 0 where
  pub byte : 0 < length r
  pub solid : is_blank (slice_index r 0) ≡ false
  pub no_line : begins (codes "//") r ≡ false
  pub no_long : begins (codes "/*") r ≡ false

-- The fault of each number where r is left, with room for so many tokens.
pub data Faulty (room : ℕ) (r : List ℕ) (number : ℕ) : Type 0 where
  -- no token begins, nor a character constant
  stray : number ≡ 4 → Begins r → (slice_index r 0 ≢ 39) → NoToken r → Faulty room r number
  -- a long comment is not closed
  unclosed : (t : List ℕ) → number ≡ 5 → r ≡ 47 ∷ 42 ∷ t → Unclosed t → Faulty room r number
  -- after a quote no character constant stands
  bad_character : number ≡ 6 → Begins r → slice_index r 0 ≡ 39 → NoToken r → Faulty room r number
  -- the longest token is a number that is too large
  too_large : (n v : ℕ) → number ≡ 7 → Begins r → Longest r n Number v → greatest < v → Faulty room r number
  -- there is no room for a sound token
  too_many : (n v : ℕ) (k : Kind) → number ≡ 8 → room ≡ 0 → Begins r → Longest r n k v → v ≤ greatest → Faulty room r number

-- The token x is the longest one where r is left, from its place on.
pub record TokenHere (r : List ℕ) (x : Token) : Type 0 where
  pub begins : Begins r
  pub value : ℕ
  pub longest : Longest r x.length x.kind value
  pub small : value ≤ greatest
  pub has_value : x.value ≡ pos value

-- After the last token stands a gap, to the end of the source or to the fault.
abbrev pub Stops : ℕ → ℕ → List ℕ → Fault → Type 0
Stops room p t none = (q : ℕ) × Gap p t q []
Stops room p t (fault number q) = (u : List ℕ) × Gap p t q u × Faulty room u number

-- What is left of a source, t from the place p on, reads as these tokens and this fault: a gap, then the longest token, and
-- so on, with room for so many tokens.
abbrev pub Reads : ℕ → ℕ → List ℕ → List Token → Fault → Type 0
Reads room p t [] f = Stops room p t f
Reads zero p t (x ∷ xs) f = ⊥
Reads (suc room) p t (x ∷ xs) f = (u : List ℕ) × Gap p t x.place u × TokenHere u x × Reads room (x.place + x.length) (drop x.length u) xs f

-- The tokens stand in order, without overlap, inside a source of n bytes.
abbrev pub Ordered : ℕ → ℕ → List Token → Type 0
Ordered p n [] = p ≤ n
Ordered p n (x ∷ xs) = (p ≤ x.place) × (0 < x.length) × Ordered (x.place + x.length) n xs

-- A source reads as exactly one list of tokens with one fault or none: those of its reading.
pub record Decided (s : List ℕ) : Type 0 where
  pub reads : Reads token_limit 0 s (reading s).tokens (reading s).fault
  pub only : (ts : List Token) (f : Fault) → Reads token_limit 0 s ts f → (ts ≡ (reading s).tokens) × (f ≡ (reading s).fault)
  pub ordered : Ordered 0 (length s) (reading s).tokens
