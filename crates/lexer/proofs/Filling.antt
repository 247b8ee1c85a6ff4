-- The token list while it is filled: its first records and what is still to be read are the whole reading.
use Rattle.std.proofs.Common.{◌≡◌, ℕ, zero, suc, ◌+◌, ◌-◌, ◌<◌, ◌≤◌, Bool, true, false, cond, ltb, List, [], ◌∷◌, ◌++◌, length, get_or, take, drop, set, None, sym, refl, ap, ◌∙◌, le_of_suc-le-suc, not-suc-le-zero, arith}
use Rattle.std.proofs.lemmas.List.{drop-set-lt, drop-drop, length-take-le, take-append-drop}
use Rattle.std.proofs.lemmas.Bool.{ltb-true, ltb-false}
use Rattle.refusal.specs.Told.{Told, accepted, refused}
use Rattle.lexer.specs.declared.kind.Token.{Token}
use Rattle.lexer.specs.declared.reader.Reader.{Reader}
use Rattle.lexer.specs.declared.reader.State.TheVariants.{Code}
use Rattle.lexer.specs.Reading.{Reading, reading_from, reading, written, text_of, text_at}
use Rattle.lexer.specs.Scans.{ahead, stored_told, stored_list}

-- tokens before a reading
abbrev pub prefixed : List Token → Reading → Reading
prefixed ts r = record { tokens = ts ++ r.tokens; fault = r.fault }

-- the records so far, and what the reader has yet to read, are the whole; the further records are as they were first
pub record Filling (s : List ℕ) (first list : List Token) (count : ℕ) (r : Reader) : Type 0 where
  pub source : r.source.now ≡ s
  pub few : count ≤ 1024
  pub whole : reading s ≡ prefixed (take count list) (ahead s r.at r.state (1024 - count))
  pub rest : drop count list ≡ drop count first

pub filling_none : (s : List ℕ) (list : List Token) (r : Reader) → r.source.now ≡ s → r.at ≡ 0 → r.state ≡ Code → Filling s list list 0 r
unfolding reading reading_from
filling_none s list r e p q =
    record {
      source = e;
      few = omega arith;
      whole = ap (λ n. ahead s n Code 1024) (sym p) ∙ ap (λ st. ahead s r.at st 1024) (sym q);
      rest = refl;
    }

-- the records that are not filled yet
pub rest_more : (list first : List Token) (count : ℕ) (x : Token) → drop count list ≡ drop count first → drop (count + 1) (set list count x) ≡ drop (count + 1) first
rest_more list first count x e =
    drop-set-lt (count + 1) list count x (omega arith) ∙ sym (drop-drop 1 count list) ∙ ap (drop 1) e ∙ drop-drop 1 count first

-- the list then
pub list_all : (list first : List Token) (count : ℕ) (ts : List Token) → ts ≡ take count list → count ≤ length list → drop count list ≡ drop count first → list ≡ written ts first
list_all list first count ts e h k =
    let size : length ts ≡ count = ap length e ∙ length-take-le count list h in
    sym (take-append-drop count list) ∙ ap (λ r. take count list ++ r) k ∙ ap (λ t. t ++ drop count first) (sym e) ∙ ap (λ n. ts ++ drop n first) (sym size)

-- the text of a record

pub text_past : (s : List ℕ) (list : List Token) (k : ℕ) → length list ≤ k → text_at s list k ≡ None
text_past s [] k h = refl
text_past s (x ∷ list) zero h = absurd (not-suc-le-zero h)
text_past s (x ∷ list) (suc k) h = text_past s list k (le_of_suc-le-suc h)

pub text_there : (s : List ℕ) (list : List Token) (k : ℕ) (d : Token) → k < length list → text_at s list k ≡ text_of s (get_or list k d)
text_there s [] k d h = absurd (not-suc-le-zero h)
text_there s (x ∷ list) zero d h = refl
text_there s (x ∷ list) (suc k) d h = text_there s list k d (le_of_suc-le-suc h)

-- what is known of the records after one more token

pub stored_full : (list : List Token) (count : ℕ) (x : Token) (n p : ℕ) → refused n p ≡ stored_told count x → (1024 ≤ count) × ◌≡◌ {A = Told ℕ} (refused n p) (refused 8 x.place) × (stored_list list count x ≡ list)
stored_full list count x n p e = go (ltb count 1024) refl e
  where
    go : (t : Bool) → ltb count 1024 ≡ t → refused n p ≡ cond t (accepted (count + 1)) (refused 8 x.place) → (1024 ≤ count) × ◌≡◌ {A = Told ℕ} (refused n p) (refused 8 x.place) × (cond t (set list count x) list ≡ list)
    go true f e = let z : ◌≡◌ {A = ℕ} 0 1 = cc in absurd (let b : ⊥ = omega arith in b)
    go false f e = (ltb-false count 1024 f, e, refl)

pub stored-room : (list : List Token) (count : ℕ) (x : Token) (m : ℕ) → accepted m ≡ stored_told count x → (count < 1024) × (m ≡ count + 1) × (stored_list list count x ≡ set list count x)
stored-room list count x m e = go (ltb count 1024) refl e
  where
    go : (t : Bool) → ltb count 1024 ≡ t → accepted m ≡ cond t (accepted (count + 1)) (refused 8 x.place) → (count < 1024) × (m ≡ count + 1) × (cond t (set list count x) list ≡ set list count x)
    go true f e = let w : m ≡ count + 1 = cc in (ltb-true count 1024 f, w, refl)
    go false f e = let z : ◌≡◌ {A = ℕ} 0 1 = cc in absurd (let b : ⊥ = omega arith in b)
