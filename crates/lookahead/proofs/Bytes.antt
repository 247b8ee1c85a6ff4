-- The bytes of a name in the source.
use Rattle.std.proofs.Common.{◌≡◌, ℕ, suc, ◌+◌, ◌-◌, ◌<◌, ◌≤◌, min, Bool, true, List, ◌∷◌, length, get_or, take, drop, Decides, sym, refl, ap, ◌∙◌, arith, length-drop, drop_of_length-le, take_all, drop-cons}
use native.Mathlib.Decide.{dec_le}
use Rattle.std.proofs.lemmas.Slice.Eq.{bytes_eq-Decides}
use Rattle.std.proofs.lemmas.Bool.Decides.{same_from_decides}
use Rattle.std.specs.Str.{bytes_eq}
use Rattle.lexer.specs.declared.kind.Kind.TheVariants as Kinds
use Rattle.lexer.specs.declared.kind.Token.{Token}
use Rattle.meaning.specs.Written.{main_name}
use Rattle.lookahead.specs.Seen.{kind_of, is_kind, seen, main_first, is_main}
use Rattle.lookahead.proofs.Tags.{seen_at}

-- as many as there are
take_min : (n : ℕ) (ys : List ℕ) (b : ℕ) → b ≡ min n (length ys) → take b ys ≡ take n ys
take_min n ys b e =
    elim (dec_le n (length ys)) [
      | yes h ↦ let z : b ≡ n = omega arith in ap (λ (x : ℕ). take x ys) z
      | no h ↦ let l : length ys ≤ b = omega arith in let m : length ys ≤ n = omega arith in take_all b ys l ∙ sym (take_all n ys m)
    ]

pub part_is : (xs : List ℕ) (place count a b : ℕ) → a ≡ min place (length xs) → b ≡ a + min count (length xs - a) → take (b - a) (drop a xs) ≡ take count (drop place xs)
part_is xs place count a b e f =
    let s : b - a ≡ min count (length xs - a) = omega arith in
    let m = take_min count (drop a xs) (min count (length xs - a)) (ap (min count) (sym (length-drop a xs))) in
    elim (dec_le place (length xs)) [
      | yes h ↦ let z : a ≡ place = omega arith in rw s (m ∙ ap (λ (x : ℕ). take count (drop x xs)) z)
      | no h ↦
          let l : length xs ≤ a = omega arith in let n : length xs ≤ place = omega arith in
          rw s (m ∙ ap (take count) (drop_of_length-le xs l ∙ sym (drop_of_length-le xs n)))
    ]

named_first : (s : List ℕ) (t : Token) (ts : List Token) → is_kind (kind_of t) Kinds.Name ≡ true → bytes_eq (take t.length (drop t.place s)) main_name ≡ main_first s (t ∷ ts)
named_first s t ts h = rw h refl

pub main_is : (s : List ℕ) (ts : List Token) (i : ℕ) (d : Token) → i < length ts → is_kind (seen ts i) Kinds.Name ≡ true → (r : Bool)
    → Decides r (take (get_or ts i d).length (drop (get_or ts i d).place s) ≡ main_name) → r ≡ is_main s ts i
main_is s ts i d l h r p =
    same_from_decides r _ p (bytes_eq-Decides (take (get_or ts i d).length (drop (get_or ts i d).place s)) main_name)
    ∙ named_first s (get_or ts i d) (drop (suc i) ts) (rw (seen_at ts i d l) h) ∙ ap (main_first s) (sym (drop-cons ts i d l))
