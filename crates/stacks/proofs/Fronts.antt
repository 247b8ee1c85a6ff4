-- The first n elements of a list, as a stack sees them.
use Rattle.std.proofs.Common.{◌≡◌, ℕ, ◌+◌, ◌-◌, ◌<◌, ◌≤◌, true, ltb, List, length, get_or, take, set, Some, None, sym, refl, ap, arith, lt-ltb}
use lib.Seq.{take-set-lt}
use Rattle.std.proofs.lemmas.List.{length-take-le, take_more_set, take-take, take_all, set_past, get_or-take, length-set}
use Rattle.std.proofs.lemmas.Option.{slice_get-get_or, slice_get_past}
use Rattle.std.specs.List.{slice_get}
use Rattle.stacks.specs.Held.{Held, holding, pushed, top, popped, cut, replaced}

module _ {X : Type 0} (xs : List X) (n : ℕ) (fits : n ≤ length xs) where
  -- a stack of n elements
  abbrev pub front : Held X
  front = holding (take n xs) (length xs)

  size : length (take n xs) ≡ n
  size = length-take-le n xs fits

  pub element_there : (i : ℕ) (x : X) → i < n → x ≡ get_or xs i x → Some x ≡ slice_get (take n xs) i
  element_there i x h e =
      let s = size in
      let a : slice_get (take n xs) i ≡ Some (get_or (take n xs) i x) = slice_get-get_or (take n xs) i x (omega arith) in
      let b = get_or-take n xs i x h in cc

  pub element_missing : (i : ℕ) → n ≤ i → None ≡ slice_get (take n xs) i
  element_missing i h = let s = size in sym (slice_get_past (take n xs) i (omega arith))

  pub one_more : (x : X) → n < length xs → holding (take (n + 1) (set xs n x)) (length (set xs n x)) ≡ pushed front x
  one_more x h =
      let s = size in
      let r : ltb (length (take n xs)) (length xs) ≡ true = lt-ltb _ _ (omega arith) in
      rw (r, length-set xs n x, take_more_set xs n x h) refl

  pub top-there : (d : X) → 0 < n → Some (get_or xs (n - 1) d) ≡ top front
  top-there d h =
      let s = size in
      let a : slice_get (take n xs) (n - 1) ≡ Some (get_or (take n xs) (n - 1) d) = slice_get-get_or (take n xs) (n - 1) d (omega arith) in
      let b = get_or-take n xs (n - 1) d (omega arith) in rw s (cc)

  pub one_less : holding (take (n - 1) xs) (length xs) ≡ popped front
  one_less = rw (size, take-take (n - 1) n xs (omega arith)) refl

  pub cut_short : (k : ℕ) → k < n → holding (take k xs) (length xs) ≡ cut k front
  cut_short k h = rw (take-take k n xs (omega arith)) refl

  pub uncut : (k : ℕ) → n ≤ k → front ≡ cut k front
  uncut k h = let s = size in ap (λ (ys : List X). holding ys (length xs)) (sym (take_all k (take n xs) (omega arith)))

  pub replaced-there : (i : ℕ) (x : X) → i < n → holding (take n (set xs i x)) (length (set xs i x)) ≡ replaced i x front
  replaced-there i x h = rw (length-set xs i x, take-set-lt n xs i x h) refl

  pub replaced_missing : (i : ℕ) (x : X) → n ≤ i → front ≡ replaced i x front
  replaced_missing i x h = let s = size in ap (λ (ys : List X). holding ys (length xs)) (sym (set_past (take n xs) i x (omega arith)))
