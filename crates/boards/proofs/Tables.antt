-- Lists and sums given by a function of the number. Assumes nothing.
use Rattle.std.proofs.Common.{◌≡◌, ℕ, zero, suc, ◌+◌, ◌<◌, ◌≤◌, List, [], ◌∷◌, map, Some, None, sum, length, get_or, take, sym, refl, ap, ◌∙◌, ⊎_elim, zero-add, add-zero, add-one, arith}
use Rattle.std.specs.List.{range_with_len, slice_get}
use Rattle.std.proofs.lemmas.Option.{slice_get-get_or, slice_get_past}
use Rattle.std.proofs.lemmas.List.FromFn.{length-map-range_with_len, get_or-map-range_with_len, sum_by-map-range_with_len_more}
use Rattle.std.proofs.lemmas.List.{same_lists}
use Rattle.std.proofs.lemmas.Bool.{cases_lt}
use Rattle.std.proofs.lemmas.List.Sums.{sum_by-cons}
use Rattle.std.proofs.Math.Seq.{take-nil}
use Rattle.boards.specs.Table.{table, sum_of}

pub length-table : {X : Type 0} (n : ℕ) (f : ℕ → X) → length (table n f) ≡ n
unfolding table
length-table n f = length-map-range_with_len f 0 n

pub get_or-table : {X : Type 0} (n : ℕ) (f : ℕ → X) (i : ℕ) (d : X) → i < n → get_or (table n f) i d ≡ f i
unfolding table
get_or-table n f i d h = get_or-map-range_with_len f 0 n i i d h (omega arith)

module _ {X : Type 0} (n : ℕ) (f : ℕ → X) (k : ℕ) where
  pub slice_get-table : (d : X) → k < n → slice_get (table n f) k ≡ Some (f k)
  slice_get-table d h = slice_get-get_or (table n f) k d (rw length-table h) ∙ ap Some (get_or-table n f k d h)

  pub slice_get-table_past : n ≤ k → slice_get (table n f) k ≡ None
  slice_get-table_past h = slice_get_past (table n f) k (rw length-table h)

pub table_same : {X : Type 0} (n : ℕ) (f g : ℕ → X) → ((i : ℕ) → i < n → f i ≡ g i) → table n f ≡ table n g
table_same n f g e =
    same_lists _ _ (length-table n f ∙ sym (length-table n g))
    (λ k d h. let l : k < n = rw length-table at h in get_or-table n f k d l ∙ e k l ∙ sym (get_or-table n g k d l))

-- one more
pub sum_of_more : (n : ℕ) (f : ℕ → ℕ) → sum_of (n + 1) f ≡ sum_of n f + f n
unfolding table sum_of
sum_of_more n f = sum_by-map-range_with_len_more (λ v. v) f 0 n n (rw zero-add refl)

pub sum_of-none : (f : ℕ → ℕ) → sum_of 0 f ≡ 0
unfolding table sum_of
sum_of-none f = refl

-- what is 0 from n on adds nothing from n on
pub sum_of-past : (n m : ℕ) (f : ℕ → ℕ) → n ≤ m → ((k : ℕ) → n ≤ k → k < m → f k ≡ 0) → sum_of n f ≡ sum_of m f
sum_of-past n zero f h z = let e : n ≡ 0 = omega arith in rw e refl
sum_of-past n (suc m) f h z =
    ⊎_elim
    (λ l.
    let e : f m ≡ 0 = z m (omega arith) (omega arith) in
    let more : sum_of (suc m) f ≡ sum_of m f + f m = rw add-one at (sum_of_more m f) in
    sum_of-past n m f (omega arith) (λ k a b. z k a (omega arith)) ∙ omega (arith, e, more))
    (λ l. let e : n ≡ suc m = omega arith in rw e refl)
    (cases_lt n (suc m))

pub sum_of_same : (n : ℕ) (f g : ℕ → ℕ) → ((k : ℕ) → k < n → f k ≡ g k) → sum_of n f ≡ sum_of n g
unfolding sum_of
sum_of_same n f g e = ap sum (table_same n f g e)

-- the first n of a list add up to the sum of its first n places, 0 past its end
sum_run : (n a : ℕ) (xs : List ℕ) (f : ℕ → ℕ) → ((k : ℕ) → f (a + k) ≡ get_or xs k 0) →
    sum (take n xs) ≡ sum (map f (range_with_len a n))
sum_run zero a xs f e = refl
sum_run (suc n) a [] f e =
    let here : f a ≡ 0 = rw add-zero at (e 0) in
    let rest : 0 ≡ sum (map f (range_with_len (a + 1) n)) = rw take-nil at (sum_run n (a + 1) [] f (λ k. let k' : a + 1 + k ≡ a + (k + 1) = omega arith in rw k' (e (k + 1)))) in
    rw sum_by-cons (omega (arith, here, rest))
sum_run (suc n) a (x ∷ xs) f e =
    let here : f a ≡ x = rw add-zero at (e 0) in
    let rest = sum_run n (a + 1) xs f (λ k. let k' : a + 1 + k ≡ a + suc k = omega arith in rw k' (e (suc k))) in
    sum_by-cons (λ v. v) x (take n xs) ∙ (omega (arith, here, rest, sum_by-cons (λ v. v) (f a) (map f (range_with_len (a + 1) n))))

pub sum-take : (n : ℕ) (xs : List ℕ) → sum (take n xs) ≡ sum_of n (λ k. get_or xs k 0)
unfolding table sum_of
sum-take n xs = sum_run n 0 xs (λ k. get_or xs k 0) (λ k. rw zero-add refl)

pub sum-table : (n : ℕ) (f : ℕ → ℕ) → sum (map f (range_with_len 0 n)) ≡ sum_of n f
unfolding table sum_of
sum-table n f = refl
