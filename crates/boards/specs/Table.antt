-- Lists and sums given by a function of the number.
use Rattle.std.specs.Prelude.{ℕ, List, map, sum}
use Rattle.std.specs.List.{range_with_len}

-- f 0, f 1, .. f (n - 1)
unfoldable pub table : {X : Type 0} → ℕ → (ℕ → X) → List X
table n f = map f (range_with_len 0 n)

-- f 0 + f 1 + .. + f (n - 1)
unfoldable pub sum_of : ℕ → (ℕ → ℕ) → ℕ
sum_of n f = sum (table n f)
