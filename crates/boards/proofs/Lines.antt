-- Runs of bytes of a list, cut off at the list's end, and the lines of a picture's tiles. Assumes nothing.
use Rattle.std.proofs.Common.{◌≡◌, ℕ, ◌+◌, ◌-◌, ◌<◌, ◌≤◌, min, length, sum, List, map, get_or, take, drop, ap, ◌∙◌, arith, length-drop, length-take, get_or-drop, get_or-take}
use Rattle.std.proofs.lemmas.List.{map-id, drop_min, get_or_past}
use Rattle.boards.specs.Table.{sum_of}
use Rattle.boards.specs.Tile.{tile_pixel, line_sum}
use Rattle.boards.proofs.Tables.{sum-take, sum_of-past, sum_of_same}

module _ (bytes : List ℕ) (start from size i : ℕ) (cut : from ≡ min start (length bytes)) where
  -- within the run it is the list, from its start on
  pub run_at : i < length (take size (drop from bytes)) → get_or (take size (drop from bytes)) i 0 ≡ get_or bytes (start + i) 0
  run_at h =
      let l : i < min size (length bytes - from) = simp (length-take, length-drop) at h in
      let short : i < size = omega arith in
      let e : from ≡ start = omega arith in
      get_or-take size (drop from bytes) i 0 short ∙ get_or-drop from bytes i 0 ∙ ap (λ (k : ℕ). get_or bytes (k + i) 0) e

  -- past a run that was cut off there is nothing
  pub run_all_lem : size ≡ min (length bytes - from) 16 → length (take size (drop from bytes)) ≤ i → i ≤ size →
      sum_of i (λ x. get_or bytes (start + x) 0) ≡ sum_of 16 (λ x. get_or bytes (start + x) 0)
  run_all_lem s h k =
      let l : min size (length bytes - from) ≤ i = simp (length-take, length-drop) at h in
      sum_of-past i 16 (λ x. get_or bytes (start + x) 0) (omega arith)
      (λ j a b. get_or_past bytes (start + j) 0 (omega arith))

-- the run of a tile's line
pub line_is : (bytes : List ℕ) (columns i y : ℕ) →
    sum_of 16 (λ x. get_or bytes (tile_pixel columns i y 0 + x) 0) ≡ line_sum bytes columns i y
line_is bytes columns i y = sum_of_same 16 _ _ (λ x l. ap (λ (k : ℕ). get_or bytes k 0) (omega arith))

-- the 16 bytes from where a tile's line begins, or from the end of a list that ends before it
pub sum-line : (bytes : List ℕ) (columns i y from : ℕ) → from ≡ min (tile_pixel columns i y 0) (length bytes) →
    sum (map (λ x. x) (take 16 (drop from bytes))) ≡ line_sum bytes columns i y
sum-line bytes columns i y from e =
    let start = tile_pixel columns i y 0 in
    rw e (rw drop_min (rw map-id (sum-take 16 (drop start bytes)
    ∙ sum_of_same 16 _ _ (λ x l. get_or-drop start bytes x 0 ∙ ap (λ (k : ℕ). get_or bytes k 0) (omega arith)))))
