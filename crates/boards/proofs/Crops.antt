-- What crops show. Assumes nothing.
use Rattle.std.proofs.Common.{◌≡◌, ℕ, ◌+◌, ◌*◌, ◌/◌, ◌%◌, ◌^◌, ◌<◌, ◌≤◌, true, List, length, ℤ, pos, negsuc, Some, None, refl, ap, ◌∙◌, ⊎_elim, mul_comm, arith}
use Rattle.std.proofs.lemmas.Nat.{mul-le, mul-add-lt, div-mul-add, mod-mul-add, div_below, mod_below}
use Rattle.std.proofs.lemmas.List.{get_or_past}
use Rattle.std.proofs.lemmas.Bool.{cases_lt, lt-ltb, le-ltb}
use Rattle.std.proofs.lemmas.Bool.Decides.{nat_tests}
use Rattle.refusal.specs.Told.{accepted, refused}
use Rattle.boards.specs.Meaning.{Meaning, zone_answer}
use Rattle.boards.specs.Crop.{place_of, numbered, zone_or0, cropped, lies_in, ShowsSound, joined, CropOfCrop}
use Rattle.boards.specs.declared.window.Window.{Window}
use Rattle.boards.proofs.Tables.{length-table, get_or-table, table_same}

-- what it is to lie inside
record Inside (w : Window) (columns rows : ℕ) : Type 0 where
  wide : 1 ≤ w.columns
  high : 1 ≤ w.rows
  across : w.left + w.columns ≤ columns
  down : w.top + w.rows ≤ rows

inside : (w : Window) (c r : ℕ) → lies_in w c r ≡ true → Inside w c r
inside w c r e = record {
  wide = grind (arith, nat_tests);
  high = grind (arith, nat_tests);
  across = grind (arith, nat_tests);
  down = grind (arith, nat_tests);
}

-- the row and the column that zone i of a window has on a board
module _ (w : Window) (c r : ℕ) (h : Inside w c r) (i : ℕ) (shown : i < w.columns * w.rows) where
  row_below : w.top + i / w.columns < r
  row_below =
      omega (arith, h.down, div_below i w.columns w.rows (omega (arith, h.wide)) (omega (arith, mul_comm w.columns w.rows)))

  column_below : w.left + i % w.columns < c
  column_below = omega (arith, h.across, mod_below i w.columns (omega (arith, h.wide)))

  -- a window that lies inside shows zones that are there
  place_below : place_of w c i < c * r
  place_below = omega (arith, mul-add-lt (w.top + i / w.columns) c (w.left + i % w.columns) r row_below column_below)

-- the place of row a and column b, taken apart again on a board that is c wide
re_placed : (p a b c top left wide : ℕ) → p ≡ a * c + b → b < c →
    (top + p / c) * wide + left + p % c ≡ (top + a) * wide + left + b
re_placed p a b c top left wide e h =
    let q : p / c ≡ a = rw e (div-mul-add a c b h) in
    let r : p % c ≡ b = rw e (mod-mul-add a c b h) in
    rw (q, r) refl

-- zone i of the inner window, by its place on what the outer one shows
module _ (m : Meaning) (v w : Window) (outer : Inside v m.columns m.rows) (inner : Inside w v.columns v.rows)
    (i : ℕ) (shown : i < w.columns * w.rows) where
  place_joined : place_of v m.columns (place_of w v.columns i) ≡ place_of (joined v w) m.columns i
  place_joined =
      let row = w.top + i / w.columns in
      re_placed (place_of w v.columns i) row (w.left + i % w.columns) v.columns v.top v.left m.columns
      (omega arith) (column_below w v.columns v.rows inner i shown)
      ∙ (let e : v.top + row ≡ v.top + w.top + i / w.columns = omega arith in rw e (omega arith))

  -- no part is wider than the board, so a place without a number there has none here
  place_grows : place_of w v.columns i ≤ place_of (joined v w) m.columns i
  place_grows =
      let more = mul-le (w.top + i / w.columns) v.columns (v.top + w.top + i / w.columns) m.columns
      (omega arith) (omega (arith, outer.across)) in
      omega (arith, more)

  zone_joined : zone_or0 (cropped m v) (place_of w v.columns i) ≡ zone_or0 m (place_of (joined v w) m.columns i)
  zone_joined =
      let here = get_or-table (v.columns * v.rows) (λ j. zone_or0 m (place_of v m.columns j)) (place_of w v.columns i) (pos 0)
      (place_below w v.columns v.rows inner i shown) in
      ⊎_elim
      (λ (l : place_of w v.columns i < 2 ^ 31). rw (lt-ltb (place_of w v.columns i) (2 ^ 31) l) (here ∙ ap (zone_or0 m) place_joined))
      (λ (l : 2 ^ 31 ≤ place_of w v.columns i).
      let far : 2 ^ 31 ≤ place_of (joined v w) m.columns i = omega (arith, place_grows) in
      rw (le-ltb (place_of w v.columns i) (2 ^ 31) l, le-ltb (place_of (joined v w) m.columns i) (2 ^ 31) far) refl)
      (cases_lt (place_of w v.columns i) (2 ^ 31))

-- zone by zone
pub crop_of_crop : (v w : Window) → CropOfCrop v w
crop_of_crop v w m p q =
    let outer = inside v m.columns m.rows p in
    let inner = inside w v.columns v.rows q in
    let same = table_same (w.columns * w.rows) _ _ (zone_joined m v w outer inner) in
    ap (λ (zs : List ℤ). record { columns = w.columns; rows = w.rows; zones = zs; reports = m.reports; allowance = m.allowance }) same

-- what a crop answers from what the board below does
module _ (m : Meaning) (p : ℕ) where
  pub zone_unnumbered : None ≡ numbered p → pos 0 ≡ zone_or0 m p
  zone_unnumbered e = grind (arith, nat_tests)

  pub zone_below : (at v : ℤ) → Some at ≡ numbered p → accepted v ≡ zone_answer m at → v ≡ zone_or0 m p
  zone_below (pos k) v e z = grind (arith, nat_tests)
  zone_below (negsuc k) v e z = grind (arith, nat_tests)

  pub zone_absent : (at : ℤ) (number place : ℕ) → Some at ≡ numbered p →
      refused number place ≡ zone_answer m at → pos 0 ≡ zone_or0 m p
  zone_absent (pos k) number place e z = grind (arith, nat_tests, get_or_past)
  zone_absent (negsuc k) number place e z = grind (arith, nat_tests)

-- a crop that lies inside a sound board
module _ (m : Meaning) (w : Window) (lies : lies_in w m.columns m.rows ≡ true) where
  pub shows_sound : ShowsSound m w
  shows_sound =
      let h = inside w m.columns m.rows lies in
      record {
        sound = λ s. record {
          columns_least = h.wide;
          columns_most = omega (arith, h.across, s.columns_most);
          rows_least = h.high;
          rows_most = omega (arith, h.down, s.rows_most);
          zoned = length-table _ _;
          allowance_most = s.allowance_most;
          reports_most = s.reports_most;
        };
        shown = λ s i l.
            let there : place_of w m.columns i < length m.zones = rw s.zoned (place_below w m.columns m.rows h i l) in
            let small : place_of w m.columns i < 2 ^ 31
            = omega (arith, mul-le m.columns m.rows 64 64 s.columns_most s.rows_most, s.zoned) in
            grind (arith, nat_tests, length-table, get_or-table);
      }
