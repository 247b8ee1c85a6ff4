-- A crop: the part of a board that a window shows.
use Rattle.std.specs.Prelude.{◌≡◌, ℕ, ◌+◌, ◌*◌, ◌/◌, ◌%◌, ◌^◌, ◌<◌, Bool, true, cond, ◌&&◌, List, ◌++◌, codes, ℤ, pos, Some, None, Ok, Err, Option, Result, nat_le, nat_lt, slice_index_or}
use Rattle.std.specs.Fmt.{decimal}
use Rattle.refusal.specs.Told.{Told, accepted, refused, number_of}
use Rattle.boards.specs.Meaning.{Meaning, Sound, zone_answer}
use Rattle.boards.specs.Table.{table}
use Rattle.boards.specs.declared.crop.Crop.{Crop}
use Rattle.boards.specs.declared.crop.RefusedCrop.{RefusedCrop}
use Rattle.boards.specs.declared.window.Window.{Window}

-- what is printed of a window: its sides, and where it begins
abbrev pub text_of : Window → List ℕ
text_of w =
    decimal w.columns ++ codes " x " ++ decimal w.rows ++ codes " at (" ++ decimal w.left ++ codes ", " ++ decimal w.top ++ codes ")"

-- where zone i of a window stands on a board with so many columns
abbrev pub place_of : Window → (across i : ℕ) → ℕ
place_of w across i = (w.top + i / w.columns) * across + w.left + i % w.columns

-- a place as the number of a zone: an int, so there is none from 2 ^ 31 on
abbrev pub numbered : ℕ → Option ℤ
numbered p = cond (nat_lt p (2 ^ 31)) (Some (pos p)) None

-- the zone at a place, or 0 where the board has none of such a number
abbrev pub zone_or0 : Meaning → ℕ → ℤ
zone_or0 m p = cond (nat_lt p (2 ^ 31)) (slice_index_or m.zones p (pos 0)) (pos 0)

-- what a window shows of a board: its part of the zones, and the board's own reports and allowance
abbrev pub cropped : Meaning → Window → Meaning
cropped m w = record {
  columns = w.columns;
  rows = w.rows;
  zones = table (w.columns * w.rows) (λ i. zone_or0 m (place_of w m.columns i));
  reports = m.reports;
  allowance = m.allowance;
}

-- whether a window has no side under 1 and does not reach outside so many columns and rows
abbrev pub lies_in : Window → (columns rows : ℕ) → Bool
lies_in w c r = nat_le 1 w.columns && nat_le 1 w.rows && nat_le (w.left + w.columns) c && nat_le (w.top + w.rows) r

-- making a crop: 27 where the window does not lie inside the board
abbrev pub crop_answer : Meaning → Window → Told (Unit {0})
crop_answer m w = cond (lies_in w m.columns m.rows) (accepted tt) (refused 27 0)

-- on a sound board a crop is sound, and each of its zones is the board's at its place
pub record ShowsSound (m : Meaning) (w : Window) : Type 0 where
  pub sound : Sound m → Sound (cropped m w)
  pub shown : Sound m → (i : ℕ) → i < w.columns * w.rows →
      zone_answer (cropped m w) (pos i) ≡ zone_answer m (pos (place_of w m.columns i))

-- the meaning of a crop that stands on a board
abbrev pub crop_meaning : {B : Type 0} → (B → Meaning) → Crop B → Meaning
crop_meaning meaning s = cropped (meaning s.lower) s.window

-- what a call on a crop does to the board below, the window staying as it is
pub record Lower {B : Type 0} (meaning : B → Meaning) (before after : Crop B) (does : Meaning → Meaning) : Type 0 where
  pub lower : meaning after.lower ≡ does (meaning before.lower)
  pub window : after.window ≡ before.window

-- a crop was made, or the board comes back with the refusal
abbrev pub Cropping : {B : Type 0} → (B → Meaning) → B → Window → Result (Crop B) (RefusedCrop B) → Type 0
Cropping meaning lower w (Ok s) =
    (crop_answer (meaning lower) w ≡ accepted tt) × (crop_meaning meaning s ≡ cropped (meaning lower) w)
    × (s.lower ≡ lower) × (s.window ≡ w) × ShowsSound (meaning lower) w
Cropping meaning lower w (Err e) =
    (crop_answer (meaning lower) w ≡ refused (number_of e.refusal.reason) e.refusal.place) × (e.lower ≡ lower)

-- a window on what the outer window shows, as a window on the board itself: at the sums of the offsets
abbrev pub joined : (outer inner : Window) → Window
joined v w = record { left = v.left + w.left; top = v.top + w.top; columns = w.columns; rows = w.rows }

-- that window, where its offsets fit their type
abbrev pub joined_answer : (outer inner : Window) → Option Window
joined_answer v w = cond (nat_lt (v.left + w.left) (2 ^ 32) && nat_lt (v.top + w.top) (2 ^ 32)) (Some (joined v w)) None

-- a crop of a crop is one crop at the sums of the offsets, whatever the board, where the windows lie inside
abbrev pub CropOfCrop : (outer inner : Window) → Type 0
CropOfCrop v w = (m : Meaning) →
    lies_in v m.columns m.rows ≡ true → lies_in w v.columns v.rows ≡ true →
    cropped (cropped m v) w ≡ cropped m (joined v w)
