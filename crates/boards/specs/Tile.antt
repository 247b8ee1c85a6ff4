-- A picture of grey values, a byte each: tiles of 16 x 16 bytes, row by row, in lines of 16 bytes for each column of tiles.
use Rattle.std.specs.Prelude.{ℕ, ◌+◌, ◌*◌, ◌/◌, ◌%◌, List, ℤ, pos, slice_index}
use Rattle.boards.specs.Table.{table, sum_of}

-- where a byte of the picture stands: the lines follow each other
abbrev pub pixel_at : (columns line at : ℕ) → ℕ
pixel_at columns line at = line * (16 * columns) + at

-- where byte x of line y of tile i stands
abbrev pub tile_pixel : (columns i y x : ℕ) → ℕ
tile_pixel columns i y x = pixel_at columns (16 * (i / columns) + y) (16 * (i % columns) + x)

-- the sum of line y of tile i, 16 bytes
abbrev pub line_sum : List ℕ → (columns i y : ℕ) → ℕ
line_sum bytes columns i y = sum_of 16 (λ x. slice_index bytes (tile_pixel columns i y x))

-- the sum of tile i, 16 lines
abbrev pub tile_sum : List ℕ → (columns i : ℕ) → ℕ
tile_sum bytes columns i = sum_of 16 (line_sum bytes columns i)

-- the mean of tile i, fraction dropped
abbrev pub tile_mean : List ℕ → (columns i : ℕ) → ℤ
tile_mean bytes columns i = pos (tile_sum bytes columns i / 256)

-- the zones of a frame: a mean for each tile
abbrev pub frame_zones : List ℕ → (columns rows : ℕ) → List ℤ
frame_zones bytes columns rows = table (columns * rows) (tile_mean bytes columns)
