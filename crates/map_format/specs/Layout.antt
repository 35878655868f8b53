-- That rows and columns are where a reader of the text sees them.
use Rattle.std.specs.Prelude.{◌≡◌, ℕ, ◌+◌, ◌-◌, ◌<◌, ◌≤◌, false, ◌⊎◌, List, length, slice_index, slice_index_or}
use Rattle.board.specs.Squares.{Megacell}
use Rattle.map_format.specs.declared.drawing.Drawing.{Drawing}
use Rattle.map_format.specs.Rows.{width, row_at, bad_row}
use Rattle.map_format.specs.Cells.{cell_in, cell_at}

-- a row begins at the map's first byte, and after each LF
abbrev pub Begins : List ℕ → ℕ → Type 0
Begins m o = (o ≡ 0) ⊎ ((0 < o) × (slice_index m (o - 1) ≡ 10))

-- where no row before row k is bad, rows 0 to k begin at their `row_at`, and no other row begins before
abbrev pub RowsLie : Type 0
RowsLie =
    (m : List ℕ) (k : ℕ) → ((j : ℕ) → j < k → bad_row m j ≡ false) → row_at m k ≤ length m
    → ((j : ℕ) → j ≤ k → Begins m (row_at m j)) × ((o : ℕ) → o ≤ row_at m k → Begins m o → (j : ℕ) × (j ≤ k) × (o ≡ row_at m j))

-- A drawing lies on its map: the byte in the start's row and column is the S, and the only one; and each of the 1,024
-- megacells is what the byte in its row and column draws.
pub record LiesOn (m : List ℕ) (d : Drawing) : Type 0 where
  pub start_column : d.start.column < width m
  pub start_byte : slice_index_or m (row_at m d.start.row + d.start.column) 0 ≡ 83
  pub only_start : (o : ℕ) → o < length m → slice_index m o ≡ 83 → o ≡ row_at m d.start.row + d.start.column
  pub each : (n : Megacell) → cell_at d n ≡ cell_in m (width m) n.row n.column
