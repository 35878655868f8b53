-- What the bytes of a map draw.
use Rattle.std.specs.Prelude.{ℕ, ◌+◌, ◌-◌, ◌*◌, ◌/◌, ◌%◌, ◌<◌, ◌≤◌, Bool, true, false, cond, ◌&&◌, T, List, map, length, Some, None, Option, ◌==◌, nat_le, nat_lt, slice_index, slice_index_or}
use Rattle.std.proofs.Common.{arith, leb→le}
use Rattle.std.specs.List.{range_with_len}
use Rattle.board.specs.Squares.{Megacell, number_of, celled}
use Rattle.map_format.specs.declared.digit.Digit.{Digit}
use Rattle.map_format.specs.declared.cell.Cell.{Cell}
use Rattle.map_format.specs.declared.cell.Cell.TheVariants.{Blocked, Free, Lamp}
use Rattle.map_format.specs.declared.drawing.Drawing.{Drawing}

pub from_zero : (b : ℕ) → b ≤ 57 → b - 48 < 10
from_zero b h = omega arith

abbrev pub digit_by : (b : ℕ) (a c : Bool) → (T c → b - 48 < 10) → Option Digit
digit_by b true true h = Some (record { value = b - 48; small = h tt })
digit_by b true false h = None
digit_by b false c h = None

-- the digit that a byte is: 48 to 57 are 0 to 9
unfoldable pub digit_of : ℕ → Option Digit
digit_of b = digit_by b (nat_le 48 b) (nat_le b 57) (λ t. from_zero b (leb→le b 57 t))

abbrev pub cell_by : Bool → Option Digit → Cell
cell_by true digit = Blocked
cell_by false (Some digit) = Lamp digit
cell_by false None = Free

-- what a byte draws
abbrev pub cell_of : ℕ → Cell
cell_of b = cell_by (b == 35) (digit_of b)

-- the cell in a row and a column, where rows have the width w: what its byte draws, and blocked outside the map
abbrev pub cell_in : List ℕ → ℕ → ℕ → ℕ → Cell
cell_in m w r c = cond (nat_lt c w && nat_lt (r * (w + 1) + c) (length m)) (cell_of (slice_index m (r * (w + 1) + c))) Blocked

-- what a function gives at 0, 1 and so on, n in all
unfoldable pub tabled : (ℕ → Cell) → ℕ → List Cell
tabled f n = map f (range_with_len 0 n)

-- the cells of a board over which a map of rows of width w is laid: megacell (R, C) is cell 32 R + C
abbrev pub cells_of : List ℕ → ℕ → List Cell
cells_of m w = tabled (λ i. cell_in m w (i / 32) (i % 32)) 1024

-- what a drawing has at a megacell
abbrev pub cell_at : Drawing → Megacell → Cell
cell_at d m = slice_index_or d.cells.entries (number_of m) Blocked

pub north_west : Megacell
north_west = record { row = 0; column = 0; rows = omega arith; columns = omega arith }

abbrev pub or_north_west : Option Megacell → Megacell
or_north_west (Some m) = m
or_north_west None = north_west

-- the megacell at two numbers. An accepted map has its start below 32 and 32 (Layout.antt); elsewhere any megacell would do.
unfoldable pub megacell_at : ℕ → ℕ → Megacell
megacell_at row column = or_north_west (celled row column)
