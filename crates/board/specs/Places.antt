-- A megacell is two by two places.
use Rattle.std.specs.Prelude.{ℕ, ◌/◌, ◌<◌}
use Rattle.std.proofs.Common.{arith}
use Rattle.board.specs.Squares.{Megacell, Place, number_of}

pub half : (n : ℕ) → n < 64 → n / 2 < 32
half n h = omega arith

-- the megacell that a place lies in: megacell (R, C) has the rows 2R and 2R+1 and the columns 2C and 2C+1
unfoldable pub megacell_of : Place → Megacell
megacell_of p = record { row = p.row / 2; column = p.column / 2; rows = half p.row p.rows; columns = half p.column p.columns }

-- the slot of a place among the 4,096 of a chart
abbrev pub slot_of : Place → ℕ
slot_of = number_of
