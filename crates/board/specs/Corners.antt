-- Each megacell has four corners, its subcells, and each corner an exit: a heading of its own.
use Rattle.std.specs.Prelude.{ℕ, ◌+◌, ◌*◌, ◌%◌, ◌<◌, Bool, true, false, ◌==◌}
use Rattle.std.proofs.Common.{arith}
use Rattle.board.specs.declared.heading.Heading.{Heading}
use Rattle.board.specs.declared.heading.Heading.TheVariants.{North, East, South, West}
use Rattle.board.specs.declared.corner.Corner.{Corner}
use Rattle.board.specs.declared.corner.Corner.TheVariants.{NorthWest, NorthEast, SouthEast, SouthWest}
use Rattle.board.specs.Squares.{Megacell, Place}

unfoldable pub exit_of : Corner → Heading
exit_of NorthWest = West
exit_of NorthEast = North
exit_of SouthEast = East
exit_of SouthWest = South

-- by whether the row, and whether the column, is the first of the megacell's two
unfoldable pub corner_by : Bool → Bool → Corner
corner_by true true = NorthWest
corner_by true false = NorthEast
corner_by false false = SouthEast
corner_by false true = SouthWest

-- which subcell of its megacell a place is
unfoldable pub corner_of : Place → Corner
corner_of p = corner_by (p.row % 2 == 0) (p.column % 2 == 0)

-- the heading by which a subcell leaves its megacell
unfoldable pub exit : Place → Heading
exit p = exit_of (corner_of p)

pub first_of_two : (n : ℕ) → n < 32 → 2 * n < 64
first_of_two n h = omega arith

pub second_of_two : (n : ℕ) → n < 32 → 2 * n + 1 < 64
second_of_two n h = omega arith

-- the subcell of a megacell that has a given exit
unfoldable pub subcell : Megacell → Heading → Place
subcell m North = record { row = 2 * m.row; column = 2 * m.column + 1; rows = first_of_two _ m.rows; columns = second_of_two _ m.columns }
subcell m East = record { row = 2 * m.row + 1; column = 2 * m.column + 1; rows = second_of_two _ m.rows; columns = second_of_two _ m.columns }
subcell m South = record { row = 2 * m.row + 1; column = 2 * m.column; rows = second_of_two _ m.rows; columns = first_of_two _ m.columns }
subcell m West = record { row = 2 * m.row; column = 2 * m.column; rows = first_of_two _ m.rows; columns = first_of_two _ m.columns }
