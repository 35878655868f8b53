-- What the mirror and the quarter turn do to places and headings.
use Rattle.std.specs.Prelude.{ℕ, zero, suc, ◌-◌, ◌<◌}
use Rattle.std.proofs.Common.{arith}
use Rattle.board.specs.declared.heading.Heading.{Heading}
use Rattle.board.specs.declared.heading.Heading.TheVariants.{North, East, South, West}
use Rattle.board.specs.Squares.{Place}

pub across : (n : ℕ) → 63 - n < 64
across n = omega arith

-- the mirror: the column counted from the other side
unfoldable pub mirrored : Place → Place
mirrored p = record { row = p.row; column = 63 - p.column; rows = p.rows; columns = across p.column }

-- and of the headings, east and west exchanged
unfoldable pub flipped : Heading → Heading
flipped North = North
flipped East = West
flipped South = South
flipped West = East

-- a quarter turn clockwise, and one back
unfoldable pub quarter : Place → Place
quarter p = record { row = p.column; column = 63 - p.row; rows = p.columns; columns = across p.row }

unfoldable pub unquarter : Place → Place
unquarter p = record { row = 63 - p.column; column = p.row; rows = across p.column; columns = p.rows }

-- a function applied so many times
unfoldable pub times : {A : Type 0} → ℕ → (A → A) → A → A
times zero f a = a
times (suc n) f a = f (times n f a)
