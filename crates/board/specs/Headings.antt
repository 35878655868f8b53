-- The four headings: their numbers, letters and turns.
use Rattle.std.specs.Prelude.{ℕ, Bool, ◌==◌}
use Rattle.board.specs.declared.heading.Heading.{Heading}
use Rattle.board.specs.declared.heading.Heading.TheVariants.{North, East, South, West}

-- a quarter turn counter-clockwise: the number before, modulo 4
unfoldable pub left : Heading → Heading
left North = West
left East = North
left South = East
left West = South

-- a quarter turn clockwise: the number after, modulo 4
unfoldable pub right : Heading → Heading
right North = East
right East = South
right South = West
right West = North

unfoldable pub opposite : Heading → Heading
opposite North = South
opposite East = West
opposite South = North
opposite West = East

unfoldable pub heading_number : Heading → ℕ
heading_number North = 0
heading_number East = 1
heading_number South = 2
heading_number West = 3

-- the ASCII letters N, E, S, W
unfoldable pub letter : Heading → ℕ
letter North = 78
letter East = 69
letter South = 83
letter West = 87

unfoldable pub same_heading : Heading → Heading → Bool
same_heading h k = heading_number h == heading_number k
