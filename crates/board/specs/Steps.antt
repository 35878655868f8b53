-- Neighbours: the next square at a heading. Off the board there is none.
use Rattle.std.specs.Prelude.{ℕ, ◌+◌, ◌-◌, cond, Some, None, Option, ◌==◌}
use Rattle.board.specs.declared.heading.Heading.{Heading}
use Rattle.board.specs.declared.heading.Heading.TheVariants.{North, East, South, West}
use Rattle.board.specs.declared.square.Square.{Square}
use Rattle.board.specs.Squares.{Place, squared}

-- the neighbour of a megacell, or the next place of a place, at a heading; none off the board
unfoldable pub beside : {side : ℕ} → Square side → Heading → Option (Square side)
beside {side} s North = cond (s.row == 0) None (squared side (s.row - 1) s.column)
beside {side} s East = squared side s.row (s.column + 1)
beside {side} s South = squared side (s.row + 1) s.column
beside {side} s West = cond (s.column == 0) None (squared side s.row (s.column - 1))

abbrev pub or_stay : Option Place → Place → Place
or_stay None p = p
or_stay (Some q) p = q

-- the place that a move at a heading enters (a move off the board, which no rover makes, would stay)
unfoldable pub step : Heading → Place → Place
step h p = or_stay (beside p h) p
