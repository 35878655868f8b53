-- Turns by their numbers.
use Rattle.std.proofs.Common.{◌≡◌, ◌+◌, ◌%◌, refl}
use Rattle.board.specs.declared.heading.Heading.{Heading}
use Rattle.board.specs.declared.heading.Heading.TheVariants.{North, East, South, West}
use Rattle.board.specs.Headings.{left, right, opposite, heading_number}
use Rattle.board.specs.Turning.{TurnsByNumber, ExitsGoAlong}
use Rattle.board.proofs.Geometry.{heading_by_number, turned_own, turned_exit, crossed_into, crossed_exit}

lefts : (h : Heading) → heading_number (left h) ≡ (heading_number h + 3) % 4
unfolding left heading_number
lefts North = refl
lefts East = refl
lefts South = refl
lefts West = refl

rights : (h : Heading) → heading_number (right h) ≡ (heading_number h + 1) % 4
unfolding right heading_number
rights North = refl
rights East = refl
rights South = refl
rights West = refl

opposites : (h : Heading) → heading_number (opposite h) ≡ (heading_number h + 2) % 4
unfolding opposite heading_number
opposites North = refl
opposites East = refl
opposites South = refl
opposites West = refl

pub turns_by_number : TurnsByNumber
turns_by_number = record { lefts = lefts; rights = rights; opposites = opposites; one_number = heading_by_number }

pub exits_go_along : ExitsGoAlong
exits_go_along = record { turn_stays = turned_own; turn_exit = turned_exit; cross_enters = crossed_into; cross_exit = crossed_exit }
