-- The numbers of headings, and how the exit goes along with a rover. Cross is a step by the exit, turn a step to its left.
use Rattle.std.specs.Prelude.{◌≡◌, ◌+◌, ◌%◌, Some}
use Rattle.board.specs.declared.heading.Heading.{Heading}
use Rattle.board.specs.Squares.{Megacell, Place}
use Rattle.board.specs.Headings.{left, right, opposite, heading_number}
use Rattle.board.specs.Places.{megacell_of}
use Rattle.board.specs.Corners.{exit}
use Rattle.board.specs.Steps.{beside, step}

-- left takes one from a heading's number and right adds one, modulo 4
pub record TurnsByNumber : Type 0 where
  pub lefts : (h : Heading) → heading_number (left h) ≡ (heading_number h + 3) % 4
  pub rights : (h : Heading) → heading_number (right h) ≡ (heading_number h + 1) % 4
  pub opposites : (h : Heading) → heading_number (opposite h) ≡ (heading_number h + 2) % 4
  pub one_number : (h k : Heading) → heading_number h ≡ heading_number k → h ≡ k

-- a turn stays in its megacell, and the exit there is the left of the exit before; a cross enters the neighbour, and the
-- exit there is the right of the exit before
pub record ExitsGoAlong : Type 0 where
  pub turn_stays : (p : Place) → megacell_of (step (left (exit p)) p) ≡ megacell_of p
  pub turn_exit : (p : Place) → exit (step (left (exit p)) p) ≡ left (exit p)
  pub cross_enters : (p : Place) (y : Megacell) → beside (megacell_of p) (exit p) ≡ Some y → megacell_of (step (exit p) p) ≡ y
  pub cross_exit : (p : Place) (y : Megacell) → beside (megacell_of p) (exit p) ≡ Some y → exit (step (exit p) p) ≡ right (exit p)
