-- A floor: which sides of which megacells are open.
use Rattle.std.specs.Prelude.{◌≡◌, Bool, true, false, ◌⊎◌, Some, None}
use Rattle.board.specs.declared.heading.Heading.{Heading}
use Rattle.board.specs.Squares.{Megacell, Place}
use Rattle.board.specs.Headings.{opposite}
use Rattle.board.specs.Places.{megacell_of}
use Rattle.board.specs.Steps.{beside}

abbrev pub Floor : Type 0
Floor = Megacell → Heading → Bool

-- the two megacells of a side agree on it
abbrev pub SameFromBoth : Floor → Type 0
SameFromBoth floor = (m n : Megacell) (h : Heading) → beside m h ≡ Some n → floor m h ≡ floor n (opposite h)

-- no side leads off the board
abbrev pub ClosedAtEdge : Floor → Type 0
ClosedAtEdge floor = (m : Megacell) (h : Heading) → beside m h ≡ None → floor m h ≡ false

-- the two laws of a floor
pub record Lawful (floor : Floor) : Type 0 where
  pub both : SameFromBoth floor
  pub edge : ClosedAtEdge floor

-- a step from p at a heading may be made, and leads to q: q is the next place, and lies in the same megacell or across an open side
pub record Passes (floor : Floor) (p : Place) (h : Heading) (q : Place) : Type 0 where
  pub next : beside p h ≡ Some q
  pub way : (megacell_of q ≡ megacell_of p) ⊎ (floor (megacell_of p) h ≡ true)
