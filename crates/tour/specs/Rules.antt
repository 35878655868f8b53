-- The three rules: which move comes next after a history.
--
-- The rover stands at a place of the megacell x with the exit e, and y is the neighbour of x at e.
-- 1. If y is the parent of x, cross: move by e.
-- 2. Else if y is absent or old, turn: move by the left of e.
-- 3. Else look whether the side at e is open. If it is, cross; if not, turn.
use Rattle.std.specs.Prelude.{◌≡◌, Bool, true, false, List, Some, None, Option, ◌≢◌}
use Rattle.board.specs.declared.heading.Heading.{Heading}
use Rattle.board.specs.Squares.{Megacell, Place, same_square}
use Rattle.board.specs.Headings.{left}
use Rattle.board.specs.Places.{megacell_of}
use Rattle.board.specs.Corners.{exit}
use Rattle.board.specs.Steps.{beside}
use Rattle.board.specs.Floors.{Floor}
use Rattle.tour.specs.History.{here, old, parent}

-- a move: its heading, and whether a look was made for it
pub record Move : Type 0 where
  pub heading : Heading
  pub looked : Bool

-- the megacell stood in (x above)
abbrev pub own : Place → List Place → Megacell
own s ps = megacell_of (here s ps)

-- the exit of the place stood on (e above)
abbrev pub own_exit : Place → List Place → Heading
own_exit s ps = exit (here s ps)

-- the neighbour there (y above), if there is one
abbrev pub neighbour : Place → List Place → Option Megacell
neighbour s ps = beside (own s ps) (own_exit s ps)

-- After this history the rules allow this move.
pub data Allows (floor : Floor) (s : Place) (ps : List Place) : Move → Type 0 where
  -- rule 1
  cross_back : (y : Megacell) → neighbour s ps ≡ Some y → parent s ps (own s ps) ≡ Some y →
      Allows floor s ps (record { heading = own_exit s ps; looked = false })
  -- rule 2
  turn_absent : neighbour s ps ≡ None →
      Allows floor s ps (record { heading = left (own_exit s ps); looked = false })
  turn_old : (y : Megacell) → neighbour s ps ≡ Some y → (parent s ps (own s ps) ≢ Some y) → old s ps y ≡ true →
      Allows floor s ps (record { heading = left (own_exit s ps); looked = false })
  -- rule 3
  cross_new : (y : Megacell) → neighbour s ps ≡ Some y → (parent s ps (own s ps) ≢ Some y) → old s ps y ≡ false → floor (own s ps) (own_exit s ps) ≡ true →
      Allows floor s ps (record { heading = own_exit s ps; looked = true })
  turn_closed : (y : Megacell) → neighbour s ps ≡ Some y → (parent s ps (own s ps) ≢ Some y) → old s ps y ≡ false → floor (own s ps) (own_exit s ps) ≡ false →
      Allows floor s ps (record { heading = left (own_exit s ps); looked = true })

-- The same, computed.

-- is the neighbour the parent
unfoldable pub is_parent : Option Megacell → Option Megacell → Bool
is_parent None o = false
is_parent (Some y) None = false
is_parent (Some y) (Some z) = same_square y z

-- is the neighbour absent or old
unfoldable pub absent_or_old : Place → List Place → Option Megacell → Bool
absent_or_old s ps None = true
absent_or_old s ps (Some y) = old s ps y

-- the move, by the exit e and three answers: is the neighbour the parent; is it absent or old; is the side open
unfoldable pub ruled : Heading → Bool → Bool → Bool → Move
ruled e true o f = record { heading = e; looked = false }
ruled e false true f = record { heading = left e; looked = false }
ruled e false false true = record { heading = e; looked = true }
ruled e false false false = record { heading = left e; looked = true }

-- the next move after a history
unfoldable pub next_move : Floor → Place → List Place → Move
next_move floor s ps = ruled (own_exit s ps) (is_parent (neighbour s ps) (parent s ps (own s ps))) (absent_or_old s ps (neighbour s ps)) (floor (own s ps) (own_exit s ps))

-- the theorem: the rules allow exactly one move after every history, and it is the computed one
abbrev pub OneNext : Type 0
OneNext = (floor : Floor) (s : Place) (ps : List Place) → Allows floor s ps (next_move floor s ps) × ((m : Move) → Allows floor s ps m → m ≡ next_move floor s ps)
