-- Floors worked by hand: the laws of a floor can be met, and on small floors the rules give the tours that a technician would draw.
use Rattle.std.specs.Prelude.{◌≡◌, ℕ, ◌+◌, ◌*◌, Bool, true, false, ◌&&◌, ◌||◌, Some, None, codes, Option, ◌==◌}
use Rattle.std.proofs.Common.{lit<}
use Rattle.board.specs.Squares.{Megacell, Place}
use Rattle.board.specs.Steps.{beside}
use Rattle.board.specs.Floors.{Floor, Lawful}
use Rattle.tour.specs.Ground.{Ground, Number}
use Rattle.tour.specs.Tour.{tour, letters, tour_looks, home_after, Underway}

unfoldable pub is_free : (Megacell → Bool) → Option Megacell → Bool
is_free free None = false
is_free free (Some m) = free m

-- the floor of a choice of free megacells: open between two of them
unfoldable pub between : (Megacell → Bool) → Floor
between free m h = free m && is_free free (beside m h)

-- no side is open
unfoldable pub shut : Floor
shut m h = false

-- every side that has a neighbour is open
unfoldable pub wide : Floor
wide = between (λ m. true)

-- the theorem: these floors are lawful, so that what is said of every lawful floor is said of some
pub record LawsMet : Type 0 where
  pub shut_is : Lawful shut
  pub wide_is : Lawful wide
  pub between_is : (free : Megacell → Bool) → Lawful (between free)

-- Which megacells of the north-west corner of the board are free; the first letter of each is (0, 0).

-- `S`
unfoldable pub one : Megacell → Bool
one m = m.row == 0 && m.column == 0

-- `S.`
unfoldable pub two : Megacell → Bool
two m = m.row == 0 && (m.column == 0 || m.column == 1)

-- `S.` above `.#`
unfoldable pub three : Megacell → Bool
three m = (m.row == 0 && (m.column == 0 || m.column == 1)) || (m.row == 1 && m.column == 0)

-- `S.` above `..`
unfoldable pub square : Megacell → Bool
square m = (m.row == 0 || m.row == 1) && (m.column == 0 || m.column == 1)

-- the south-east subcells of the megacells (0, 0) and (1, 1)
unfoldable pub at11 : Place
at11 = record { row = 1; column = 1; rows = lit< tt; columns = lit< tt }

unfoldable pub at33 : Place
at33 = record { row = 3; column = 3; rows = lit< tt; columns = lit< tt }

-- a tour that comes home by its nth move, with so many looks, on a ground of k megacells
pub record HomeBy (floor : Floor) (s : Place) (n looks k : ℕ) : Type 0 where
  pub looked : tour_looks floor s n ≡ looks
  pub comes : home_after floor s n ≡ true
  pub underway : Underway floor s n
  pub ground : Number (Ground floor s) k

-- the theorem: the tours of these floors
pub record WorkedFloors : Type 0 where
  pub one_tour : letters (tour (between one) at11 4) ≡ codes "NWSE"
  pub one_home : HomeBy (between one) at11 4 2 1
  pub two_tour : letters (tour (between two) at11 8) ≡ codes "EENWWWSE"
  pub two_home : HomeBy (between two) at11 8 4 2
  pub three_tour : letters (tour (between three) at11 12) ≡ codes "EENWWWSSSENN"
  pub three_home : HomeBy (between three) at11 12 6 3
  pub square_home : HomeBy (between square) at11 16 7 4
  -- a shut megacell inside the board meets the bound on the looks: three for its one megacell, and one
  pub inner_home : HomeBy shut at33 4 (3 * 1 + 1) 1
