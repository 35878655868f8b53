-- The two laws of the floor, and where its rover starts.
use Rattle.std.specs.Prelude.{◌≡◌, ℕ, ◌+◌, ◌*◌, ◌&&◌, Some, None, Option, ◌≢◌}
use Rattle.std.proofs.Common.{sym, ◌∙◌, ap, arith}
use Rattle.board.specs.declared.heading.Heading.TheVariants.{East}
use Rattle.board.specs.Squares.{Megacell, Place, placed}
use Rattle.board.specs.Corners.{subcell}
use Rattle.board.specs.Floors.{SameFromBoth, ClosedAtEdge}
use Rattle.board.proofs.Geometry.{squared_at, beside_back}
use Rattle.std.proofs.Math.Bool.{and_comm, and-false}
use Rattle.map_format.specs.declared.drawing.Drawing.{Drawing}
use Rattle.drawn_floor.specs.Floor.{free_at, there_free, floor_of}

pub both_sides : (d : Drawing) → SameFromBoth (floor_of d)
unfolding floor_of
both_sides d m n h e =
    let b = beside_back h m n e in
    ap (λ o. free_at d m && there_free d o) e ∙ and_comm (free_at d m) (free_at d n) ∙ sym (ap (λ o. free_at d n && there_free d o) b)

pub edges : (d : Drawing) → ClosedAtEdge (floor_of d)
unfolding floor_of
edges d m h e = ap (λ o. free_at d m && there_free d o) e ∙ and-false (free_at d m)

-- the numbers of a south-east subcell make a place
pub south_east : (m : Megacell) (r c : ℕ) → r ≡ 2 * m.row + 1 → c ≡ 2 * m.column + 1 → placed r c ≡ Some (subcell m East)
unfolding subcell
south_east m r c e f = squared_at r c (subcell m East) e f

pub there : (o : Option Place) (p : Place) → o ≡ Some p → o ≢ None
there o p e f = let z : ◌≡◌ {A = ℕ} 0 1 = cc in omega arith
