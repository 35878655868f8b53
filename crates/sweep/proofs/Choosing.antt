-- What the table of marks makes a sweep choose, case by case; and the steps that no rover refuses.
use Rattle.std.proofs.Common.{◌≡◌, Bool, true, false, cond, List, Some, None, Option, ap, ◌∙◌, inl, inr}
use Rattle.board.specs.Squares.{Megacell, Place}
use Rattle.board.specs.Headings.{left, right}
use Rattle.board.specs.Places.{megacell_of}
use Rattle.board.specs.Corners.{exit, subcell}
use Rattle.board.specs.Steps.{beside}
use Rattle.board.specs.Floors.{Floor}
use Rattle.board.specs.declared.heading.Heading.{Heading}
use Rattle.board.proofs.Geometry.{megacell_subcell, turn_beside, cross_beside}
use Rattle.rover.specs.Drive.{Blocked}
use Rattle.sweep.specs.declared.mark.Mark.{Mark}
use Rattle.sweep.specs.declared.choice.Choice.TheVariants.{Cross, Turn, Look}
use Rattle.sweep.specs.declared.mark.Mark.TheVariants.{New, Root, Under}
use Rattle.sweep.specs.Table.{choice, choice_by, mark_at, leads, look_if_new}

pub absent_is_turned_from : (marks : List Mark) (p : Place) → beside (megacell_of p) (exit p) ≡ None → choice marks p ≡ Turn
absent_is_turned_from marks p e = rw e

pub parent_is_crossed_to : (marks : List Mark) (p : Place) (y : Megacell) → beside (megacell_of p) (exit p) ≡ Some y → leads (mark_at marks (megacell_of p)) (exit p) ≡ true → choice marks p ≡ Cross
parent_is_crossed_to marks p y e l = rw (e, l)

pub other_is_looked_at_if_new : (marks : List Mark) (p : Place) (y : Megacell) → beside (megacell_of p) (exit p) ≡ Some y → leads (mark_at marks (megacell_of p)) (exit p) ≡ false → choice marks p ≡ look_if_new (mark_at marks y) y
other_is_looked_at_if_new marks p y e l = rw (e, l)

looks_at_the_same : (k : Mark) (x y : Megacell) → look_if_new k x ≡ Look y → x ≡ y
looks_at_the_same New x y e = cc
looks_at_the_same Root x y e = cc
looks_at_the_same (Under h) x y e = cc

look_is_ahead : (marks : List Mark) (x : Megacell) (e : Heading) (o : Option Megacell) (y : Megacell) → choice_by marks x e o ≡ Look y → o ≡ Some y
look_is_ahead marks x e None y k = cc
look_is_ahead marks x e (Some z) y k = go (leads (mark_at marks x) e) k
  where
    go : (b : Bool) → cond b Cross (look_if_new (mark_at marks z) z) ≡ Look y → Some z ≡ Some y
    go true k = cc
    go false k = ap Some (looks_at_the_same (mark_at marks z) z y k)

-- a look is asked for only toward a neighbour that is there
pub look_is_at_the_neighbour : (marks : List Mark) (p : Place) (y : Megacell) → choice marks p ≡ Look y → beside (megacell_of p) (exit p) ≡ Some y
look_is_at_the_neighbour marks p y e = look_is_ahead marks (megacell_of p) (exit p) (beside (megacell_of p) (exit p)) y e

-- a turn is never refused
pub turn_is_never_barred : {floor : Floor} {p : Place} {h : Heading} → Blocked floor p h → h ≡ left (exit p) → ⊥
turn_is_never_barred {p = p} b i = b (subcell (megacell_of p) (left (exit p))) (record { next = ap (beside p) i ∙ turn_beside p; way = inl (megacell_subcell _ _) })

-- nor is a cross of an open side to a neighbour that is there
pub open_cross_is_never_barred : {floor : Floor} {p : Place} {h : Heading} (y : Megacell) → Blocked floor p h → h ≡ exit p → beside (megacell_of p) (exit p) ≡ Some y → floor (megacell_of p) h ≡ true → ⊥
open_cross_is_never_barred {floor = floor} {p = p} y b i j f = b (subcell y (right (exit p))) (record { next = ap (beside p) i ∙ cross_beside p y j; way = inr f })
