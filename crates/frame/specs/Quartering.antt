-- A quarter turn keeps the laws of a frame.
use Rattle.std.specs.Prelude.{ℕ, ◌≡◌, ◌/◌, refl}
use Rattle.std.proofs.Common.{ap, arith}
use Rattle.std.specs.Option.{option_map}
use Rattle.board.specs.declared.heading.Heading.{Heading}
use Rattle.board.specs.declared.heading.Heading.TheVariants.{North, East, South, West}
use Rattle.board.specs.Squares.{Megacell, Place}
use Rattle.board.specs.Places.{megacell_of}
use Rattle.board.specs.Steps.{beside}
use Rattle.board.proofs.Geometry.{square_path, Steps}
use Rattle.board.proofs.Neighbours.{Edge}
use Rattle.board.specs.Headings.{left, right}
use Rattle.frame.specs.Laws.{Keeps}
use Rattle.frame.specs.Placing.{steps_kept}
use Rattle.frame.specs.Repeating.{times_keep}
use Rattle.frame.specs.Frames.{quarter, unquarter, times}

pub quarter_undone : (p : Place) → unquarter (quarter p) ≡ p
unfolding quarter unquarter
quarter_undone p = square_path _ p (omega arith) refl

pub unquarter_undone : (p : Place) → quarter (unquarter p) ≡ p
unfolding quarter unquarter
unquarter_undone p = square_path _ p refl (omega arith)

pub right_undone : (h : Heading) → left (right h) ≡ h
unfolding left right
right_undone North = refl
right_undone East = refl
right_undone South = refl
right_undone West = refl

pub left_undone : (h : Heading) → right (left h) ≡ h
unfolding left right
left_undone North = refl
left_undone East = refl
left_undone South = refl
left_undone West = refl

pub quarter_together : (p q : Place) → megacell_of p ≡ megacell_of q → megacell_of (quarter p) ≡ megacell_of (quarter q)
unfolding quarter megacell_of
quarter_together p q e =
    let r : p.row / 2 ≡ q.row / 2 = ap (λ (m : Megacell). m.row) e in
    let c : p.column / 2 ≡ q.column / 2 = ap (λ (m : Megacell). m.column) e in
    square_path _ _ c (omega arith)

pub unquarter_together : (p q : Place) → megacell_of p ≡ megacell_of q → megacell_of (unquarter p) ≡ megacell_of (unquarter q)
unfolding unquarter megacell_of
unquarter_together p q e =
    let r : p.row / 2 ≡ q.row / 2 = ap (λ (m : Megacell). m.row) e in
    let c : p.column / 2 ≡ q.column / 2 = ap (λ (m : Megacell). m.column) e in
    square_path _ _ (omega arith) r

edges : (p : Place) (h : Heading) → Edge h p → Edge (right h) (quarter p)
unfolding quarter right
edges p North e = omega arith
edges p East e = omega arith
edges p South e = omega arith
edges p West e = omega arith

moves : (p q : Place) (h : Heading) → Steps h p q → Steps (right h) (quarter p) (quarter q)
unfolding quarter right
moves p q North e = omega arith
moves p q East e = omega arith
moves p q South e = omega arith
moves p q West e = omega arith

pub quarter_steps : (p : Place) (h : Heading) → beside (quarter p) (right h) ≡ option_map quarter (beside p h)
quarter_steps = steps_kept quarter right edges moves

pub quarters_keep : (n : ℕ) → Keeps (times n quarter) (times n unquarter) (times n right) (times n left)
quarters_keep n = times_keep n (record {
  undone = quarter_undone;
  redone = unquarter_undone;
  undoes = right_undone;
  redoes = left_undone;
  together = quarter_together;
  rejoined = unquarter_together;
  steps = quarter_steps;
})
