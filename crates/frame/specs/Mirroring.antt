-- The mirror keeps the laws of a frame.
use Rattle.std.specs.Prelude.{◌≡◌, ◌/◌, refl}
use Rattle.std.proofs.Common.{ap, arith}
use Rattle.std.specs.Option.{option_map}
use Rattle.board.specs.declared.heading.Heading.{Heading}
use Rattle.board.specs.declared.heading.Heading.TheVariants.{North, East, South, West}
use Rattle.board.specs.Squares.{Megacell, Place}
use Rattle.board.specs.Places.{megacell_of}
use Rattle.board.specs.Steps.{beside}
use Rattle.board.proofs.Geometry.{square_path, Steps}
use Rattle.board.proofs.Neighbours.{Edge}
use Rattle.frame.specs.Laws.{Keeps}
use Rattle.frame.specs.Placing.{steps_kept}
use Rattle.frame.specs.Frames.{mirrored, flipped}

pub mirrored_twice : (p : Place) → mirrored (mirrored p) ≡ p
unfolding mirrored
mirrored_twice p = square_path _ p refl (omega arith)

pub flipped_twice : (h : Heading) → flipped (flipped h) ≡ h
unfolding flipped
flipped_twice North = refl
flipped_twice East = refl
flipped_twice South = refl
flipped_twice West = refl

pub mirrored_together : (p q : Place) → megacell_of p ≡ megacell_of q → megacell_of (mirrored p) ≡ megacell_of (mirrored q)
unfolding mirrored megacell_of
mirrored_together p q e =
    let r : p.row / 2 ≡ q.row / 2 = ap (λ (m : Megacell). m.row) e in
    let c : p.column / 2 ≡ q.column / 2 = ap (λ (m : Megacell). m.column) e in
    square_path _ _ r (omega arith)

edges : (p : Place) (h : Heading) → Edge h p → Edge (flipped h) (mirrored p)
unfolding mirrored flipped
edges p North e = e
edges p East e = omega arith
edges p South e = e
edges p West e = omega arith

moves : (p q : Place) (h : Heading) → Steps h p q → Steps (flipped h) (mirrored p) (mirrored q)
unfolding mirrored flipped
moves p q North e = omega arith
moves p q East e = omega arith
moves p q South e = omega arith
moves p q West e = omega arith

pub mirrored_steps : (p : Place) (h : Heading) → beside (mirrored p) (flipped h) ≡ option_map mirrored (beside p h)
mirrored_steps = steps_kept mirrored flipped edges moves

pub mirror_keeps : Keeps mirrored mirrored flipped flipped
mirror_keeps = record {
  undone = mirrored_twice;
  redone = mirrored_twice;
  undoes = flipped_twice;
  redoes = flipped_twice;
  together = mirrored_together;
  rejoined = mirrored_together;
  steps = mirrored_steps;
}
