-- The two laws of the floor that a log tells of.
use Rattle.std.specs.Prelude.{◌≡◌, ◌&&◌, Option, refl}
use Rattle.std.proofs.Common.{sym, ◌∙◌, ap}
use Rattle.board.specs.declared.heading.Heading.{Heading}
use Rattle.board.specs.declared.heading.Heading.TheVariants.{North, East, South, West}
use Rattle.board.specs.Squares.{Megacell}
use Rattle.board.specs.Headings.{opposite}
use Rattle.board.specs.Floors.{SameFromBoth, ClosedAtEdge}
use Rattle.board.proofs.Geometry.{beside_back}
use Rattle.std.proofs.Math.Bool.{and_comm, and-false}
use Rattle.log_record.specs.declared.record.Record.{Record}
use Rattle.log_floor.specs.Told.{told_open, told_beside, floor_of}

back_again : (h : Heading) → opposite (opposite h) ≡ h
unfolding opposite
back_again North = refl
back_again East = refl
back_again South = refl
back_again West = refl

pub same_from_both : (told : Megacell → Option Record) → SameFromBoth (floor_of told)
unfolding floor_of
same_from_both told m n h e =
    ap (λ o. told_open (told m) h && told_beside told o h) e
    ∙ and_comm (told_open (told m) h) (told_open (told n) (opposite h))
    ∙ ap (λ k. told_open (told n) (opposite h) && told_open (told m) k) (sym (back_again h))
    ∙ sym (ap (λ o. told_open (told n) (opposite h) && told_beside told o (opposite h)) (beside_back h m n e))

pub closed_at_edge : (told : Megacell → Option Record) → ClosedAtEdge (floor_of told)
unfolding floor_of
closed_at_edge told m h e = ap (λ o. told_open (told m) h && told_beside told o h) e ∙ and-false (told_open (told m) h)
