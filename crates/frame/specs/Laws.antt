-- The laws of a frame, of the four functions that it is: where it takes places, where it takes them back, which way it turns
-- headings, and which way it turns them back.
use Rattle.std.specs.Prelude.{◌≡◌}
use Rattle.std.specs.Option.{option_map}
use Rattle.board.specs.declared.heading.Heading.{Heading}
use Rattle.board.specs.Squares.{Place}
use Rattle.board.specs.Places.{megacell_of}
use Rattle.board.specs.Steps.{beside}

pub record Keeps (taken returned : Place → Place) (turned restored : Heading → Heading) : Type 0 where
  -- the inverse undoes the frame, on places and on headings, from either side
  pub undone : (p : Place) → returned (taken p) ≡ p
  pub redone : (p : Place) → taken (returned p) ≡ p
  pub undoes : (h : Heading) → restored (turned h) ≡ h
  pub redoes : (h : Heading) → turned (restored h) ≡ h
  -- places that share a megacell share one afterwards, by the frame and by its inverse
  pub together : (p q : Place) → megacell_of p ≡ megacell_of q → megacell_of (taken p) ≡ megacell_of (taken q)
  pub rejoined : (p q : Place) → megacell_of p ≡ megacell_of q → megacell_of (returned p) ≡ megacell_of (returned q)
  -- it makes no difference whether a step comes before the frame or, by the turned heading, after it; a step off the
  -- board is one in both
  pub steps : (p : Place) (h : Heading) → beside (taken p) (turned h) ≡ option_map taken (beside p h)
