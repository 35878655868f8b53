-- When a step passes, from two tests that a rover's code makes.
use Rattle.std.proofs.Common.{◌≡◌, true, false, ◌||◌, Some, sym, ap, ◌∙◌, inl, inr}
use Rattle.std.proofs.lemmas.Bool.{both_ways, or_cases, or_left, or_right}
use Rattle.board.specs.declared.heading.Heading.{Heading}
use Rattle.board.specs.Squares.{Megacell, Place, same_square}
use Rattle.board.specs.Places.{megacell_of}
use Rattle.board.specs.Steps.{beside}
use Rattle.board.specs.Floors.{Floor, Passes}
use Rattle.board.proofs.Geometry.{same_square_true, same_square_refl}

pub pass : (floor : Floor) (p q : Place) (h : Heading) → beside p h ≡ Some q → (same_square (megacell_of q) (megacell_of p) || floor (megacell_of p) h) ≡ true → Passes floor p h q
pass floor p q h e t = record { next = e; way = elim (or_cases _ _ t) [ inl i ↦ inl (same_square_true _ _ i) | inr i ↦ inr i ] }

pub block : (floor : Floor) (p q : Place) (h : Heading) → beside p h ≡ Some q → (same_square (megacell_of q) (megacell_of p) || floor (megacell_of p) h) ≡ false → (z : Place) → Passes floor p h z → ⊥
block floor p q h e f z w =
    let a = w.next in
    let is : z ≡ q = cc in
    elim w.way [
      | inl i ↦ both_ways _ f (or_left _ _ (ap (λ (m : Megacell). same_square m (megacell_of p)) (ap megacell_of (sym is) ∙ i) ∙ same_square_refl (megacell_of p)))
      | inr i ↦ both_ways _ f (or_right _ _ i)
    ]
