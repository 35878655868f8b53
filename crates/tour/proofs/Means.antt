-- `old` and `parent` mean what the words say; and a parent may be kept as the heading towards it.
use Rattle.std.proofs.Common.{◌≡◌, ◌+◌, ◌≤◌, Bool, true, false, ◌⊎◌, List, [], ◌∷◌, ◌++◌, Some, Option, sym, refl, ap, ◌∙◌, inl, inr, arith}
use Rattle.board.specs.declared.heading.Heading.{Heading}
use Rattle.board.specs.Squares.{Megacell, Place, same_square}
use Rattle.board.specs.Headings.{same_heading}
use Rattle.board.specs.Places.{megacell_of}
use Rattle.board.specs.Steps.{beside}
use Rattle.board.specs.Counting.{bit, many}
use Rattle.tour.specs.History.{here, old, parent}
use Rattle.tour.specs.Meaning.{FirstEntry, Meaning}
use Rattle.tour.specs.Rules.{is_parent}
use Rattle.board.proofs.Geometry.{same_square_true, bools, same_heading_true, same_heading_refl, beside_inj}
use Rattle.tour.proofs.History.{start_is_old, is_parent_names_one, same_is_parent, parent_stays_or_is_left, parent_of_old_stays, parent_of_new_is_left, newly_old_is_entered, old_stays_old, entered_is_old, head_is_in, tail_is_in}

entered_makes_old : (s : Place) (ps : List Place) (p : Place) → 1 ≤ many (same_square p) ps → old s ps (megacell_of p) ≡ true
unfolding many bit
entered_makes_old s [] p h = absurd (omega arith)
entered_makes_old s (q ∷ ps) p h = go (same_square p q) refl h (entered_makes_old s ps p)
  where
    go : (b : Bool) → same_square p q ≡ b → 1 ≤ bit b + many (same_square p) ps → (1 ≤ many (same_square p) ps → old s ps (megacell_of p) ≡ true) → old s (q ∷ ps) (megacell_of p) ≡ true
    go true e k more = ap (λ (x : Place). old s (q ∷ ps) (megacell_of x)) (same_square_true p q e) ∙ entered_is_old s q ps
    go false e k more = old_stays_old s q ps (megacell_of p) (more (omega arith))

old_means_entered : (s : Place) (ps : List Place) (m : Megacell) → old s ps m ≡ true → (megacell_of s ≡ m) ⊎ ((p : Place) × (1 ≤ many (same_square p) ps) × (megacell_of p ≡ m))
unfolding old
old_means_entered s [] m e = inl (same_square_true (megacell_of s) m e)
old_means_entered s (p ∷ ps) m e = elim (newly_old_is_entered s p ps m e) [
  | inl f ↦ inr (p, head_is_in p ps, f)
  | inr f ↦ elim (old_means_entered s ps m f) [
    | inl g ↦ inl g
    | inr g ↦ inr (g.0, tail_is_in g.0 p ps g.1, g.2)
  ]
]

old_after_entry : (s : Place) (later : List Place) (p : Place) (before : List Place) → old s (later ++ (p ∷ before)) (megacell_of p) ≡ true
old_after_entry s [] p before = entered_is_old s p before
old_after_entry s (q ∷ later) p before = old_stays_old s q (later ++ (p ∷ before)) (megacell_of p) (old_after_entry s later p before)

parent_means_first_entry : (s : Place) (ps : List Place) (m z : Megacell) → parent s ps m ≡ Some z → FirstEntry s ps m z
unfolding parent
parent_means_first_entry s [] m z e = record { later = []; place = s; before = []; split = cc; into = cc; new = cc; from = cc }
parent_means_first_entry s (p ∷ ps) m z e = elim (parent_stays_or_is_left s p ps m z e) [
  | inl k ↦
      let w = parent_means_first_entry s ps m z k.1 in
      record { later = p ∷ w.later; place = w.place; before = w.before; split = ap {B = List Place} (λ (x : List Place). p ∷ x) w.split; into = w.into; new = w.new; from = w.from }
  | inr k ↦ record { later = []; place = p; before = ps; split = refl; into = k.1; new = k.0; from = k.2 }
]

first_entry_means_parent : (s : Place) (later : List Place) (p : Place) (before : List Place) → old s before (megacell_of p) ≡ false → parent s (later ++ (p ∷ before)) (megacell_of p) ≡ Some (megacell_of (here s before))
first_entry_means_parent s [] p before e = parent_of_new_is_left s p before (megacell_of p) e refl
first_entry_means_parent s (q ∷ later) p before e = parent_of_old_stays s q (later ++ (p ∷ before)) (megacell_of p) (old_after_entry s later p before) ∙ first_entry_means_parent s later p before e

pub meaning : Meaning
meaning = record {
  old_is = old_means_entered;
  is_old = λ s ps m h. elim h [
    | inl e ↦ ap (old s ps) (sym e) ∙ start_is_old s ps
    | inr k ↦ ap (old s ps) (sym k.2) ∙ entered_makes_old s ps k.0 k.1
  ];
  parent_is = parent_means_first_entry;
  is_the_parent = λ s ps m z w.
      let g = first_entry_means_parent s w.later w.place w.before (ap (old s w.before) w.into ∙ w.new) in
      let a = w.split in
      let b = w.into in
      let c = w.from in
      cc;
}

-- where the parent of m lies at the heading k, the neighbour at e is the parent exactly when e is k
pub is_parent_by_heading : (m z : Megacell) (e k : Heading) (o : Option Megacell) → o ≡ Some z → beside m k ≡ Some z → is_parent (beside m e) o ≡ same_heading e k
is_parent_by_heading m z e k o i j = bools _ _
    (λ t.
    let w = is_parent_names_one (beside m e) o t in
    let q : beside m e ≡ Some z = w.1 ∙ sym w.2 ∙ i in
    ap (λ (h : Heading). same_heading h k) (beside_inj e k m z q j) ∙ same_heading_refl k)
    (λ t. same_is_parent (beside m e) o z (ap (beside m) (same_heading_true e k t) ∙ j) i)
