-- What one more entered place does to the old megacells, to the parents, and to the rest of the tour that is planned.
use Rattle.std.proofs.Common.{◌≡◌, ℕ, ◌+◌, ◌≤◌, Bool, true, false, cond, not, ◌||◌, ◌⊎◌, List, [], ◌∷◌, Some, None, Option, sym, refl, ap, ◌∙◌, inl, inr, arith}
use Rattle.std.proofs.lemmas.Bool.{both_ways, or_left, or_right, or_cases}
use Rattle.board.specs.declared.heading.Heading.{Heading}
use Rattle.board.specs.Headings.{left}
use Rattle.board.specs.Squares.{same_square, Megacell, Place}
use Rattle.board.specs.Places.{megacell_of}
use Rattle.board.specs.Corners.{exit}
use Rattle.board.specs.Steps.{step, beside}
use Rattle.board.specs.Counting.{bit, many}
use Rattle.tour.specs.History.{here, old, parent}
use Rattle.tour.specs.Rules.{is_parent}
use Rattle.board.proofs.Geometry.{same_square_true, same_square_refl, bools}

pub same_megacell_sym : (m n : Megacell) → same_square m n ≡ same_square n m
same_megacell_sym m n = bools _ _ (λ e. ap (λ (x : Megacell). same_square n x) (same_square_true m n e) ∙ same_square_refl n) (λ e. ap (λ (x : Megacell). same_square m x) (same_square_true n m e) ∙ same_square_refl m)

pub true_when_counted : (b : Bool) → 1 ≤ bit b → b ≡ true
unfolding bit
true_when_counted true h = refl
true_when_counted false h = absurd (omega arith)

pub bit_at_most_one : (b : Bool) → bit b ≤ 1
unfolding bit
bit_at_most_one true = omega arith
bit_at_most_one false = omega arith

pub bit_of_either : (a b : Bool) → (a ≡ true → b ≡ false) → bit (a || b) ≡ bit a + bit b
unfolding bit
bit_of_either true b f = rw f refl
bit_of_either false true f = refl
bit_of_either false false f = refl

pub false_unless_true : (b : Bool) → (b ≡ true → ⊥) → b ≡ false
false_unless_true true f = absurd (f refl)
false_unless_true false f = refl

pub start_is_old : (s : Place) (ps : List Place) → old s ps (megacell_of s) ≡ true
unfolding old
start_is_old s [] = same_square_refl (megacell_of s)
start_is_old s (p ∷ ps) = or_right _ _ (start_is_old s ps)

pub here_is_old : (s : Place) (ps : List Place) → old s ps (megacell_of (here s ps)) ≡ true
unfolding old here
here_is_old s [] = same_square_refl (megacell_of s)
here_is_old s (p ∷ ps) = or_left _ _ (same_square_refl (megacell_of p))

pub old_stays_old : (s p : Place) (ps : List Place) (m : Megacell) → old s ps m ≡ true → old s (p ∷ ps) m ≡ true
unfolding old
old_stays_old s p ps m e = or_right _ _ e

pub entered_is_old : (s p : Place) (ps : List Place) → old s (p ∷ ps) (megacell_of p) ≡ true
unfolding old
entered_is_old s p ps = or_left _ _ (same_square_refl (megacell_of p))

-- a megacell that is old after a move is the one entered, or was old before
pub newly_old_is_entered : (s p : Place) (ps : List Place) (m : Megacell) → old s (p ∷ ps) m ≡ true → (megacell_of p ≡ m) ⊎ (old s ps m ≡ true)
unfolding old
newly_old_is_entered s p ps m e = elim (or_cases _ _ e) [ inl f ↦ inl (same_square_true (megacell_of p) m f) | inr f ↦ inr f ]

-- a move into an old megacell makes no other old
pub entering_old_ages_none : (s p : Place) (ps : List Place) (m : Megacell) → old s ps (megacell_of p) ≡ true → old s (p ∷ ps) m ≡ old s ps m
entering_old_ages_none s p ps m e = bools _ _
    (λ f. elim (newly_old_is_entered s p ps m f) [ inl g ↦ ap (old s ps) (sym g) ∙ e | inr g ↦ g ])
    (old_stays_old s p ps m)

-- the parent of an old megacell stays
pub parent_of_old_stays : (s p : Place) (ps : List Place) (m : Megacell) → old s ps m ≡ true → parent s (p ∷ ps) m ≡ parent s ps m
unfolding parent
parent_of_old_stays s p ps m e = rw e

-- the parent of a new megacell is the one that the rover left
pub parent_of_new_is_left : (s p : Place) (ps : List Place) (m : Megacell) → old s ps m ≡ false → megacell_of p ≡ m → parent s (p ∷ ps) m ≡ Some (megacell_of (here s ps))
unfolding parent
parent_of_new_is_left s p ps m e f = let g : same_square (megacell_of p) m ≡ true = ap (same_square (megacell_of p)) (sym f) ∙ same_square_refl (megacell_of p) in rw (e, g)

-- a parent after a move was the parent before, or the megacell is the new one and its parent the one left
pub parent_stays_or_is_left : (s p : Place) (ps : List Place) (m z : Megacell) → parent s (p ∷ ps) m ≡ Some z →
    ((old s ps m ≡ true) × (parent s ps m ≡ Some z)) ⊎ ((old s ps m ≡ false) × (megacell_of p ≡ m) × (z ≡ megacell_of (here s ps)))
unfolding parent
parent_stays_or_is_left s p ps m z = go (old s ps m) (same_square (megacell_of p) m) refl refl
  where
    go : (a b : Bool) → old s ps m ≡ a → same_square (megacell_of p) m ≡ b → cond a (parent s ps m) (cond b (Some (megacell_of (here s ps))) None) ≡ Some z →
        ((old s ps m ≡ true) × (parent s ps m ≡ Some z)) ⊎ ((old s ps m ≡ false) × (megacell_of p ≡ m) × (z ≡ megacell_of (here s ps)))
    go true b e f g = inl (e, g)
    go false true e f g = inr (e, same_square_true (megacell_of p) m f, cc)
    go false false e f g = inr (e, cc, cc)

-- whether the exit of a place leads to the parent of its megacell
unfoldable pub leads_to_parent : Place → List Place → Place → Bool
leads_to_parent s ps a = is_parent (beside (megacell_of a) (exit a)) (parent s ps (megacell_of a))

pub parent_when_is_parent : (o q : Option Megacell) (z : Megacell) → is_parent o q ≡ true → o ≡ Some z → q ≡ Some z
unfolding is_parent
parent_when_is_parent None q z e f = cc
parent_when_is_parent (Some y) None z e f = cc
parent_when_is_parent (Some y) (Some w) z e f = let k = same_square_true y w e in cc

pub is_parent_names_one : (o q : Option Megacell) → is_parent o q ≡ true → (z : Megacell) × (o ≡ Some z) × (q ≡ Some z)
unfolding is_parent
is_parent_names_one None q e = absurd (both_ways false refl e)
is_parent_names_one (Some y) None e = absurd (both_ways false refl e)
is_parent_names_one (Some y) (Some w) e = (y, refl, ap Some (sym (same_square_true y w e)))

pub same_is_parent : (o q : Option Megacell) (z : Megacell) → o ≡ Some z → q ≡ Some z → is_parent o q ≡ true
unfolding is_parent
same_is_parent o q z e f = rw (e, f, is_parent) (same_square_refl z)

-- how the tour goes on from a place of an old megacell: it crosses to the parent, or turns
unfoldable pub planned : Bool → Heading → Heading
planned true e = e
planned false e = left e

-- A plan of the rest of the tour, from the place p: each place leads to the next, and the last is the start.
abbrev pub Plan : Place → List Place → Place → List Place → Type 0
Plan s ps p [] = p ≡ s
Plan s ps p (b ∷ rest) = (b ≡ step (planned (leads_to_parent s ps p) (exit p)) p) × Plan s ps b rest

-- how many of the places still to be left have an exit that does not lead to the parent: each may cost a look
unfoldable pub unexamined : Place → List Place → Place → List Place → ℕ
unexamined s ps p [] = 0
unexamined s ps p (b ∷ rest) = bit (not (leads_to_parent s ps p)) + unexamined s ps b rest

pub leads_as_before : (s q : Place) (ps : List Place) (a : Place) → old s ps (megacell_of a) ≡ true → leads_to_parent s (q ∷ ps) a ≡ leads_to_parent s ps a
unfolding leads_to_parent
leads_as_before s q ps a e = ap (is_parent (beside (megacell_of a) (exit a))) (parent_of_old_stays s q ps (megacell_of a) e)

pub head_is_in : (a : Place) (ps : List Place) → 1 ≤ many (same_square a) (a ∷ ps)
unfolding many bit
head_is_in a ps = rw same_square_refl (omega arith)

pub tail_is_in : (a b : Place) (ps : List Place) → 1 ≤ many (same_square a) ps → 1 ≤ many (same_square a) (b ∷ ps)
unfolding many
tail_is_in a b ps h = omega arith

pub plan_stays : (s q : Place) (ps : List Place) (p : Place) (rest : List Place) → old s ps (megacell_of p) ≡ true →
    ((a : Place) → 1 ≤ many (same_square a) rest → old s ps (megacell_of a) ≡ true) → Plan s ps p rest → Plan s (q ∷ ps) p rest
plan_stays s q ps p [] e all k = k
plan_stays s q ps p (b ∷ rest) e all k =
    (rw (leads_as_before s q ps p e) k.0, plan_stays s q ps b rest (all b (head_is_in b rest)) (λ a h. all a (tail_is_in a b rest h)) k.1)

pub unexamined_stays : (s q : Place) (ps : List Place) (p : Place) (rest : List Place) → old s ps (megacell_of p) ≡ true →
    ((a : Place) → 1 ≤ many (same_square a) rest → old s ps (megacell_of a) ≡ true) → unexamined s (q ∷ ps) p rest ≡ unexamined s ps p rest
unfolding unexamined
unexamined_stays s q ps p [] e all = refl
unexamined_stays s q ps p (b ∷ rest) e all =
    let k = unexamined_stays s q ps b rest (all b (head_is_in b rest)) (λ a h. all a (tail_is_in a b rest h)) in
    let t = leads_as_before s q ps p e in
    cc

-- the places that the rover has left: the start and all that it entered but the last
abbrev pub Departed : Place → List Place → Place → Type 0
Departed s [] a = ⊥
Departed s (p ∷ ps) a = (a ≡ here s ps) ⊎ Departed s ps a

pub start_is_departed : (s p : Place) (ps : List Place) → Departed s (p ∷ ps) s
unfolding here
start_is_departed s p [] = inl refl
start_is_departed s p (q ∷ ps) = inr (start_is_departed s q ps)

pub entered_is_departed : (s p : Place) (ps : List Place) (a : Place) → 1 ≤ many (same_square a) ps → Departed s (p ∷ ps) a
unfolding here many bit
entered_is_departed s p [] a h = absurd (omega arith)
entered_is_departed s p (q ∷ ps) a h = go (same_square a q) refl h (entered_is_departed s q ps a)
  where
    go : (b : Bool) → same_square a q ≡ b → 1 ≤ bit b + many (same_square a) ps → (1 ≤ many (same_square a) ps → Departed s (q ∷ ps) a) → Departed s (p ∷ (q ∷ ps)) a
    go true e k more = inl (same_square_true a q e)
    go false e k more = inr (more (omega arith))
