-- How far a run drove, from what a sweep promises of it.
use Rattle.std.proofs.Common.{◌≡◌, ℕ, ◌+◌, ◌-◌, ◌<◌, ◌≤◌, Bool, true, false, List, ◌++◌, length, get_or, take, drop, sym, refl, ap, ◌∙◌, subst, inl, inr, arith, length-drop}
use Rattle.std.proofs.lemmas.Bool.{cases_lt}
use Rattle.std.proofs.lemmas.List.{same_lists, get_or_default, get_or-drop, take-append-drop}
use Rattle.firsts.proofs.Firsts.{first_none, first_here}
use Rattle.board.specs.Squares.{Place}
use Rattle.board.specs.Floors.{Floor}
use Rattle.tour.specs.Tour.{home_after, Underway}
use Rattle.sweep.specs.Promise.{SameFrom}
use Rattle.survey.specs.Course.{or_else, moves_in}

home_in : (floor : Floor) (s : Place) (bytes n : ℕ) → Underway floor s n → home_after floor s n ≡ true → n < bytes → moves_in floor s bytes ≡ n
unfolding moves_in
home_in floor s bytes n u h l = ap (λ o. or_else o bytes) (first_here (home_after floor s) n bytes (first_none (home_after floor s) n u) h l)

never_in : (floor : Floor) (s : Place) (bytes : ℕ) → Underway floor s bytes → moves_in floor s bytes ≡ bytes
unfolding moves_in
never_in floor s bytes u = ap (λ o. or_else o bytes) (first_none (home_after floor s) bytes u)

-- a run that ended home, or for want of bytes, made just those moves
pub moves_are : (floor : Floor) (s : Place) (bytes n : ℕ) (is_home : Bool) → Underway floor s n → is_home ≡ home_after floor s n → (is_home ≡ false → n ≡ bytes) → n ≤ bytes → n ≡ moves_in floor s bytes
moves_are floor s bytes n true u e d l =
    elim (cases_lt n bytes) [
      | inl h ↦ sym (home_in floor s bytes n u (sym e) h)
      | inr h ↦ let q : n ≡ bytes = omega arith in q ∙ sym (never_in floor s bytes (subst (λ k. Underway floor s k) q u))
    ]
moves_are floor s bytes n false u e d l = let q = d refl in q ∙ sym (never_in floor s bytes (subst (λ k. Underway floor s k) q u))

-- a buffer whose front is a text, and the same as before from there on
pub front_and_rest : (n : ℕ) (text before after : List ℕ) → length after ≡ length before → take n after ≡ text → SameFrom n before after → after ≡ text ++ drop n before
front_and_rest n text before after l e r =
    sym (take-append-drop n after)
    ∙ ap (λ w. w ++ drop n after) e
    ∙ ap (λ w. text ++ w) (same_lists (drop n after) (drop n before) even (λ k d h. same k d h))
  where
    even : length (drop n after) ≡ length (drop n before)
    even = length-drop n after ∙ ap (λ k. k - n) l ∙ sym (length-drop n before)

    same : (k d : ℕ) → k < length (drop n after) → get_or (drop n after) k d ≡ get_or (drop n before) k d
    same k d h =
        get_or_default (drop n after) k d 0 h
        ∙ get_or-drop n after k 0
        ∙ r (n + k) (omega arith)
        ∙ sym (get_or-drop n before k 0)
        ∙ get_or_default (drop n before) k 0 d (omega (arith, even))
