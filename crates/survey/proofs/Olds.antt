-- The old megacells, counted along the history, are as many as there are.
use Rattle.std.proofs.Common.{◌≡◌, ◌+◌, ◌≤◌, Bool, true, false, cond, not, ◌||◌, List, [], ◌∷◌, length, sym, refl, ap, ◌∙◌, arith}
use Rattle.std.proofs.lemmas.Bool.{both_ways}
use Rattle.board.specs.Squares.{Megacell, Place, same_square}
use Rattle.board.specs.Counting.{bit, many}
use Rattle.board.specs.Places.{megacell_of}
use Rattle.board.proofs.Geometry.{same_square_true, same_square_refl, bools}
use Rattle.tour.specs.History.{old}
use Rattle.tour.specs.Ground.{listed, Number}
use Rattle.survey.specs.Course.{old_count}

-- the old megacells, each when it was entered first
unfoldable olds : Place → List Place → List Megacell
olds s [] = megacell_of s ∷ []
olds s (p ∷ ps) = cond (old s ps (megacell_of p)) (olds s ps) (megacell_of p ∷ olds s ps)

same_swapped : (m n : Megacell) → same_square m n ≡ same_square n m
same_swapped m n = bools _ _
    (λ e. let q = same_square_true m n e in ap (λ x. same_square n x) q ∙ same_square_refl n)
    (λ e. let q = same_square_true n m e in ap (λ x. same_square m x) q ∙ same_square_refl m)

length_by : (b : Bool) (m : Megacell) (ms : List Megacell) → length (cond b ms (m ∷ ms)) ≡ length ms + bit (not b)
unfolding bit
length_by true m ms = omega arith
length_by false m ms = omega arith

olds_length : (s : Place) (ps : List Place) → length (olds s ps) ≡ old_count s ps
unfolding olds old_count
olds_length s [] = refl
olds_length s (p ∷ ps) = length_by (old s ps (megacell_of p)) (megacell_of p) (olds s ps) ∙ ap (λ n. n + bit (not (old s ps (megacell_of p)))) (olds_length s ps)

listed_by : (b : Bool) (m q : Megacell) (ms : List Megacell) (o : Bool) → listed m ms ≡ bit o → (b ≡ true → same_square q m ≡ true → o ≡ true) → (b ≡ false → same_square q m ≡ true → o ≡ false) → listed m (cond b ms (q ∷ ms)) ≡ bit (same_square q m || o)
unfolding bit many
listed_by true m q ms o e f g = e ∙ go (same_square q m) o (f refl)
  where
    go : (t u : Bool) → (t ≡ true → u ≡ true) → bit u ≡ bit (t || u)
    go true u h = ap bit (h refl)
    go false u h = refl
listed_by false m q ms o e f g = ap (λ n. bit (same_square m q) + n) e ∙ ap (λ t. bit t + bit o) (same_swapped m q) ∙ go (same_square q m) o (g refl)
  where
    go : (t u : Bool) → (t ≡ true → u ≡ false) → bit t + bit u ≡ bit (t || u)
    go true true h = absurd (both_ways true (h refl) refl)
    go true false h = refl
    go false true h = refl
    go false false h = refl

olds_listed : (s : Place) (ps : List Place) (m : Megacell) → listed m (olds s ps) ≡ bit (old s ps m)
unfolding olds old many bit
olds_listed s [] m = ap (λ t. bit t + 0) (same_swapped m (megacell_of s)) ∙ omega arith
olds_listed s (p ∷ ps) m =
    listed_by (old s ps (megacell_of p)) m (megacell_of p) (olds s ps) (old s ps m) (olds_listed s ps m)
    (λ e t. ap (old s ps) (sym (same_square_true (megacell_of p) m t)) ∙ e)
    (λ e t. ap (old s ps) (sym (same_square_true (megacell_of p) m t)) ∙ e)

bit_at_most : (b : Bool) → bit b ≤ 1
unfolding bit
bit_at_most true = omega arith
bit_at_most false = omega arith

bit_some : (b : Bool) → 1 ≤ bit b → b ≡ true
unfolding bit
bit_some true h = refl
bit_some false h = absurd (omega arith)

bit_true : (b : Bool) → b ≡ true → bit b ≡ 1
unfolding bit
bit_true b e = ap bit e

pub old_number : (s : Place) (ps : List Place) → Number (λ m. old s ps m ≡ true) (old_count s ps)
old_number s ps = record {
  list = olds s ps;
  size = olds_length s ps;
  once = λ m. omega (arith, olds_listed s ps m, bit_at_most (old s ps m));
  only = λ m h. bit_some (old s ps m) (omega (arith, olds_listed s ps m));
  each = λ m e. omega (arith, olds_listed s ps m, bit_true (old s ps m) e);
}
