-- The laws of a floor can be met, and the tours of the worked floors, by computation.
use Rattle.std.proofs.Common.{◌≡◌, ℕ, zero, suc, ◌+◌, ◌*◌, ◌<◌, Bool, true, false, not, ◌&&◌, Option, sym, refl, ap, ◌∙◌, subst, inl, inr, arith}
use Rattle.std.proofs.lemmas.Bool.{cases_lt, and_parts}
use Rattle.std.proofs.Math.Bool.{and_comm}
use Rattle.board.specs.Squares.{Megacell, Place, same_square, squared}
use Rattle.board.specs.Headings.{left, opposite, letter}
use Rattle.board.specs.Places.{megacell_of}
use Rattle.board.specs.Corners.{exit_of, corner_by, corner_of, exit}
use Rattle.board.specs.Steps.{beside, step}
use Rattle.board.specs.Counting.{bit, many}
use Rattle.board.specs.Floors.{Floor, Lawful}
use Rattle.board.proofs.Geometry.{beside_back}
use Rattle.tour.specs.History.{here, old, parent, home, walk, entered}
use Rattle.tour.specs.Rules.{is_parent, absent_or_old, ruled, next_move}
use Rattle.tour.specs.Ground.{Ground, Number}
use Rattle.tour.specs.Tour.{tour, letters, tour_looks, home_after, Underway}
use Rattle.tour.specs.Examples.{is_free, between, shut, wide, LawsMet, one, two, three, square, at11, at33, HomeBy, WorkedFloors}
use Rattle.tour.proofs.Coverage.{covers}
use Rattle.tour.proofs.Home.{tour_length}

and_false : (a : Bool) → (a && false) ≡ false
and_false true = refl
and_false false = refl

between_is_lawful : (free : Megacell → Bool) → Lawful (between free)
unfolding between is_free
between_is_lawful free = record {
  both = λ m n h e. ap (λ (o : Option Megacell). free m && is_free free o) e ∙ and_comm (free m) (free n) ∙ sym (ap (λ (o : Option Megacell). free n && is_free free o) (beside_back h m n e));
  edge = λ m h e. ap (λ (o : Option Megacell). free m && is_free free o) e ∙ and_false (free m);
}

shut_is_lawful : Lawful shut
unfolding shut
shut_is_lawful = record { both = λ m n h e. refl; edge = λ m h e. refl }

pub laws_met : LawsMet
unfolding wide
laws_met = record { shut_is = shut_is_lawful; wide_is = between_is_lawful (λ m. true); between_is = between_is_lawful }

-- a test that fails at every number below n
unfoldable fails_below : (ℕ → Bool) → ℕ → Bool
fails_below test zero = true
fails_below test (suc n) = not (test n) && fails_below test n

false_when_not : (b : Bool) → not b ≡ true → b ≡ false
false_when_not true e = sym e
false_when_not false e = refl

fails_below_lem : (test : ℕ → Bool) (n : ℕ) → fails_below test n ≡ true → (k : ℕ) → k < n → test k ≡ false
unfolding fails_below
fails_below_lem test zero e k h = absurd (omega arith)
fails_below_lem test (suc n) e k h =
    let w = and_parts (not (test n)) (fails_below test n) e in
    elim (cases_lt k n) [
      | inl i ↦ fails_below_lem test n w.1 k i
      | inr i ↦ let q : k ≡ n = omega arith in ap test q ∙ false_when_not (test n) w.0
    ]

-- a tour that is home by its nth move has n / 4 megacells to its ground
ground_of_home : (floor : Floor) → Lawful floor → (s : Place) (n k : ℕ) → Underway floor s n → home_after floor s n ≡ true → n ≡ 4 * k → Number (Ground floor s) k
ground_of_home floor law s n k far e size =
    let w = (covers floor law s n far).four e in
    subst (λ (j : ℕ). Number (Ground floor s) j) (omega (arith, w.2, tour_length floor s n)) w.1

home_by : (floor : Floor) → Lawful floor → (s : Place) (n looks k : ℕ) → tour_looks floor s n ≡ looks → home_after floor s n ≡ true → fails_below (home_after floor s) n ≡ true → n ≡ 4 * k → HomeBy floor s n looks k
home_by floor law s n looks k l e f size =
    let far : Underway floor s n = fails_below_lem (home_after floor s) n f in
    record { looked = l; comes = e; underway = far; ground = ground_of_home floor law s n k far e size }

-- all that a tour computes with, to be named on an `unfolding` line
unfoldable whole_tour : ℕ
unfolding left opposite letter squared same_square megacell_of exit_of corner_by corner_of exit beside step bit many here old parent home walk entered is_parent absent_or_old ruled next_move tour tour_looks is_free between shut one two three square at11 at33 letters fails_below
whole_tour = 0

pub worked_floors : WorkedFloors
unfolding whole_tour
worked_floors = record {
  one_tour = refl;
  one_home = home_by (between one) (between_is_lawful one) at11 4 2 1 refl refl refl refl;
  two_tour = refl;
  two_home = home_by (between two) (between_is_lawful two) at11 8 4 2 refl refl refl refl;
  three_tour = refl;
  three_home = home_by (between three) (between_is_lawful three) at11 12 6 3 refl refl refl refl;
  square_home = home_by (between square) (between_is_lawful square) at11 16 7 4 refl refl refl refl;
  inner_home = home_by shut shut_is_lawful at33 4 (3 * 1 + 1) 1 refl refl refl refl;
}
