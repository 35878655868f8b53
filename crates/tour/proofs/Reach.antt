-- What is known of the tour that the rules give, as laws from one move to the next: for code that makes it move by move, and for theorems about it.
use Rattle.std.proofs.Common.{◌≡◌, ℕ, ◌+◌, ◌*◌, ◌<◌, ◌≤◌, true, false, [], ◌∷◌, sym, refl, ap, ◌∙◌, inl, inr, add-one, arith}
use Rattle.std.proofs.lemmas.Bool.{both_ways, cases_lt}
use Rattle.board.specs.Squares.{Place}
use Rattle.board.specs.Steps.{step}
use Rattle.board.specs.Counting.{bit}
use Rattle.board.specs.Floors.{Floor, Lawful}
use Rattle.tour.specs.History.{here, entered}
use Rattle.tour.specs.Ground.{Ground, Number}
use Rattle.tour.specs.Tour.{tour, visited, move_after, tour_looks, home_after, Underway}
use Rattle.tour.proofs.Coverage.{covers, walk_one_more}
use Rattle.tour.proofs.Home.{at_most_four_a_megacell, tour_length, comes_home}
use Rattle.tour.proofs.Numbers.{one_number}

-- the history of one move more: the place that it enters, before the others
pub one_move_enters : (floor : Floor) (s : Place) (n : ℕ) →
    entered s (tour floor s (n + 1)) ≡ step (move_after floor s n).heading (here s (visited floor s n)) ∷ visited floor s n
unfolding entered tour
one_move_enters floor s n = rw (add-one n) (walk_one_more s [] (tour floor s n) _)

-- and its looks
pub one_move_looks : (floor : Floor) (s : Place) (n : ℕ) → tour_looks floor s (n + 1) ≡ tour_looks floor s n + bit (move_after floor s n).looked
unfolding tour_looks
one_move_looks floor s n = rw (add-one n) refl

module _ (floor : Floor) (law : Lawful floor) (s : Place) where
  -- no tour has more than 4,096 moves until home
  pub at_most_4096_moves : (n : ℕ) → Underway floor s n → n ≤ 4096
  at_most_4096_moves n far = at_most_4096_by 1024 refl
    where
      at_most_4096_by : (c : ℕ) → c ≡ 1024 → n ≤ 4096
      at_most_4096_by c e = omega (arith, at_most_four_a_megacell floor law s n c e far)

  -- a move from a place that is not home keeps the tour under way
  pub underway_one_more : (n : ℕ) → Underway floor s n → home_after floor s n ≡ false → Underway floor s (n + 1)
  underway_one_more n far e k h = elim (cases_lt k n) [
    | inl i ↦ far k i
    | inr i ↦ let q : k ≡ n = omega arith in ap (λ (x : ℕ). home_after floor s x) q ∙ e
  ]

  -- the tour is home at four moves for each megacell of the ground, and at no move before
  pub home_at_four_a_megacell : (n : ℕ) → Underway floor s n → home_after floor s n ≡ true → (k : ℕ) → Number (Ground floor s) k → n ≡ 4 * k
  home_at_four_a_megacell n far e k w =
      let f = (covers floor law s n far).four e in
      omega (arith, tour_length floor s n, f.2, one_number.ground floor s k f.0 w f.1)

  pub not_home_before_four_a_megacell : (n : ℕ) → Underway floor s n → home_after floor s n ≡ false → (k : ℕ) → Number (Ground floor s) k → n < 4 * k
  not_home_before_four_a_megacell n far e k w =
      let c = comes_home floor law s in
      let z = home_at_four_a_megacell c.0 c.3 c.2 k w in
      elim (cases_lt n c.0) [
        | inl i ↦ omega arith
        | inr i ↦ elim (cases_lt c.0 n) [
          | inl j ↦ absurd (both_ways _ (far c.0 j) c.2)
          | inr j ↦ let q : n ≡ c.0 = omega arith in absurd (both_ways _ (ap (λ (x : ℕ). home_after floor s x) (sym q) ∙ e) c.2)
        ]
      ]

  -- the ground has a number
  pub ground_has_number : (k : ℕ) × Number (Ground floor s) k
  ground_has_number = let c = comes_home floor law s in let f = (covers floor law s c.0 c.3).four c.2 in (f.0, f.1)
