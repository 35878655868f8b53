-- Every tour comes home: each megacell is counted once, the board has 1,024, and each takes four moves.
use Rattle.std.proofs.Common.{◌≡◌, ℕ, zero, suc, ◌+◌, ◌*◌, ◌<◌, ◌≤◌, Bool, true, false, ◌⊎◌, length, refl, ap, ◌∙◌, inl, inr, arith, length-append}
use Rattle.std.proofs.lemmas.Bool.{cases_lt, cases_Bool}
use Rattle.board.specs.Squares.{Place}
use Rattle.board.specs.Floors.{Floor, Lawful}
use Rattle.tour.specs.Tour.{tour, visited, tour_looks, home_after, Underway, ComesHome}
use Rattle.tour.proofs.Coverage.{LawsHold, laws_hold, olds_number, entered_length}
use Rattle.tour.proofs.Numbers.{among_first_at_most, all_are_among}

pub tour_length : (floor : Floor) (s : Place) (n : ℕ) → length (tour floor s n) ≡ n
unfolding tour
tour_length floor s zero = refl
tour_length floor s (suc n) = simp length-append (omega (arith, tour_length floor s n))

pub at_most_four_a_megacell : (floor : Floor) → Lawful floor → (s : Place) → (n c : ℕ) → c ≡ 1024 → Underway floor s n → n ≤ 4 * c
unfolding LawsHold
at_most_four_a_megacell floor law s n c e far =
    let h = laws_hold floor law s n far in
    let w = olds_number floor s (visited floor s n) h.1 (tour_looks floor s n) h.0 h.2 in
    let small = among_first_at_most c w.list w.once in
    let big = all_are_among c w.list e in
    omega (arith, w.size, h.2.size, entered_length s (tour floor s n), tour_length floor s n)

first_such : (P : ℕ → Bool) (n : ℕ) → ((k : ℕ) × (k < n) × (P k ≡ true) × ((j : ℕ) → j < k → P j ≡ false)) ⊎ ((k : ℕ) → k < n → P k ≡ false)
first_such P zero = inr (λ k h. absurd (omega arith))
first_such P (suc n) = elim (first_such P n) [
  | inl w ↦ inl (w.0, omega (arith, w.1), w.2, w.3)
  | inr never ↦ elim (cases_Bool (P n)) [
    | inl e ↦ inl (n, omega arith, e, never)
    | inr e ↦ inr (λ k h. elim (cases_lt k n) [
      | inl i ↦ never k i
      | inr i ↦ let q : k ≡ n = omega arith in ap P q ∙ e
    ])
  ]
]

comes_home_by : (floor : Floor) → Lawful floor → (s : Place) → (c : ℕ) → c ≡ 1024 →
    (n : ℕ) × (n < 4 * c + 1) × (home_after floor s n ≡ true) × Underway floor s n
comes_home_by floor law s c e = elim (first_such (λ k. home_after floor s k) (4 * c + 1)) [
  | inl w ↦ w
  | inr never ↦ absurd (omega (arith, at_most_four_a_megacell floor law s (4 * c + 1) c e never))
]

pub comes_home : ComesHome
comes_home floor law s = let w = comes_home_by floor law s 1024 refl in (w.0, omega (arith, w.1), w.2, w.3)
