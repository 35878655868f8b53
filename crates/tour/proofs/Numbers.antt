-- How many megacells have a property: one number and no other, at most 1,024; and what a move does to the number of old ones.
use Rattle.std.proofs.Common.{◌≡◌, ℕ, zero, suc, ◌+◌, ◌*◌, ◌/◌, ◌%◌, ◌<◌, ◌≤◌, true, false, List, [], ◌∷◌, length, sym, refl, ap, ◌∙◌, inl, inr, arith}
use Rattle.std.proofs.lemmas.Bool.{both_ways, cases_lt, cases_Bool}
use Rattle.board.specs.Squares.{Megacell, Place, same_square}
use Rattle.board.specs.Places.{megacell_of}
use Rattle.board.specs.Counting.{bit, many}
use Rattle.tour.specs.History.{old}
use Rattle.tour.specs.Ground.{Ground, Number, OneNumber}
use Rattle.board.proofs.Geometry.{square_path, same_square_refl, same_square_true}
use Rattle.tour.proofs.History.{bit_at_most_one, true_when_counted, entering_old_ages_none, newly_old_is_entered, old_stays_old, entered_is_old, same_megacell_sym}

-- the megacell with this number among the 1,024
wraps : (k : ℕ) → k % 32 < 32
wraps k = omega arith

megacell_at : ℕ → Megacell
megacell_at k = record { row = (k / 32) % 32; column = k % 32; rows = wraps (k / 32); columns = wraps k }

-- how often the first n megacells of the board, row by row, stand in a list
pub among_first : ℕ → List Megacell → ℕ
among_first zero xs = 0
among_first (suc k) xs = many (same_square (megacell_at k)) xs + among_first k xs

pub among_first_at_most : (n : ℕ) (xs : List Megacell) → ((m : Megacell) → many (same_square m) xs ≤ 1) → among_first n xs ≤ n
unfolding among_first
among_first_at_most zero xs h = omega arith
among_first_at_most (suc n) xs h = omega (arith, h (megacell_at n), among_first_at_most n xs h)

among_first_of_more : (n : ℕ) (x : Megacell) (xs : List Megacell) → among_first n (x ∷ xs) ≡ among_first n (x ∷ []) + among_first n xs
unfolding among_first many
among_first_of_more zero x xs = refl
among_first_of_more (suc n) x xs = omega (arith, among_first_of_more n x xs)

one_is_among : (n k : ℕ) (x : Megacell) → k < n → same_square (megacell_at k) x ≡ true → 1 ≤ among_first n (x ∷ [])
unfolding among_first many bit
one_is_among zero k x h e = absurd (omega arith)
one_is_among (suc n) k x h e = elim (cases_lt k n) [
  | inl i ↦ omega (arith, one_is_among n k x i e)
  | inr i ↦ let q : k ≡ n = omega arith in omega (arith, ap bit (ap (λ (j : ℕ). same_square (megacell_at j) x) (sym q) ∙ e))
]

each_is_among : (n : ℕ) (m : Megacell) → n ≡ 1024 → 1 ≤ among_first n (m ∷ [])
unfolding megacell_at
each_is_among n m e =
    let k = 32 * m.row + m.column in
    one_is_among n k m (omega arith) (ap (λ (x : Megacell). same_square x m) (square_path (megacell_at k) m (omega arith) (omega arith)) ∙ same_square_refl m)

pub all_are_among : (n : ℕ) (xs : List Megacell) → n ≡ 1024 → length xs ≤ among_first n xs
unfolding many bit
all_are_among n [] e = omega arith
all_are_among n (x ∷ xs) e =
    omega (arith, among_first_of_more n x xs, each_is_among n x e, all_are_among n xs e)

megacell_at_injective : (j k : ℕ) → j < 1024 → k < 1024 → megacell_at j ≡ megacell_at k → j ≡ k
unfolding megacell_at
megacell_at_injective j k h i e = omega (arith, ap (λ (m : Megacell). m.row) e, ap (λ (m : Megacell). m.column) e)

absent_is_not_among : (n : ℕ) (x : Megacell) → ((k : ℕ) → k < n → same_square (megacell_at k) x ≡ false) → among_first n (x ∷ []) ≡ 0
unfolding among_first many bit
absent_is_not_among zero x h = refl
absent_is_not_among (suc n) x h = omega (arith, ap bit (h n (omega arith)), absent_is_not_among n x (λ k i. h k (omega arith)))

one_is_among_once : (n : ℕ) (x : Megacell) → n ≤ 1024 → among_first n (x ∷ []) ≤ 1
unfolding among_first many bit
one_is_among_once zero x h = omega arith
one_is_among_once (suc n) x h = elim (cases_Bool (same_square (megacell_at n) x)) [
  | inl e ↦ omega (
    arith,
    ap bit e,
    absent_is_not_among n x (λ k i. elim (cases_Bool (same_square (megacell_at k) x)) [
      | inl f ↦ absurd (omega (arith, megacell_at_injective k n (omega arith) (omega arith) (same_square_true _ _ f ∙ sym (same_square_true _ _ e))))
      | inr f ↦ f
    ]),
  )
  | inr e ↦ omega (arith, ap bit e, one_is_among_once n x (omega arith))
]

none_are_among : (n : ℕ) → among_first n [] ≤ 0
unfolding among_first many
none_are_among zero = omega arith
none_are_among (suc n) = omega (arith, none_are_among n)

among_first_at_most_all : (n : ℕ) (xs : List Megacell) → n ≤ 1024 → among_first n xs ≤ length xs
among_first_at_most_all n [] h = none_are_among n
among_first_at_most_all n (x ∷ xs) h = omega (arith, among_first_of_more n x xs, one_is_among_once n x h, among_first_at_most_all n xs h)

among_first_of_same : (n : ℕ) (xs ys : List Megacell) → ((m : Megacell) → many (same_square m) xs ≡ many (same_square m) ys) → among_first n xs ≡ among_first n ys
unfolding among_first
among_first_of_same zero xs ys h = refl
among_first_of_same (suc n) xs ys h = omega (arith, h (megacell_at n), among_first_of_same n xs ys h)

module _ (P : Megacell → Type 0) (j k : ℕ) (a : Number P j) (b : Number P k) where
  same_listed : (m : Megacell) → many (same_square m) a.list ≡ many (same_square m) b.list
  same_listed m = elim (cases_lt 0 (many (same_square m) a.list)) [
    | inl h ↦ omega (arith, a.once m, b.once m, b.each m (a.only m h))
    | inr h ↦ elim (cases_lt 0 (many (same_square m) b.list)) [
      | inl i ↦ absurd (omega (arith, a.each m (b.only m i)))
      | inr i ↦ omega arith
    ]
  ]

  one_number_by : (n : ℕ) → n ≡ 1024 → j ≡ k
  one_number_by n e = omega (
    arith,
    a.size,
    b.size,
    among_first_of_same n a.list b.list same_listed,
    among_first_at_most_all n a.list (omega arith),
    among_first_at_most_all n b.list (omega arith),
    all_are_among n a.list e,
    all_are_among n b.list e,
  )

pub one_number : OneNumber
one_number = record {
  ground = λ floor s j k a b. one_number_by (Ground floor s) j k a b 1024 refl;
  tested = λ test j k a b. one_number_by (λ m. test m ≡ true) j k a b 1024 refl;
}

at_most_1024_by : (P : Megacell → Type 0) (k c : ℕ) → c ≡ 1024 → Number P k → k ≤ c
at_most_1024_by P k c e w = omega (arith, w.size, among_first_at_most c w.list w.once, all_are_among c w.list e)

-- the board has 1,024 megacells
pub at_most_1024 : (P : Megacell → Type 0) (k : ℕ) → Number P k → k ≤ 1024
at_most_1024 P k w = at_most_1024_by P k 1024 refl w

-- before any move, one megacell is old: the start's
pub one_old_at_start : (s : Place) → Number (λ m. old s [] m ≡ true) 1
unfolding old many bit
one_old_at_start s = record {
  list = megacell_of s ∷ [];
  size = refl;
  once = λ m. omega (arith, bit_at_most_one (same_square m (megacell_of s)));
  only = λ m h. same_megacell_sym (megacell_of s) m ∙ true_when_counted _ (omega arith);
  each = λ m e. omega (arith, ap bit (same_megacell_sym m (megacell_of s) ∙ e));
}

-- a move into an old megacell leaves the number of old ones, and a move into a new one adds one
pub number_stays : (s q : Place) (ps : List Place) (k : ℕ) → old s ps (megacell_of q) ≡ true → Number (λ m. old s ps m ≡ true) k → Number (λ m. old s (q ∷ ps) m ≡ true) k
number_stays s q ps k o w = record {
  list = w.list;
  size = w.size;
  once = w.once;
  only = λ m h. old_stays_old s q ps m (w.only m h);
  each = λ m e. w.each m (sym (entering_old_ages_none s q ps m o) ∙ e);
}

pub number_grows : (s q : Place) (ps : List Place) (k : ℕ) → old s ps (megacell_of q) ≡ false → Number (λ m. old s ps m ≡ true) k → Number (λ m. old s (q ∷ ps) m ≡ true) (k + 1)
unfolding many bit
number_grows s q ps k o w = record {
  list = megacell_of q ∷ w.list;
  size = omega (arith, w.size);
  once = λ m. elim (cases_Bool (same_square m (megacell_of q))) [
    | inl e ↦ elim (cases_lt 0 (many (same_square m) w.list)) [
      | inl i ↦ absurd (both_ways _ o (ap (old s ps) (sym (same_square_true m (megacell_of q) e)) ∙ w.only m i))
      | inr i ↦ omega (arith, ap bit e)
    ]
    | inr e ↦ omega (arith, ap bit e, w.once m)
  ];
  only = λ m h. elim (cases_Bool (same_square m (megacell_of q))) [
    | inl e ↦ ap (old s (q ∷ ps)) (same_square_true m (megacell_of q) e) ∙ entered_is_old s q ps
    | inr e ↦ old_stays_old s q ps m (w.only m (omega (arith, ap bit e)))
  ];
  each = λ m e. elim (newly_old_is_entered s q ps m e) [
    | inl f ↦ omega (arith, ap bit (ap (same_square m) f ∙ same_square_refl m))
    | inr f ↦ omega (arith, w.each m f)
  ];
}
