-- The board, as the theory needs it.
use Rattle.std.proofs.Common.{◌≡◌, ℕ, ◌+◌, ◌*◌, ◌%◌, ◌<◌, Bool, true, false, cond, ◌&&◌, T, eqb, ltb, Some, None, Option, sym, refl, ap, ◌∙◌, arith, ltb→lt, lt→ltb}
use Rattle.std.proofs.lemmas.Bool.{eqb-true, eqb-false, eq-eqb, and_parts, and_from}
use Rattle.std.proofs.lemmas.Bool.Decides.{nat_tests}
use mathlib.Core.HLevel.{is_prop→PathP}
use native.Mathlib.Bridge.{le_prop}
use Rattle.board.specs.declared.heading.Heading.{Heading}
use Rattle.board.specs.declared.heading.Heading.TheVariants.{North, East, South, West}
use Rattle.board.specs.declared.square.Square.{Square}
use Rattle.board.specs.Squares.{Megacell, Place, squared_by, squared, same_square}
use Rattle.board.specs.Headings.{left, right, opposite, same_heading, heading_number}
use Rattle.board.specs.Places.{megacell_of}
use Rattle.board.specs.Corners.{exit_of, corner_by, corner_of, exit, subcell}
use Rattle.board.specs.Steps.{beside, or_stay, step}
use Rattle.board.specs.Counting.{bit}

pub square_path : {side : ℕ} (s t : Square side) → s.row ≡ t.row → s.column ≡ t.column → s ≡ t
square_path {side} s t e f =
    λ i. record {
      row = e i;
      column = f i;
      rows = is_prop→PathP (λ k. e k < side) (λ k. le_prop) s.rows t.rows i;
      columns = is_prop→PathP (λ k. f k < side) (λ k. le_prop) s.columns t.columns i;
    }

-- The square at two numbers.

squared_by_in : {side : ℕ} (r c : ℕ) (s : Square side) (a b : Bool) (h : T a → r < side) (k : T b → c < side) → r ≡ s.row → c ≡ s.column → T a → T b → squared_by r c a b h k ≡ Some s
squared_by_in r c s true true h k e f x y = ap Some (square_path _ s e f)
squared_by_in r c s true false h k e f x y = elim y [ ]
squared_by_in r c s false b h k e f x y = elim x [ ]

pub squared_at : {side : ℕ} (r c : ℕ) (s : Square side) → r ≡ s.row → c ≡ s.column → squared side r c ≡ Some s
unfolding squared
squared_at {side} r c s e f = squared_by_in r c s _ _ (ltb→lt r side) (ltb→lt c side) e f (lt→ltb r side (omega arith)) (lt→ltb c side (omega arith))

pub squared_in : {side : ℕ} (s : Square side) → squared side s.row s.column ≡ Some s
squared_in s = squared_at s.row s.column s refl refl

squared_by_some : {side : ℕ} (r c : ℕ) (s : Square side) (a b : Bool) (h : T a → r < side) (k : T b → c < side) → squared_by r c a b h k ≡ Some s → (s.row ≡ r) × (s.column ≡ c)
squared_by_some {side} r c s true true h k e = let q : record { row = r; column = c; rows = h tt; columns = k tt } ≡ s = cc in (ap (λ (x : Square side). x.row) (sym q), ap (λ (x : Square side). x.column) (sym q))
squared_by_some r c s true false h k e = (cc, cc)
squared_by_some r c s false b h k e = (cc, cc)

pub squared_some : {side : ℕ} (r c : ℕ) (s : Square side) → squared side r c ≡ Some s → (s.row ≡ r) × (s.column ≡ c)
unfolding squared
squared_some {side} r c s e = squared_by_some r c s (ltb r side) (ltb c side) (ltb→lt r side) (ltb→lt c side) e

pub same_square_true : {side : ℕ} (s t : Square side) → same_square s t ≡ true → s ≡ t
unfolding same_square
same_square_true s t e = let k = and_parts (eqb s.row t.row) (eqb s.column t.column) e in square_path s t (eqb-true _ _ k.0) (eqb-true _ _ k.1)

pub same_square_refl : {side : ℕ} (s : Square side) → same_square s s ≡ true
unfolding same_square
same_square_refl s = and_from _ _ (eq-eqb s.row s.row refl) (eq-eqb s.column s.column refl)

pub megacell_subcell : (m : Megacell) (h : Heading) → megacell_of (subcell m h) ≡ m
unfolding subcell megacell_of
megacell_subcell m North = square_path _ m (omega arith) (omega arith)
megacell_subcell m East = square_path _ m (omega arith) (omega arith)
megacell_subcell m South = square_path _ m (omega arith) (omega arith)
megacell_subcell m West = square_path _ m (omega arith) (omega arith)

even : (n k : ℕ) → n ≡ 2 * k → eqb (n % 2) 0 ≡ true
even n k e = eq-eqb (n % 2) 0 (omega arith)

odd : (n k : ℕ) → n ≡ 2 * k + 1 → eqb (n % 2) 0 ≡ false
odd n k e = grind (arith, nat_tests)

pub exit_subcell : (m : Megacell) (h : Heading) → exit (subcell m h) ≡ h
unfolding subcell exit exit_of corner_by corner_of
exit_subcell m North = rw (even (2 * m.row) m.row refl, odd (2 * m.column + 1) m.column refl)
exit_subcell m East = rw (odd (2 * m.row + 1) m.row refl, odd (2 * m.column + 1) m.column refl)
exit_subcell m South = rw (odd (2 * m.row + 1) m.row refl, even (2 * m.column) m.column refl)
exit_subcell m West = rw (even (2 * m.row) m.row refl, even (2 * m.column) m.column refl)

pub subcell_own : (p : Place) → subcell (megacell_of p) (exit p) ≡ p
unfolding subcell exit exit_of corner_by corner_of megacell_of
subcell_own p = go (eqb (p.row % 2) 0) (eqb (p.column % 2) 0) refl refl
  where
    go : (a b : Bool) → eqb (p.row % 2) 0 ≡ a → eqb (p.column % 2) 0 ≡ b → subcell (megacell_of p) (exit_of (corner_by a b)) ≡ p
    go true true e f = square_path _ p (omega (arith, eqb-true _ _ e)) (omega (arith, eqb-true _ _ f))
    go true false e f = square_path _ p (omega (arith, eqb-true _ _ e)) (omega (arith, eqb-false _ _ f))
    go false false e f = square_path _ p (omega (arith, eqb-false _ _ e)) (omega (arith, eqb-false _ _ f))
    go false true e f = square_path _ p (omega (arith, eqb-false _ _ e)) (omega (arith, eqb-true _ _ f))

-- what a heading does to a row and a column, r and c, of places as of megacells
abbrev pub Next : Heading → (r c s d : ℕ) → Type 0
Next North r c s d = (s + 1 ≡ r) × (d ≡ c)
Next East r c s d = (s ≡ r) × (d ≡ c + 1)
Next South r c s d = (s ≡ r + 1) × (d ≡ c)
Next West r c s d = (s ≡ r) × (d + 1 ≡ c)

abbrev pub Steps : {side : ℕ} → Heading → Square side → Square side → Type 0
Steps h s t = Next h s.row s.column t.row t.column

-- the way back
pub next_back : (h : Heading) (r c s d : ℕ) → Next h r c s d → Next (opposite h) s d r c
unfolding opposite
next_back North r c s d k = omega arith
next_back East r c s d k = omega arith
next_back South r c s d k = omega arith
next_back West r c s d k = omega arith

-- one heading leads there
pub next_inj : (h k : Heading) (r c s d : ℕ) → Next h r c s d → Next k r c s d → h ≡ k
next_inj North North r c s d a b = refl
next_inj North East r c s d a b = absurd (omega arith)
next_inj North South r c s d a b = absurd (omega arith)
next_inj North West r c s d a b = absurd (omega arith)
next_inj East North r c s d a b = absurd (omega arith)
next_inj East East r c s d a b = refl
next_inj East South r c s d a b = absurd (omega arith)
next_inj East West r c s d a b = absurd (omega arith)
next_inj South North r c s d a b = absurd (omega arith)
next_inj South East r c s d a b = absurd (omega arith)
next_inj South South r c s d a b = refl
next_inj South West r c s d a b = absurd (omega arith)
next_inj West North r c s d a b = absurd (omega arith)
next_inj West East r c s d a b = absurd (omega arith)
next_inj West South r c s d a b = absurd (omega arith)
next_inj West West r c s d a b = refl

not_zero : (n k : ℕ) → k + 1 ≡ n → eqb n 0 ≡ false
not_zero n k e = grind (arith, nat_tests)

pub beside_is : {side : ℕ} (h : Heading) (s t : Square side) → Steps h s t → beside s h ≡ Some t
unfolding beside
beside_is North s t k = rw (not_zero s.row t.row k.0) (squared_at _ _ t (omega arith) (omega arith))
beside_is East s t k = squared_at _ _ t (omega arith) (omega arith)
beside_is South s t k = squared_at _ _ t (omega arith) (omega arith)
beside_is West s t k = rw (not_zero s.column t.column k.1) (squared_at _ _ t (omega arith) (omega arith))

unless : {A : Type 0} (b : Bool) (o : Option A) (y : A) → cond b None o ≡ Some y → (b ≡ false) × (o ≡ Some y)
unless true o y e = (cc, cc)
unless false o y e = (refl, e)

-- what a neighbour's numbers are
pub some_steps : {side : ℕ} (h : Heading) (s t : Square side) → beside s h ≡ Some t → Steps h s t
unfolding beside
some_steps North s t e = let k = unless _ _ t e in let w = squared_some _ _ t k.1 in let z = eqb-false _ _ k.0 in omega arith
some_steps East s t e = let w = squared_some _ _ t e in omega arith
some_steps South s t e = let w = squared_some _ _ t e in omega arith
some_steps West s t e = let k = unless _ _ t e in let w = squared_some _ _ t k.1 in let z = eqb-false _ _ k.0 in omega arith

-- the way back
pub beside_back : {side : ℕ} (h : Heading) (s t : Square side) → beside s h ≡ Some t → beside t (opposite h) ≡ Some s
beside_back h s t e = beside_is (opposite h) t s (next_back h _ _ _ _ (some_steps h s t e))

-- one heading leads to a neighbour
pub beside_inj : {side : ℕ} (h k : Heading) (s t : Square side) → beside s h ≡ Some t → beside s k ≡ Some t → h ≡ k
beside_inj h k s t e f = next_inj h k _ _ _ _ (some_steps h s t e) (some_steps k s t f)

pub step_is : (h : Heading) (p q : Place) → beside p h ≡ Some q → step h p ≡ q
unfolding step
step_is h p q e = ap (λ (o : Option Place). or_stay o p) e

pub step_beside : (h : Heading) (p q : Place) → beside p h ≡ Some q → beside p h ≡ Some (step h p)
step_beside h p q e = e ∙ ap Some (sym (step_is h p q e))

steps : (h : Heading) (p q : Place) → Steps h p q → step h p ≡ q
steps h p q k = step_is h p q (beside_is h p q k)

turn_steps : (m : Megacell) (h : Heading) → Steps (left h) (subcell m h) (subcell m (left h))
unfolding left subcell
turn_steps m North = omega arith
turn_steps m East = omega arith
turn_steps m South = omega arith
turn_steps m West = omega arith

step_turn : (m : Megacell) (h : Heading) → step (left h) (subcell m h) ≡ subcell m (left h)
step_turn m h = steps (left h) (subcell m h) (subcell m (left h)) (turn_steps m h)

cross_steps : (h : Heading) (m n : Megacell) → Steps h m n → Steps h (subcell m h) (subcell n (right h))
unfolding subcell right
cross_steps North m n k = omega arith
cross_steps East m n k = omega arith
cross_steps South m n k = omega arith
cross_steps West m n k = omega arith

cross_is : (h : Heading) (m n : Megacell) → Steps h m n → step h (subcell m h) ≡ subcell n (right h)
cross_is h m n k = steps h (subcell m h) (subcell n (right h)) (cross_steps h m n k)

-- a turn, and a cross to a megacell that is there, stay on the board
pub turn_beside : (p : Place) → beside p (left (exit p)) ≡ Some (subcell (megacell_of p) (left (exit p)))
turn_beside p =
    let o = subcell_own p in
    ap (λ (q : Place). beside q (left (exit p))) (sym o) ∙ beside_is (left (exit p)) _ _ (turn_steps (megacell_of p) (exit p))

pub cross_beside : (p : Place) (n : Megacell) → beside (megacell_of p) (exit p) ≡ Some n → beside p (exit p) ≡ Some (subcell n (right (exit p)))
cross_beside p n e =
    let o = subcell_own p in
    ap (λ (q : Place). beside q (exit p)) (sym o) ∙ beside_is (exit p) _ _ (cross_steps (exit p) (megacell_of p) n (some_steps (exit p) (megacell_of p) n e))

pub turned : (p : Place) → step (left (exit p)) p ≡ subcell (megacell_of p) (left (exit p))
turned p = ap (step (left (exit p))) (sym (subcell_own p)) ∙ step_turn (megacell_of p) (exit p)

pub crossed : (p : Place) (n : Megacell) → beside (megacell_of p) (exit p) ≡ Some n → step (exit p) p ≡ subcell n (right (exit p))
crossed p n e = ap (step (exit p)) (sym (subcell_own p)) ∙ cross_is (exit p) (megacell_of p) n (some_steps (exit p) (megacell_of p) n e)

-- and so the exit goes along: left with a turn, right with a cross
pub turned_exit : (p : Place) → exit (step (left (exit p)) p) ≡ left (exit p)
turned_exit p = ap exit (turned p) ∙ exit_subcell (megacell_of p) (left (exit p))

pub turned_own : (p : Place) → megacell_of (step (left (exit p)) p) ≡ megacell_of p
turned_own p = ap megacell_of (turned p) ∙ megacell_subcell (megacell_of p) (left (exit p))

pub crossed_exit : (p : Place) (n : Megacell) → beside (megacell_of p) (exit p) ≡ Some n → exit (step (exit p) p) ≡ right (exit p)
crossed_exit p n e = ap exit (crossed p n e) ∙ exit_subcell n (right (exit p))

pub crossed_into : (p : Place) (n : Megacell) → beside (megacell_of p) (exit p) ≡ Some n → megacell_of (step (exit p) p) ≡ n
crossed_into p n e = ap megacell_of (crossed p n e) ∙ megacell_subcell n (right (exit p))

heading_at : ℕ → Heading
heading_at n = cond (eqb n 0) North (cond (eqb n 1) East (cond (eqb n 2) South West))

at_number : (h : Heading) → heading_at (heading_number h) ≡ h
unfolding heading_at heading_number
at_number North = refl
at_number East = refl
at_number South = refl
at_number West = refl

pub heading_by_number : (h k : Heading) → heading_number h ≡ heading_number k → h ≡ k
heading_by_number h k e = sym (at_number h) ∙ ap heading_at e ∙ at_number k

pub same_heading_true : (h k : Heading) → same_heading h k ≡ true → h ≡ k
unfolding same_heading
same_heading_true h k e = heading_by_number h k (eqb-true _ _ e)

pub same_heading_refl : (h : Heading) → same_heading h h ≡ true
unfolding same_heading
same_heading_refl h = eq-eqb (heading_number h) (heading_number h) refl

pub bools : (a b : Bool) → (a ≡ true → b ≡ true) → (b ≡ true → a ≡ true) → a ≡ b
bools true b f g = sym (f refl)
bools false true f g = g refl
bools false false f g = refl

pub same_split : (a : Place) (m : Megacell) (h : Heading) → same_square a (subcell m h) ≡ (same_square (megacell_of a) m && same_heading (exit a) h)
same_split a m h = bools _ _
    (λ e. let q = same_square_true a (subcell m h) e in
    and_from _ _ (ap (λ (x : Place). same_square (megacell_of x) m) q ∙ ap (λ (x : Megacell). same_square x m) (megacell_subcell m h) ∙ same_square_refl m)
    (ap (λ (x : Place). same_heading (exit x) h) q ∙ ap (λ (x : Heading). same_heading x h) (exit_subcell m h) ∙ same_heading_refl h))
    (λ e. let k = and_parts _ _ e in
    let u = same_square_true (megacell_of a) m k.0 in
    let v = same_heading_true (exit a) h k.1 in
    let w = subcell_own a in
    let q : a ≡ subcell m h = cc in
    ap (same_square a) (sym q) ∙ same_square_refl a)

four : (b : Bool) (h e : Heading) → bit (b && same_heading h (right e)) + (bit (b && same_heading h e) + (bit (b && same_heading h (left e)) + (bit (b && same_heading h (opposite e)) + 0))) ≡ bit b
unfolding bit same_heading heading_number right left opposite
four false h e = refl
four true North North = refl
four true North East = refl
four true North South = refl
four true North West = refl
four true East North = refl
four true East East = refl
four true East South = refl
four true East West = refl
four true South North = refl
four true South East = refl
four true South South = refl
four true South West = refl
four true West North = refl
four true West East = refl
four true West South = refl
four true West West = refl

-- of the four subcells of a megacell, one is a, if a lies in it
pub four_places : (a : Place) (m : Megacell) (e : Heading) →
    bit (same_square a (subcell m (right e))) + (bit (same_square a (subcell m e)) + (bit (same_square a (subcell m (left e))) + (bit (same_square a (subcell m (opposite e))) + 0))) ≡ bit (same_square (megacell_of a) m)
four_places a m e = simp same_split (four (same_square (megacell_of a) m) (exit a) e)
