-- Where a place has a next one, and what that says of their megacells.
use Rattle.std.proofs.Common.{◌≡◌, ℕ, ◌+◌, ◌/◌, ◌<◌, ◌≤◌, Bool, true, false, cond, T, eqb, ltb, ◌⊎◌, Some, None, Option, sym, refl, ap, inl, inr, arith, ltb→lt}
use Rattle.std.proofs.lemmas.Bool.{eqb-true, eq-eqb, le-ltb, cases_lt, cases_eq}
use Rattle.board.specs.declared.heading.Heading.{Heading}
use Rattle.board.specs.declared.heading.Heading.TheVariants.{North, East, South, West}
use Rattle.board.specs.declared.square.Square.{Square}
use Rattle.board.specs.Squares.{Megacell, Place, squared_by, squared}
use Rattle.board.specs.Places.{megacell_of}
use Rattle.board.specs.Corners.{subcell}
use Rattle.board.specs.Steps.{beside}
use Rattle.board.proofs.Geometry.{square_path, squared_at, some_steps, Steps, beside_is}

pub not_both : {A : Type 0} (o : Option A) (a : A) → o ≡ Some a → o ≡ None → ⊥
not_both o a e f = let z : ◌≡◌ {A = ℕ} 0 1 = cc in omega arith

-- Two numbers that no square has.

squared_by_out : {side : ℕ} (r c : ℕ) (a b : Bool) (h : T a → r < side) (k : T b → c < side) → (a ≡ false) ⊎ (b ≡ false) → squared_by r c a b h k ≡ None
squared_by_out r c true true h k (inl e) = cc
squared_by_out r c true true h k (inr e) = cc
squared_by_out r c true false h k e = refl
squared_by_out r c false b h k e = refl

squared_out : (side r c : ℕ) → (side ≤ r) ⊎ (side ≤ c) → squared side r c ≡ None
unfolding squared
squared_out side r c (inl e) = squared_by_out r c _ (ltb c side) (ltb→lt r side) (ltb→lt c side) (inl (le-ltb r side e))
squared_out side r c (inr e) = squared_by_out r c (ltb r side) _ (ltb→lt r side) (ltb→lt c side) (inr (le-ltb c side e))

squared_there : (side r c : ℕ) → squared side r c ≡ None → (side ≤ r) ⊎ (side ≤ c)
squared_there side r c e =
    elim (cases_lt r side) [
      | inl h ↦
          elim (cases_lt c side) [
            | inl k ↦ absurd (not_both (squared side r c) _ (squared_at r c (record { row = r; column = c; rows = h; columns = k }) refl refl) e)
            | inr k ↦ inr k
          ]
      | inr h ↦ inl h
    ]

-- the square is the last of its row or column at a heading
abbrev pub Edge : {side : ℕ} → Heading → Square side → Type 0
Edge {side} North s = s.row ≡ 0
Edge {side} East s = s.column + 1 ≡ side
Edge {side} South s = s.row + 1 ≡ side
Edge {side} West s = s.column ≡ 0

zero_or_none : {A : Type 0} (n : ℕ) (o : Option A) → cond (eqb n 0) None o ≡ None → (n ≡ 0) ⊎ (o ≡ None)
zero_or_none n o e = go (eqb n 0) refl e
  where
    go : (b : Bool) → eqb n 0 ≡ b → cond b None o ≡ None → (n ≡ 0) ⊎ (o ≡ None)
    go true z f = inl (eqb-true n 0 z)
    go false z f = inr f

zero_none : {A : Type 0} (n : ℕ) (o : Option A) → n ≡ 0 → cond (eqb n 0) None o ≡ None
zero_none n o e = ap (λ b. cond b None o) (eq-eqb n 0 e)

pub none_edge : {side : ℕ} (h : Heading) (s : Square side) → beside s h ≡ None → Edge h s
unfolding beside
none_edge {side} North s e = elim (zero_or_none _ _ e) [ inl z ↦ z | inr z ↦ elim (squared_there side _ _ z) [ inl k ↦ absurd (omega arith) | inr k ↦ absurd (omega arith) ] ]
none_edge {side} East s e = elim (squared_there side _ _ e) [ inl k ↦ absurd (omega arith) | inr k ↦ omega arith ]
none_edge {side} South s e = elim (squared_there side _ _ e) [ inl k ↦ omega arith | inr k ↦ absurd (omega arith) ]
none_edge {side} West s e = elim (zero_or_none _ _ e) [ inl z ↦ z | inr z ↦ elim (squared_there side _ _ z) [ inl k ↦ absurd (omega arith) | inr k ↦ absurd (omega arith) ] ]

pub edge_none : {side : ℕ} (h : Heading) (s : Square side) → Edge h s → beside s h ≡ None
unfolding beside
edge_none {side} North s e = zero_none _ _ e
edge_none {side} East s e = squared_out side _ _ (inr (omega arith))
edge_none {side} South s e = squared_out side _ _ (inl (omega arith))
edge_none {side} West s e = zero_none _ _ e

edge_of_megacell : (h : Heading) (p : Place) → Edge h p → Edge h (megacell_of p)
unfolding megacell_of
edge_of_megacell North p e = omega arith
edge_of_megacell East p e = omega arith
edge_of_megacell South p e = omega arith
edge_of_megacell West p e = omega arith

-- off the board for a place is off the board for its megacell
pub none_of_megacell : (h : Heading) (p : Place) → beside p h ≡ None → beside (megacell_of p) h ≡ None
none_of_megacell h p e = edge_none h (megacell_of p) (edge_of_megacell h p (none_edge h p e))

edge_of_subcell : (h : Heading) (m : Megacell) → Edge h m → Edge h (subcell m h)
unfolding subcell
edge_of_subcell North m e = omega arith
edge_of_subcell East m e = omega arith
edge_of_subcell South m e = omega arith
edge_of_subcell West m e = omega arith

-- and the other way round at the subcell that has the heading for its exit
pub none_of_subcell : (h : Heading) (m : Megacell) → beside m h ≡ None → beside (subcell m h) h ≡ None
none_of_subcell h m e = edge_none h (subcell m h) (edge_of_subcell h m (none_edge h m e))

apart : (p q : Place) → (megacell_of q ≡ megacell_of p → ⊥) → p.row / 2 ≡ q.row / 2 → p.column / 2 ≡ q.column / 2 → ⊥
unfolding megacell_of
apart p q n e f = n (square_path _ _ (sym e) (sym f))

steps_of_megacells : (h : Heading) (p q : Place) → (megacell_of q ≡ megacell_of p → ⊥) → Steps h p q → Steps h (megacell_of p) (megacell_of q)
unfolding megacell_of
steps_of_megacells North p q n k = elim (cases_eq (p.row / 2) (q.row / 2)) [ inl e ↦ absurd (apart p q n e (omega arith)) | inr e ↦ omega arith ]
steps_of_megacells East p q n k = elim (cases_eq (p.column / 2) (q.column / 2)) [ inl e ↦ absurd (apart p q n (omega arith) e) | inr e ↦ omega arith ]
steps_of_megacells South p q n k = elim (cases_eq (p.row / 2) (q.row / 2)) [ inl e ↦ absurd (apart p q n e (omega arith)) | inr e ↦ omega arith ]
steps_of_megacells West p q n k = elim (cases_eq (p.column / 2) (q.column / 2)) [ inl e ↦ absurd (apart p q n (omega arith) e) | inr e ↦ omega arith ]

-- a step that leaves its megacell enters the neighbour
pub left_megacell : (h : Heading) (p q : Place) → beside p h ≡ Some q → (megacell_of q ≡ megacell_of p → ⊥) → beside (megacell_of p) h ≡ Some (megacell_of q)
left_megacell h p q e n = beside_is h (megacell_of p) (megacell_of q) (steps_of_megacells h p q n (some_steps h p q e))
