-- What a walk along the chain knows, and what its answers need.
use Rattle.std.proofs.Common.{◌≡◌, ℕ, zero, suc, ◌+◌, ◌<◌, ◌≤◌, Bool, true, false, cond, not, ◌||◌, eqb, ltb, List, length, get_or, set, replicate, is_some, Some, None, Ok, Err, sum_by, count_by, Option, Result, sym, refl, ap, ◌∙◌, subst, inl, inr, add-one, arith, length-set, get_or-set_other, get_or-set_same}
use lib.ListN.{length-replicate, get_or-replicate}
use Rattle.std.proofs.Math.Bool.{or-true, or-false}
use Rattle.std.proofs.lemmas.List.Sums.{sum_by-set, sum_by-cons}
use Rattle.std.proofs.lemmas.Bool.{cases_lt, cases_Bool, ltb-false, le-ltb, ne_eqb, eq-eqb, and_from, both_ways}
use Rattle.board.specs.Squares.{Megacell, number_of, same_square}
use Rattle.board.specs.Places.{megacell_of}
use Rattle.board.proofs.Geometry.{same_square_true, same_square_refl}
use Rattle.firsts.specs.First.{first, or_else}
use Rattle.firsts.proofs.Firsts.{first_zero, first_more, first_here}
use Rattle.log_record.specs.declared.faults.LogFault.{LogFault}
use Rattle.log_record.specs.declared.faults.LogFault.TheVariants.{SecondRecord, StartUntold}
use Rattle.log_record.specs.declared.header.Header.{Header}
use Rattle.log_record.specs.declared.record.Record.{Record}
use Rattle.log_record.specs.Layout.{two, header_of, record_at}
use Rattle.log_record.proofs.Headers.{header_tells}
use Rattle.log_format.specs.Chain.{held, holder, index, tells_of, comes_to, visited, or_bad, led, unless_visited, step_of, goes_on, stops, or_at, stop}
use Rattle.log_format.specs.Log.{ended_in, after_header, refusal}

-- What step j gives, case by case.

pub step_end : (b : List ℕ) (j : ℕ) → index b j ≡ 0 → step_of b j ≡ Ok None
unfolding step_of
step_end b j z = let e : eqb (index b j) 0 ≡ true = eq-eqb _ _ z in simp e

step_led : (b : List ℕ) (j : ℕ) → (index b j ≡ 0 → ⊥) → step_of b j ≡ unless_visited b j (led b (two b 0) (holder b j) (index b j))
unfolding step_of
step_led b j z = let e : eqb (index b j) 0 ≡ false = ne_eqb _ _ z in simp e

step_refused : (b : List ℕ) (j : ℕ) (e : LogFault) → (index b j ≡ 0 → ⊥) → Err e ≡ led b (two b 0) (holder b j) (index b j) → step_of b j ≡ Err e
step_refused b j e z l = step_led b j z ∙ ap (unless_visited b j) (sym l)

step_comes : (b : List ℕ) (j : ℕ) (r : Record) → (index b j ≡ 0 → ⊥) → Ok r ≡ led b (two b 0) (holder b j) (index b j) → step_of b j ≡ cond (visited b r.megacell j) (Err (SecondRecord (index b j))) (Ok (Some r))
step_comes b j r z l = step_led b j z ∙ ap (unless_visited b j) (sym l)

-- an index that leads to a record
led_by : (o : Option Record) (t : Bool) (e : LogFault) (k : ℕ) (r : Record) → Ok r ≡ cond t (Err e) (or_bad k o) → o ≡ Some r
led_by (Some q) true e k r h = cc
led_by (Some q) false e k r h = cc
led_by None true e k r h = cc
led_by None false e k r h = cc

pub led_record : (b : List ℕ) (n from to : ℕ) (r : Record) → Ok r ≡ led b n from to → record_at b to ≡ Some r
led_record b n from to r h = led_by (record_at b to) (ltb n to) _ to r h

within_by : (o : Option Record) (t : Bool) (e : LogFault) (k : ℕ) (r : Record) → Ok r ≡ cond t (Err e) (or_bad k o) → t ≡ false
within_by (Some q) true e k r h = cc
within_by (Some q) false e k r h = refl
within_by None true e k r h = cc
within_by None false e k r h = refl

pub led_below : (b : List ℕ) (n from to : ℕ) (r : Record) → Ok r ≡ led b n from to → to ≤ n
led_below b n from to r h = ltb-false _ _ (within_by (record_at b to) (ltb n to) _ to r h)

pub led_is : (b : List ℕ) (n from to : ℕ) (r : Record) → to ≤ n → record_at b to ≡ Some r → Ok r ≡ led b n from to
led_is b n from to r h e = let l : ltb n to ≡ false = le-ltb _ _ h in simp (l, e)

pub holds_next : (b : List ℕ) (k : ℕ) (r : Record) → (k ≡ 0 → ⊥) → record_at b k ≡ Some r → r.next ≡ held b k
holds_next b zero r z e = absurd (z refl)
holds_next b (suc k) r z e = let q = e in simp q

-- what a walk knows after some steps, none of which stops
pub record Walked (b : List ℕ) (steps from to : ℕ) (seen : List Bool) : Type 0 where
  pub came : from ≡ holder b steps
  pub goes : to ≡ index b steps
  pub none : first (stops b) steps ≡ None
  pub marks : (m : Megacell) → get_or seen (number_of m) false ≡ visited b m steps
  pub long : length seen ≡ 1024
  pub left : steps + count_by not seen ≡ 1024

abbrev pub Walking : List ℕ → ℕ → ℕ → List Bool → Type 0
Walking b from to seen = (steps : ℕ) × Walked b steps from to seen

count_replicate : (n : ℕ) → count_by not (replicate n false) ≡ n
count_replicate zero = refl
count_replicate (suc n) = sum_by-cons (λ x. cond (not x) 1 0) false (replicate n false) ∙ (let e = count_replicate n in omega arith)

none_visited : (b : List ℕ) (m : Megacell) → false ≡ visited b m 0
none_visited b m = sym (ap is_some (first_zero (comes_to b m)))

start_of : (b : List ℕ) (n : ℕ) → n ≡ 1024 → Walked b 0 0 (two b 2) (replicate n false)
start_of b n e =
    record {
      came = refl;
      goes = refl;
      none = first_zero (stops b);
      marks = λ m. get_or-replicate n (number_of m) false false (omega (arith, m.rows, m.columns)) ∙ none_visited b m;
      long = length-replicate n false ∙ e;
      left = omega (arith, count_replicate n);
    }

pub walked_start : (b : List ℕ) → Walked b 0 0 (two b 2) (replicate 1024 false)
walked_start b = start_of b 1024 refl

pub walking_start : {b : List ℕ} {h : Header} {seen : List Bool} → header_of b ≡ Ok h → seen ≡ replicate 1024 false → Walking b 0 h.first seen
walking_start {b} {h} {seen} g e = (0, subst (λ s. Walked b 0 0 h.first s) (sym e) (subst (λ i. Walked b 0 0 i (replicate 1024 false)) (sym (header_tells b h g).1) (walked_start b)))

-- the walk ends where it stops
pub stops_at : (b : List ℕ) (j : ℕ) → first (stops b) j ≡ None → j ≤ 1024 → stops b j ≡ true → stop b ≡ j
unfolding stop
stops_at b j n h t =
    elim (cases_lt j 1024) [
      | inl l ↦ ap (λ o. or_at o 1024) (first_here (stops b) j 1024 n t l)
      | inr l ↦ let e : j ≡ 1024 = omega arith in ap (λ o. or_at o 1024) (subst (λ k. first (stops b) k ≡ None) e n) ∙ sym e
    ]

-- what is shown at each return: the refusal or none, and that the chain does stop
abbrev pub Stopped : List ℕ → Option LogFault → Type 0
Stopped b o = (refusal b ≡ o) × (stops b (stop b) ≡ true)

refusal_at : (b : List ℕ) (h : Header) → header_of b ≡ Ok h → refusal b ≡ ended_in b (megacell_of h.start) (stop b) (step_of b (stop b))
unfolding refusal
refusal_at b h e = ap (after_header b) e

at_stop : (b : List ℕ) (h : Header) (j from to : ℕ) (seen : List Bool) (w : Walked b j from to seen) (s : Result (Option Record) LogFault) → header_of b ≡ Ok h → step_of b (j) ≡ s → goes_on s ≡ false → Stopped b (ended_in b (megacell_of h.start) (j) s)
at_stop b h j from to seen w s e q g =
    let t : stops b (j) ≡ true = ap (λ x. not (goes_on x)) q ∙ ap not g in
    let at = stops_at b (j) w.none (omega (arith, w.left)) t in
    (refusal_at b h e ∙ ap (λ k. ended_in b (megacell_of h.start) k (step_of b k)) at ∙ ap (ended_in b (megacell_of h.start) (j)) q, subst (λ k. stops b k ≡ true) (sym at) t)

-- what the walk follows is what the step follows
followed : (b : List ℕ) (h : Header) (j from to : ℕ) (seen : List Bool) (w : Walked b j from to seen) → header_of b ≡ Ok h → led b h.count from to ≡ led b (two b 0) (holder b (j)) (index b (j))
followed b h j from to seen w e =
    ap (λ n. led b n from to) (header_tells b h e).0 ∙ ap (λ f. led b (two b 0) f to) w.came ∙ ap (led b (two b 0) (holder b (j))) w.goes

pub walked_refused : {b : List ℕ} {h : Header} {j from to : ℕ} {seen : List Bool} {e : LogFault} → header_of b ≡ Ok h → Walked b j from to seen → (to ≡ 0 → ⊥) → Err e ≡ led b h.count from to → Stopped b (Some e)
walked_refused {b} {h} {j} {from} {to} {seen} {e} g w z l =
    at_stop b h j from to seen w (Err e) g (step_refused b (j) e (λ q. z (w.goes ∙ q)) (l ∙ followed b h j from to seen w g)) refl

pub walked_again : {b : List ℕ} {h : Header} {j from to : ℕ} {seen : List Bool} {r : Record} → header_of b ≡ Ok h → Walked b j from to seen → (to ≡ 0 → ⊥) → Ok r ≡ led b h.count from to → get_or seen (number_of r.megacell) false ≡ true → Stopped b (Some (SecondRecord to))
walked_again {b} {h} {j} {from} {to} {seen} {r} g w z l t =
    let v : visited b r.megacell (j) ≡ true = sym (w.marks r.megacell) ∙ t in
    let s = step_comes b (j) r (λ q. z (w.goes ∙ q)) (l ∙ followed b h j from to seen w g) in
    let q : step_of b (j) ≡ Err (SecondRecord to) = s ∙ ap (λ x. cond x (Err (SecondRecord (index b (j)))) (Ok (Some r))) v ∙ ap (λ k. Err (SecondRecord k)) (sym w.goes) in
    at_stop b h j from to seen w (Err (SecondRecord to)) g q refl

pub walked_end : {b : List ℕ} {h : Header} {j from to : ℕ} {seen : List Bool} {t : Bool} → header_of b ≡ Ok h → Walked b j from to seen → to ≡ 0 → get_or seen (number_of (megacell_of h.start)) false ≡ t → Stopped b (cond t None (Some StartUntold))
walked_end {b} {h} {j} {from} {to} {seen} {t} g w z s =
    let v : visited b (megacell_of h.start) (j) ≡ t = sym (w.marks (megacell_of h.start)) ∙ s in
    let p = at_stop b h j from to seen w (Ok None) g (step_end b (j) (sym w.goes ∙ z)) refl in
    (p.0 ∙ ap (λ x. cond x None (Some StartUntold)) v, p.1)

-- Marking one more megacell.

some_more : (o : Option ℕ) (t : Bool) (n : ℕ) → is_some (or_else o (cond t (Some n) None)) ≡ is_some o || t
some_more (Some k) t n = refl
some_more None true n = refl
some_more None false n = refl

visited_more : (b : List ℕ) (m : Megacell) (j : ℕ) → visited b m (suc j) ≡ visited b m j || comes_to b m j
unfolding first
visited_more b m j = some_more (first (comes_to b m) j) (comes_to b m j) j

one_number : (m n : Megacell) → number_of m ≡ number_of n → same_square m n ≡ true
unfolding same_square
one_number m n e = and_from _ _ (eq-eqb m.row n.row (omega (arith, m.columns, n.columns))) (eq-eqb m.column n.column (omega (arith, m.columns, n.columns)))

marked : (seen : List Bool) (c m : Megacell) (t : Bool) → length seen ≡ 1024 → get_or seen (number_of m) false ≡ t → get_or (set seen (number_of c) true) (number_of m) false ≡ t || same_square c m
marked seen c m t l e =
    elim (cases_Bool (same_square c m)) [
      | inl s ↦ subst (λ x. get_or (set seen (number_of c) true) (number_of x) false ≡ t || same_square c x) (same_square_true c m s)
          (get_or-set_same seen (number_of c) true false (omega (arith, c.rows, c.columns)) ∙ sym (or-true t) ∙ sym (ap (λ x. t || x) (same_square_refl c)))
      | inr s ↦ get_or-set_other seen (number_of c) (number_of m) true false (λ q. both_ways _ s (one_number c m (sym q))) ∙ e ∙ sym (or-false t) ∙ sym (ap (λ x. t || x) s)
    ]

-- one megacell fewer is unmarked
one_less : (seen : List Bool) (m : Megacell) → length seen ≡ 1024 → get_or seen (number_of m) false ≡ false → count_by not (set seen (number_of m) true) + 1 ≡ count_by not seen
one_less seen m l s =
    let t : sum_by (λ x. cond (not x) 1 0) (set seen (number_of m) true) + cond (not (get_or seen (number_of m) false)) 1 0 ≡ sum_by (λ x. cond (not x) 1 0) seen + 0 = sum_by-set (λ x. cond (not x) 1 0) seen (number_of m) true false (omega (arith, m.rows, m.columns)) in
    let u : ◌≡◌ {A = ℕ} (cond (not (get_or seen (number_of m) false)) 1 0) 1 = simp s in
    omega arith

pub walked_more : {b : List ℕ} {h : Header} {j from to : ℕ} {seen : List Bool} {r : Record} → header_of b ≡ Ok h → Walked b j from to seen → (to ≡ 0 → ⊥) → Ok r ≡ led b h.count from to → get_or seen (number_of r.megacell) false ≡ false → Walked b (j + 1) to r.next (set seen (number_of r.megacell) true)
walked_more {b} {h} {j} {from} {to} {seen} {r} g w z l s =
    let at : record_at b to ≡ Some r = led_record b h.count from to r l in
    let here : record_at b (index b j) ≡ Some r = subst (λ k. record_at b k ≡ Some r) w.goes at in
    let v : visited b r.megacell j ≡ false = sym (w.marks r.megacell) ∙ s in
    let p : step_of b j ≡ Ok (Some r) = step_comes b j r (λ q. z (w.goes ∙ q)) (l ∙ followed b h j from to seen w g) ∙ ap (λ x. cond x (Err (SecondRecord (index b j))) (Ok (Some r))) v in
    let o = one_less seen r.megacell w.long s in
    record {
      came = subst (λ k. to ≡ holder b k) (sym (add-one j)) w.goes;
      goes = subst (λ k. r.next ≡ index b k) (sym (add-one j)) (holds_next b to r z at ∙ ap (held b) w.goes);
      none = first_more (stops b) j w.none (ap (λ x. not (goes_on x)) p);
      marks = λ m. subst (λ k. get_or (set seen (number_of r.megacell) true) (number_of m) false ≡ visited b m k) (sym (add-one j))
          (marked seen r.megacell m (visited b m j) w.long (w.marks m) ∙ sym (visited_more b m j ∙ ap (λ o. visited b m j || tells_of o m) here));
      long = simp length-set w.long;
      left = omega (arith, w.left);
    }

-- the same of marks that are given, as the walk's are
pub walking_more : {b : List ℕ} {h : Header} {from to : ℕ} {seen after : List Bool} {r : Record} → header_of b ≡ Ok h → Walking b from to seen → (to ≡ 0 → ⊥) → Ok r ≡ led b h.count from to → get_or seen (number_of r.megacell) false ≡ false → after ≡ set seen (number_of r.megacell) true → Walking b to r.next after
walking_more {b} {h} {from} {to} {seen} {after} {r} g w z l s e = subst (λ x. Walking b to r.next x) (sym e) (w.0 + 1, walked_more g w.1 z l s)

pub walked_less : (seen : List Bool) (m : Megacell) → length seen ≡ 1024 → get_or seen (number_of m) false ≡ false → count_by not (set seen (number_of m) true) < count_by not seen
walked_less seen m l s = omega (arith, one_less seen m l s)

pub walking_less : {b : List ℕ} {from to : ℕ} {seen after : List Bool} (m : Megacell) → Walking b from to seen → get_or seen (number_of m) false ≡ false → after ≡ set seen (number_of m) true → count_by not after < count_by not seen
walking_less {b} {from} {to} {seen} {after} m w s e = subst (λ x. count_by not x < count_by not seen) (sym e) (omega (arith, one_less seen m w.1.long s))
