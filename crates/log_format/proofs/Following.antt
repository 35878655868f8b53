-- What acceptance tells of the chain, for a lookup along it.
use Rattle.std.proofs.Common.{◌≡◌, ℕ, ◌+◌, ◌-◌, ◌<◌, ◌≤◌, Bool, true, false, cond, eqb, List, is_some, Some, None, Ok, Err, Option, Result, sym, refl, ap, ◌∙◌, subst, inl, inr, add-one, arith}
use Rattle.std.proofs.lemmas.Bool.{cases_lt, not-false, eq-eqb, ne_eqb, eqb-true, eqb-false, both_ways}
use Rattle.std.proofs.lemmas.Option.{none-some}
use Rattle.board.specs.Squares.{Megacell, same_square}
use Rattle.board.specs.Places.{megacell_of}
use Rattle.board.proofs.Geometry.{same_square_refl}
use Rattle.firsts.specs.First.{first}
use Rattle.firsts.proofs.Firsts.{first_zero, first_more, first_here, first_some, first_none, first_none_at}
use Rattle.log_record.specs.declared.faults.LogFault.{LogFault}
use Rattle.log_record.specs.declared.header.Header.{Header}
use Rattle.log_record.specs.declared.record.Record.{Record}
use Rattle.log_record.specs.Layout.{two, header_of, record_at}
use Rattle.log_record.proofs.Headers.{header_tells}
use Rattle.log_format.specs.Chain.{held, holder, index, tells_of, comes_to, visited, led, unless_visited, step_of, goes_on, stops, or_at, stop}
use Rattle.log_format.specs.Log.{ended_in, after_header, refusal, is_none, accepts, record_in, record_of, Reaching}
use Rattle.log_format.proofs.Walking.{holds_next, led_record, led_below}

-- an accepted log has a header
header_by_lem : (b : List ℕ) (o : Result Header LogFault) → header_of b ≡ o → is_none (after_header b o) ≡ true → (h : Header) × (header_of b ≡ Ok h) × (is_none (ended_in b (megacell_of h.start) (stop b) (step_of b (stop b))) ≡ true)
header_by_lem b (Ok h) e a = (h, e, a)
header_by_lem b (Err f) e a = absurd (both_ways false refl a)

pub accepted_header : (b : List ℕ) → accepts b ≡ true → (h : Header) × (header_of b ≡ Ok h) × (is_none (ended_in b (megacell_of h.start) (stop b) (step_of b (stop b))) ≡ true)
unfolding refusal
accepted_header b a = header_by_lem b (header_of b) refl a

pub not_refused : (b : List ℕ) (f : LogFault) → accepts b ≡ true → Err f ≡ header_of b → ⊥
not_refused b f a e = let k = (accepted_header b a).1 in let z : ◌≡◌ {A = ℕ} 0 1 = cc in omega arith

-- and its chain stops at its end
ended_by : (b : List ℕ) (m : Megacell) (j : ℕ) (s : Result (Option Record) LogFault) → is_none (ended_in b m j s) ≡ true → s ≡ Ok None
ended_by b m j (Ok (Some r)) a = absurd (both_ways false refl a)
ended_by b m j (Ok None) a = refl
ended_by b m j (Err e) a = absurd (both_ways false refl a)

pub accepted_end : (b : List ℕ) → accepts b ≡ true → step_of b (stop b) ≡ Ok None
accepted_end b a = let k = accepted_header b a in ended_by b (megacell_of k.0.start) (stop b) (step_of b (stop b)) k.2

never_none : (v : Bool) (e : LogFault) (r : Record) → cond v (Err e) (Ok (Some r)) ≡ Ok None → ⊥
never_none true e r q = let z : ◌≡◌ {A = ℕ} 0 1 = cc in omega arith
never_none false e r q = let z : ◌≡◌ {A = ℕ} 0 1 = cc in omega arith

end_by : (b : List ℕ) (j : ℕ) (t : Bool) (l : Result Record LogFault) → cond t (Ok None) (unless_visited b j l) ≡ Ok None → t ≡ true
end_by b j true l q = refl
end_by b j false (Ok r) q = absurd (never_none (visited b r.megacell j) _ r q)
end_by b j false (Err f) q = cc

-- the chain's end is index 0
pub end_index : (b : List ℕ) (j : ℕ) → step_of b j ≡ Ok None → index b j ≡ 0
unfolding step_of
end_index b j q = eqb-true _ _ (end_by b j (eqb (index b j) 0) (led b (two b 0) (holder b j) (index b j)) q)

unvisited : (v : Bool) (e : LogFault) (r : Record) → goes_on (cond v (Err e) (Ok (Some r))) ≡ true → v ≡ false
unvisited true e r q = sym q
unvisited false e r q = refl

-- what a step that goes on comes to
pub record Reached (b : List ℕ) (j : ℕ) : Type 0 where
  pub to : Record
  pub at : record_at b (index b j) ≡ Some to
  pub below : index b j ≤ two b 0
  pub new : visited b to.megacell j ≡ false
  pub on : index b j ≡ 0 → ⊥

comes_by : (b : List ℕ) (j : ℕ) (t : Bool) (l : Result Record LogFault) → eqb (index b j) 0 ≡ t → led b (two b 0) (holder b j) (index b j) ≡ l → goes_on (cond t (Ok None) (unless_visited b j l)) ≡ true → Reached b j
comes_by b j true l e f q = absurd (both_ways false refl q)
comes_by b j false (Ok r) e f q = record { to = r; at = led_record b (two b 0) (holder b j) (index b j) r (sym f); below = led_below b (two b 0) (holder b j) (index b j) r (sym f); new = unvisited (visited b r.megacell j) _ r q; on = eqb-false _ _ e }
comes_by b j false (Err g) e f q = absurd (both_ways false refl q)

comes : (b : List ℕ) (j : ℕ) → goes_on (step_of b j) ≡ true → Reached b j
unfolding step_of
comes b j q = comes_by b j (eqb (index b j) 0) (led b (two b 0) (holder b j) (index b j)) refl refl q

-- every step before the stop goes on
before_by : (b : List ℕ) (j : ℕ) (o : Option ℕ) → first (stops b) 1024 ≡ o → j < or_at o 1024 → stops b j ≡ false
before_by b j (Some k) e h = (first_some (stops b) 1024 k e).2 j h
before_by b j None e h = first_none_at (stops b) 1024 j e h

pub before_stop : (b : List ℕ) (j : ℕ) → j < stop b → Reached b j
unfolding stop
before_stop b j h = comes b j (not-false _ (before_by b j (first (stops b) 1024) refl h))

-- the index that a step of an accepted log follows leads to a record exactly before the stop
pub at_stop : (b : List ℕ) (j : ℕ) → j ≤ stop b → record_at b (index b j) ≡ None → j ≡ stop b
at_stop b j h e =
    elim (cases_lt j (stop b)) [ inl l ↦ let k = (before_stop b j l).at in cc | inr l ↦ omega arith ]

pub no_record_zero : (b : List ℕ) (r : Record) → record_at b 0 ≡ Some r → ⊥
unfolding record_at
no_record_zero b r e = none-some r e

pub not_stop : (b : List ℕ) (j : ℕ) (r : Record) → accepts b ≡ true → j ≤ stop b → record_at b (index b j) ≡ Some r → j < stop b
not_stop b j r a h e =
    elim (cases_lt j (stop b)) [
      | inl l ↦ l
      | inr l ↦
          let s : stop b ≡ j = omega arith in
          let z : index b j ≡ 0 = subst (λ k. index b k ≡ 0) s (end_index b (stop b) (accepted_end b a)) in
          absurd (no_record_zero b r (subst (λ k. record_at b k ≡ Some r) z e))
    ]

-- The step of an index, by which a lookup ends: no index is followed twice.

pub step_at : List ℕ → ℕ → ℕ
step_at b k = or_at (first (λ j. eqb (index b j) k) (stop b)) (stop b)

pub some_none : (o : Option ℕ) → is_some o ≡ false → o ≡ None
some_none (Some k) e = absurd (both_ways true e refl)
some_none None e = refl

apart : (b : List ℕ) (i j : ℕ) → i < j → j < stop b → index b i ≡ index b j → ⊥
apart b i j h l e =
    let c = before_stop b j l in
    let f = first_none_at (comes_to b c.to.megacell) j i (some_none _ c.new) h in
    let s : record_at b (index b i) ≡ Some c.to = subst (λ k. record_at b k ≡ Some c.to) (sym e) c.at in
    both_ways _ f (ap (λ o. tells_of o c.to.megacell) s ∙ same_square_refl c.to.megacell)

step_before : (b : List ℕ) (j : ℕ) → j < stop b → step_at b (index b j) ≡ j
unfolding step_at
step_before b j l =
    ap (λ o. or_at o (stop b))
    (first_here (λ i. eqb (index b i) (index b j)) j (stop b) (first_none _ j (λ i h. ne_eqb _ _ (apart b i j h l))) (eq-eqb _ _ refl) l)

step_stop : (b : List ℕ) → accepts b ≡ true → step_at b (index b (stop b)) ≡ stop b
unfolding step_at
step_stop b a =
    let z = end_index b (stop b) (accepted_end b a) in
    ap (λ o. or_at o (stop b)) (first_none (λ i. eqb (index b i) (index b (stop b))) (stop b) (λ i h. ne_eqb _ _ (λ q. (before_stop b i h).on (q ∙ z))))

pub step_of_lem : (b : List ℕ) (j : ℕ) → accepts b ≡ true → j ≤ stop b → step_at b (index b j) ≡ j
step_of_lem b j a h =
    elim (cases_lt j (stop b)) [ inl l ↦ step_before b j l | inr l ↦ let s : stop b ≡ j = omega arith in subst (λ k. step_at b (index b k) ≡ k) s (step_stop b a) ]

-- What a lookup needs, at its start and at each of its returns.

pub from_start : (b : List ℕ) (h : Header) (m : Megacell) → accepts b ≡ true → header_of b ≡ Ok h → Reaching b h.first m
from_start b h m a e = record { accepted = a; step = 0; near = omega arith; goes = (header_tells b h e).1; none = first_zero (comes_to b m) }

pub found_none : (b : List ℕ) (at : ℕ) (m : Megacell) → Reaching b at m → record_at b at ≡ None → None ≡ record_of b m
unfolding record_of
found_none b at m w e =
    let s = at_stop b w.step w.near (subst (λ k. record_at b k ≡ None) w.goes e) in
    sym (ap (record_in b) (subst (λ k. first (comes_to b m) k ≡ None) s w.none))

before : (b : List ℕ) (at : ℕ) (m : Megacell) (r : Record) (w : Reaching b at m) → record_at b at ≡ Some r → w.step < stop b
before b at m r w e = not_stop b w.step r w.accepted w.near (subst (λ k. record_at b k ≡ Some r) w.goes e)

pub found_here : (b : List ℕ) (at : ℕ) (m : Megacell) (r : Record) → Reaching b at m → record_at b at ≡ Some r → same_square r.megacell m ≡ true → Some r ≡ record_of b m
unfolding record_of
found_here b at m r w e t =
    let f : record_at b (index b w.step) ≡ Some r = subst (λ k. record_at b k ≡ Some r) w.goes e in
    let k = first_here (comes_to b m) w.step (stop b) w.none (ap (λ o. tells_of o m) f ∙ t) (before b at m r w e) in
    sym (ap (record_in b) k ∙ f)

pub found_later : (b : List ℕ) (at : ℕ) (m : Megacell) (r : Record) → Reaching b at m → record_at b at ≡ Some r → same_square r.megacell m ≡ false → Reaching b r.next m
found_later b at m r w e t =
    let f : record_at b (index b w.step) ≡ Some r = subst (λ k. record_at b k ≡ Some r) w.goes e in
    let l = before b at m r w e in
    let z : at ≡ 0 → ⊥ = λ q. no_record_zero b r (subst (λ k. record_at b k ≡ Some r) q e) in
    record {
      accepted = w.accepted;
      step = w.step + 1;
      near = omega arith;
      goes = subst (λ k. r.next ≡ index b k) (sym (add-one w.step)) (holds_next b at r z e ∙ ap (held b) w.goes);
      none = first_more (comes_to b m) w.step w.none (ap (λ o. tells_of o m) f ∙ t);
    }

pub nearer : (b : List ℕ) (at : ℕ) (m : Megacell) (r : Record) → Reaching b at m → record_at b at ≡ Some r → same_square r.megacell m ≡ false → stop b - step_at b r.next < stop b - step_at b at
unfolding found_later
nearer b at m r w e t =
    let v = found_later b at m r w e t in
    let l = before b at m r w e in
    let p : step_at b at ≡ w.step = subst (λ k. step_at b k ≡ w.step) (sym w.goes) (step_of_lem b w.step w.accepted w.near) in
    let q : step_at b r.next ≡ w.step + 1 = subst (λ k. step_at b k ≡ w.step + 1) (sym v.goes) (step_of_lem b (w.step + 1) v.accepted v.near) in
    omega arith
