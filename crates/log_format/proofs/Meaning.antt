-- A log is accepted exactly when it is one, and tells of the records of its chain.
use Rattle.std.proofs.Common.{◌≡◌, ℕ, zero, suc, ◌+◌, ◌<◌, ◌≤◌, Bool, true, false, cond, not, List, set, replicate, is_some, Some, None, Ok, Option, sym, refl, ap, ◌∙◌, subst, add-one, arith}
use Rattle.std.proofs.lemmas.Bool.{both_ways}
use Rattle.std.proofs.lemmas.Option.{none-some}
use Rattle.board.specs.Squares.{Megacell, number_of, same_square}
use Rattle.board.specs.Places.{megacell_of}
use Rattle.board.proofs.Geometry.{same_square_true, same_square_refl}
use Rattle.firsts.specs.First.{first}
use Rattle.firsts.proofs.Firsts.{first_here, first_some, first_none, first_none_at}
use Rattle.log_record.specs.declared.faults.LogFault.TheVariants.{StartUntold}
use Rattle.log_record.specs.declared.header.Header.{Header}
use Rattle.log_record.specs.declared.record.Record.{Record}
use Rattle.log_record.specs.Layout.{header_of, record_at}
use Rattle.log_record.proofs.Headers.{header_tells}
use Rattle.log_format.specs.Chain.{holder, index, tells_of, comes_to, visited, goes_on, stop}
use Rattle.log_format.specs.Log.{ended_in, is_none, accepts, record_in, record_of}
use Rattle.log_format.specs.Meaning.{Comes, Chain, IsLog, AcceptedExactly, TellsOfChain}
use Rattle.log_format.proofs.Walking.{Walked, walked_start, walked_more, walked_end, step_end, stops_at, led_is, holds_next}
use Rattle.log_format.proofs.Following.{accepted_header, accepted_end, end_index, before_stop, some_none, no_record_zero}

-- Where a test holds, and where it holds first.

some_by : (P : ℕ → Bool) (n : ℕ) (o : Option ℕ) → first P n ≡ o → is_some o ≡ true → (j : ℕ) × (j < n) × (P j ≡ true)
some_by P n (Some j) e t = let k = first_some P n j e in (j, k.0, k.1)
some_by P n None e t = absurd (both_ways false refl t)

some_at : (P : ℕ → Bool) (n : ℕ) → is_some (first P n) ≡ true → (j : ℕ) × (j < n) × (P j ≡ true)
some_at P n t = some_by P n (first P n) refl t

at_some_by : (P : ℕ → Bool) (n j : ℕ) (o : Option ℕ) → first P n ≡ o → j < n → P j ≡ true → is_some o ≡ true
at_some_by P n j (Some k) e h t = refl
at_some_by P n j None e h t = absurd (both_ways (P j) (first_none_at P n j e h) t)

at_some : (P : ℕ → Bool) (n j : ℕ) → j < n → P j ≡ true → is_some (first P n) ≡ true
at_some P n j h t = at_some_by P n j (first P n) refl h t

-- A record that tells of a megacell.

tells_by : (o : Option Record) (m : Megacell) → tells_of o m ≡ true → (r : Record) × (o ≡ Some r) × (r.megacell ≡ m)
tells_by (Some r) m t = (r, refl, same_square_true r.megacell m t)
tells_by None m t = absurd (both_ways false refl t)

tells : (b : List ℕ) (j : ℕ) (r : Record) (m : Megacell) → Comes b j r → r.megacell ≡ m → comes_to b m j ≡ true
tells b j r m c e = ap (λ o. tells_of o m) c ∙ subst (λ x. same_square r.megacell x ≡ true) e (same_square_refl r.megacell)

one_record_lem : (o : Option Record) (r s : Record) → o ≡ Some r → o ≡ Some s → r ≡ s
one_record_lem o r s e f = cc

-- From acceptance to a log.

unvisited : (b : List ℕ) (i j : ℕ) (r s : Record) → i < j → j < stop b → Comes b i r → Comes b j s → r.megacell ≡ s.megacell → ⊥
unvisited b i j r s h l c d e =
    let k = before_stop b j l in
    let q : k.to ≡ s = one_record_lem _ _ _ k.at d in
    let f = first_none_at (comes_to b k.to.megacell) j i (some_none _ k.new) h in
    both_ways _ f (tells b i r k.to.megacell c (e ∙ ap (λ (x : Record). x.megacell) (sym q)))

pub accepted_chain : (b : List ℕ) → accepts b ≡ true → Chain b (stop b)
accepted_chain b a =
    record {
      within = λ j h. (before_stop b j h).below;
      records = λ j h. let k = before_stop b j h in (k.to, k.at);
      apart = λ i j r s h l c d e. unvisited b i j r s h l c d e;
      ends = end_index b (stop b) (accepted_end b a);
    }

told_start : (v : Bool) → is_none (cond v None (Some StartUntold)) ≡ true → v ≡ true
told_start true e = refl
told_start false e = absurd (both_ways false refl e)

accepted_log : (b : List ℕ) → accepts b ≡ true → IsLog b
accepted_log b a =
    let k = accepted_header b a in
    let m = megacell_of k.0.start in
    let v = told_start (visited b m (stop b)) (subst (λ s. is_none (ended_in b m (stop b) s) ≡ true) (accepted_end b a) k.2) in
    let p = some_at (comes_to b m) (stop b) v in
    let r = tells_by (record_at b (index b p.0)) m p.2 in
    record { header = k.0; read = k.1; long = stop b; chain = accepted_chain b a; start = (p.0, p.1, (r.0, r.1, r.2)) }

-- From a log to acceptance: a walk along its chain.

fresh : (b : List ℕ) (long : ℕ) (k : Chain b long) (j : ℕ) (r : Record) → j < long → Comes b j r → visited b r.megacell j ≡ false
fresh b long k j r h c =
    ap is_some (first_none (comes_to b r.megacell) j (λ i l. apart_at i l (k.records i (omega arith))))
  where
    apart_at : (i : ℕ) → i < j → (s : Record) × Comes b i s → comes_to b r.megacell i ≡ false
    apart_at i l s = unlike (same_square s.0.megacell r.megacell) refl
      where
        unlike : (t : Bool) → same_square s.0.megacell r.megacell ≡ t → comes_to b r.megacell i ≡ false
        unlike true e = absurd (k.apart i j s.0 r l h s.1 c (same_square_true _ _ e))
        unlike false e = ap (λ o. tells_of o r.megacell) s.1 ∙ e

reach : (b : List ℕ) (h : Header) (long : ℕ) → header_of b ≡ Ok h → Chain b long → (j : ℕ) → j ≤ long → (seen : List Bool) × Walked b j (holder b j) (index b j) seen
reach b h long g k zero l = (replicate 1024 false, walked_start b)
reach b h long g k (suc j) l =
    let p = reach b h long g k j (omega arith) in
    let s = k.records j (omega arith) in
    let r = s.0 in
    let z : index b j ≡ 0 → ⊥ = λ e. no_record_zero b r (subst (λ i. record_at b i ≡ Some r) e s.1) in
    let n : index b j ≤ h.count = subst (λ n. index b j ≤ n) (sym (header_tells b h g).0) (k.within j (omega arith)) in
    let w = walked_more g p.1 z (led_is b h.count (holder b j) (index b j) r n s.1) (p.1.marks r.megacell ∙ fresh b long k j r (omega arith) s.1) in (
      set p.0 (number_of r.megacell) true,
      subst (λ i. Walked b i (index b j) (index b (suc j)) (set p.0 (number_of r.megacell) true)) (add-one j)
          (subst (λ i. Walked b (j + 1) (index b j) i (set p.0 (number_of r.megacell) true)) (holds_next b (index b j) r z s.1) w),
    )

log_accepted : (b : List ℕ) → IsLog b → accepts b ≡ true
log_accepted b l =
    let p = reach b l.header l.long l.read l.chain l.long (omega arith) in
    let m = megacell_of l.header.start in
    let s = l.start in
    let v : visited b m l.long ≡ true = at_some (comes_to b m) l.long s.0 s.1 (tells b s.0 s.2.0 m s.2.1 s.2.2) in
    ap is_none (walked_end l.read p.1 l.chain.ends (p.1.marks m ∙ v)).0

pub accepted_exactly : AcceptedExactly
accepted_exactly b = (accepted_log b, log_accepted b)

-- The chain of a log stops where it ends.
long_stop : (b : List ℕ) (l : IsLog b) → stop b ≡ l.long
long_stop b l =
    let p = reach b l.header l.long l.read l.chain l.long (omega arith) in
    stops_at b l.long p.1.none (omega (arith, p.1.left)) (ap (λ s. not (goes_on s)) (step_end b l.long l.chain.ends))

found_by : (b : List ℕ) (long : ℕ) (m : Megacell) (r : Record) (o : Option ℕ) → first (comes_to b m) long ≡ o → record_in b o ≡ Some r → (j : ℕ) × (j < long) × Comes b j r × (r.megacell ≡ m)
found_by b long m r (Some j) e q =
    let k = first_some (comes_to b m) long j e in
    let s = tells_by (record_at b (index b j)) m k.1 in
    (j, k.0, q, ap (λ (x : Record). x.megacell) (one_record_lem _ _ _ q s.1) ∙ s.2)
found_by b long m r None e q = absurd (none-some r q)

told_first : (b : List ℕ) (l : IsLog b) (m : Megacell) (r : Record) (j : ℕ) → j < l.long → Comes b j r → r.megacell ≡ m → first (comes_to b m) l.long ≡ Some j
told_first b l m r j h c e =
    first_here (comes_to b m) j l.long (some_none _ (subst (λ x. visited b x j ≡ false) e (fresh b l.long l.chain j r h c))) (tells b j r m c e) h

pub tells_of_chain : TellsOfChain
unfolding record_of
tells_of_chain b l m r =
    let s = long_stop b l in (
      (λ q. found_by b l.long m r (first (comes_to b m) l.long) refl (subst (λ n. record_in b (first (comes_to b m) n) ≡ Some r) s q)),
      (λ j h c e. subst (λ n. record_in b (first (comes_to b m) n) ≡ Some r) (sym s) (ap (record_in b) (told_first b l m r j h c e) ∙ c)),
    )
