-- A history allows exactly one next move, the computed one; so moves by the rules are the tour.
use Rattle.std.proofs.Common.{◌≡◌, ℕ, suc, Bool, true, false, List, [], ◌∷◌, ◌++◌, length, Some, None, Option, sym, refl, ap, ◌∙◌, inl, inr, append_assoc, append-nil, arith, length-append}
use Rattle.std.proofs.lemmas.Bool.{both_ways, cases_lt}
use Rattle.board.specs.declared.heading.Heading.{Heading}
use Rattle.board.specs.Squares.{Megacell, Place}
use Rattle.board.specs.Floors.{Floor}
use Rattle.tour.specs.History.{parent, home, entered}
use Rattle.tour.specs.Rules.{own, own_exit, neighbour, Move, Allows, cross_back, turn_absent, turn_old, cross_new, turn_closed, is_parent, absent_or_old, ruled, next_move, OneNext}
use Rattle.tour.specs.Tour.{tour, home_after, Underway, ByRules, RulesMake}
use Rattle.tour.proofs.History.{false_unless_true, is_parent_names_one, same_is_parent}

module _ (floor : Floor) (s : Place) (ps : List Place) where
  computed_is_allowed : (o : Option Megacell) (t a f : Bool) → neighbour s ps ≡ o → is_parent o (parent s ps (own s ps)) ≡ t → absent_or_old s ps o ≡ a → floor (own s ps) (own_exit s ps) ≡ f →
      Allows floor s ps (ruled (own_exit s ps) t a f)
  unfolding ruled absent_or_old
  computed_is_allowed o true a f i et ea ef = let w = is_parent_names_one o (parent s ps (own s ps)) et in cross_back w.0 (i ∙ w.1) w.2
  computed_is_allowed None false true f i et ea ef = turn_absent i
  computed_is_allowed None false false f i et ea ef = absurd (both_ways true ea refl)
  computed_is_allowed (Some y) false true f i et ea ef = turn_old y i (λ k. both_ways _ et (same_is_parent (Some y) _ y refl k)) ea
  computed_is_allowed (Some y) false false true i et ea ef = cross_new y i (λ k. both_ways _ et (same_is_parent (Some y) _ y refl k)) ea ef
  computed_is_allowed (Some y) false false false i et ea ef = turn_closed y i (λ k. both_ways _ et (same_is_parent (Some y) _ y refl k)) ea ef

  other_is_not_parent : (y : Megacell) → neighbour s ps ≡ Some y → (parent s ps (own s ps) ≡ Some y → ⊥) → is_parent (neighbour s ps) (parent s ps (own s ps)) ≡ false
  other_is_not_parent y i n = false_unless_true _ (λ t.
      let w = is_parent_names_one _ _ t in
      let e : w.0 ≡ y = let a = w.1 in cc in
      n (w.2 ∙ ap Some e))

  allowed_is_computed : (n : Move) → Allows floor s ps n → n ≡ next_move floor s ps
  unfolding next_move ruled absent_or_old is_parent
  allowed_is_computed n (cross_back y i j) = rw (same_is_parent _ _ y i j)
  allowed_is_computed n (turn_absent i) = rw i
  allowed_is_computed n (turn_old y i j o) = rw (other_is_not_parent y i j, i, o)
  allowed_is_computed n (cross_new y i j o f) = rw (other_is_not_parent y i j, i, o, f)
  allowed_is_computed n (turn_closed y i j o f) = rw (other_is_not_parent y i j, i, o, f)

pub one_next : OneNext
unfolding next_move
one_next floor s ps = (computed_is_allowed floor s ps _ _ _ _ refl refl refl refl, allowed_is_computed floor s ps)

rules_make_from : (floor : Floor) (s : Place) (ms : List Heading) → ByRules floor s ms → (done later : List Heading) → ms ≡ done ++ later → done ≡ tour floor s (length done) →
    Underway floor s (length done) → (ms ≡ tour floor s (length ms)) × Underway floor s (length ms)
unfolding tour
rules_make_from floor s ms by done [] e is far =
    let q : ms ≡ done = e ∙ append-nil done in
    (rw q is, λ k h. far k (omega (arith, ap length q)))
rules_make_from floor s ms by done (h ∷ later) e is far =
    let a = by.allowed done h later e in
    let asked : (next_move floor s (entered s done)).heading ≡ h = sym (ap (λ (m : Move). m.heading) ((one_next floor s (entered s done)).1 _ a.1)) in
    let n : length (done ++ (h ∷ [])) ≡ suc (length done) = simp length-append (omega arith) in
    rules_make_from floor s ms by (done ++ (h ∷ [])) later (e ∙ sym (append_assoc done (h ∷ []) later))
    (rw n (let i = is in cc))
    (λ k i. elim (cases_lt k (length done)) [
      | inl j ↦ far k j
      | inr j ↦ let q : k ≡ length done = omega (arith, n) in ap (λ (x : ℕ). home_after floor s x) q ∙ ap (λ (x : List Heading). home s (entered s x)) (sym is) ∙ by.before done h later e
    ])

pub rules_make : RulesMake
unfolding tour
rules_make floor s ms by = rules_make_from floor s ms by [] ms refl refl (λ k h. absurd (omega arith))
