-- The laws of a history that the tour keeps from move to move, and the proof that each move keeps them.
--
-- The rest of the tour is planned at every moment: it is the contour of the tree of parents found so far. A first entry
-- puts four subcells into the plan; every other move follows it.
use Rattle.std.proofs.Common.{◌≡◌, ℕ, ◌+◌, ◌*◌, ◌≤◌, Bool, true, false, not, List, [], ◌∷◌, length, Some, None, Option, sym, refl, ap, ◌∙◌, subst, inl, inr, arith}
use Rattle.std.proofs.lemmas.Bool.{both_ways}
use Rattle.board.specs.declared.heading.Heading.{Heading}
use Rattle.board.specs.declared.heading.Heading.TheVariants.{North, East, South, West}
use Rattle.board.specs.Headings.{same_heading, heading_number, left, right, opposite}
use Rattle.board.specs.Squares.{same_square, Megacell, Place}
use Rattle.board.specs.Places.{megacell_of}
use Rattle.board.specs.Corners.{exit, subcell}
use Rattle.board.specs.Steps.{step, beside}
use Rattle.board.specs.Counting.{bit, many}
use Rattle.tour.specs.History.{here, old, parent}
use Rattle.tour.specs.Rules.{is_parent, absent_or_old}
use Rattle.board.specs.Floors.{Floor, Lawful, Passes}
use Rattle.tour.specs.Ground.{Ground, begin, across}
use Rattle.tour.specs.Rules.{Move, ruled, next_move}
use Rattle.board.proofs.Geometry.{same_square_true, same_heading_refl, megacell_subcell, exit_subcell, subcell_own, beside_back, beside_inj, turned, crossed, turn_beside, cross_beside, step_beside, four_places}
use Rattle.tour.proofs.History.{same_megacell_sym, true_when_counted, bit_at_most_one, bit_of_either, false_unless_true, here_is_old, old_stays_old, entered_is_old, newly_old_is_entered, entering_old_ages_none, parent_of_new_is_left, parent_stays_or_is_left}
use Rattle.tour.proofs.History.{leads_to_parent, parent_when_is_parent, is_parent_names_one, same_is_parent, planned, Plan, unexamined, head_is_in, tail_is_in, plan_stays, unexamined_stays, Departed}

-- `ps` are the places entered, the last first, `rest` is the plan, `olds` the old megacells, `l` the looks made.
pub record Laws (floor : Floor) (s : Place) (ps rest : List Place) (olds : List Megacell) (l : ℕ) : Type 0 where
  -- the plan leads from where the rover stands to the start
  pub plan : Plan s ps (here s ps) rest
  -- the places entered and planned are the subcells of the old megacells, each once
  pub once : (a : Place) → many (same_square a) ps + many (same_square a) rest ≡ bit (old s ps (megacell_of a))
  -- the list has each old megacell once, and there are four places for each
  pub list : (m : Megacell) → many (same_square m) olds ≡ bit (old s ps m)
  pub size : length ps + length rest ≡ 4 * length olds
  -- old megacells are in the ground; the side to a parent is open, and a parent is old
  pub ground : (m : Megacell) → old s ps m ≡ true → Ground floor s m
  pub parents : (m z : Megacell) (h : Heading) → parent s ps m ≡ Some z → beside m h ≡ Some z → (floor m h ≡ true) × (old s ps z ≡ true)
  -- across the exit of a place that was left, if that side is open, the neighbour is old
  pub seen : (a : Place) → Departed s ps a → (y : Megacell) → beside (megacell_of a) (exit a) ≡ Some y → floor (megacell_of a) (exit a) ≡ true → old s ps y ≡ true
  -- the looks made and still to be expected
  pub few : l + unexamined s ps (here s ps) rest ≤ 3 * length olds + 1

left_of_right : (e : Heading) → left (right e) ≡ e
unfolding left right
left_of_right North = refl
left_of_right East = refl
left_of_right South = refl
left_of_right West = refl

left_of_left : (e : Heading) → left (left e) ≡ opposite e
unfolding left opposite
left_of_left North = refl
left_of_left East = refl
left_of_left South = refl
left_of_left West = refl

left_of_opposite : (e : Heading) → left (opposite e) ≡ right e
unfolding left right opposite
left_of_opposite North = refl
left_of_opposite East = refl
left_of_opposite South = refl
left_of_opposite West = refl

right_of_opposite : (e : Heading) → right (opposite e) ≡ left e
unfolding left right opposite
right_of_opposite North = refl
right_of_opposite East = refl
right_of_opposite South = refl
right_of_opposite West = refl

right_is_not_opposite : (e : Heading) → same_heading (right e) (opposite e) ≡ false
unfolding same_heading heading_number right opposite
right_is_not_opposite North = refl
right_is_not_opposite East = refl
right_is_not_opposite South = refl
right_is_not_opposite West = refl

own_is_not_opposite : (e : Heading) → same_heading e (opposite e) ≡ false
unfolding same_heading heading_number opposite
own_is_not_opposite North = refl
own_is_not_opposite East = refl
own_is_not_opposite South = refl
own_is_not_opposite West = refl

left_is_not_opposite : (e : Heading) → same_heading (left e) (opposite e) ≡ false
unfolding same_heading heading_number left opposite
left_is_not_opposite North = refl
left_is_not_opposite East = refl
left_is_not_opposite South = refl
left_is_not_opposite West = refl

-- what the next move gives: the laws of the longer history, and a step that may be made
abbrev pub Advances : Floor → Place → List Place → ℕ → Move → Type 0
Advances floor s ps l n = (rest : List Place) × (olds : List Megacell) × Laws floor s (step n.heading (here s ps) ∷ ps) rest olds (l + bit n.looked) × Passes floor (here s ps) n.heading (step n.heading (here s ps))

module _ (floor : Floor) (law : Lawful floor) (s : Place) where
  planned_is_old : (ps rest : List Place) (olds : List Megacell) (l : ℕ) → Laws floor s ps rest olds l → (a : Place) → 1 ≤ many (same_square a) rest → old s ps (megacell_of a) ≡ true
  planned_is_old ps rest olds l v a h = true_when_counted _ (omega (arith, v.once a))

  -- rules 1 and 2, and rule 3 at a closed side: the move that was planned
  following_the_plan_keeps_laws : (ps rest : List Place) (b : Place) (olds : List Megacell) (l l' : ℕ) → Laws floor s ps (b ∷ rest) olds l →
      ((y : Megacell) → beside (megacell_of (here s ps)) (exit (here s ps)) ≡ Some y → floor (megacell_of (here s ps)) (exit (here s ps)) ≡ true → old s ps y ≡ true) →
      l' ≤ l + bit (not (leads_to_parent s ps (here s ps))) → Laws floor s (b ∷ ps) rest olds l'
  unfolding here many unexamined
  following_the_plan_keeps_laws ps rest b olds l l' v saw le =
      let o : old s ps (megacell_of b) ≡ true = planned_is_old ps (b ∷ rest) olds l v b (head_is_in b rest) in
      let all : (a : Place) → 1 ≤ many (same_square a) rest → old s ps (megacell_of a) ≡ true = λ a h. planned_is_old ps (b ∷ rest) olds l v a (tail_is_in a b rest h) in
      record {
        plan = plan_stays s b ps b rest o all v.plan.1;
        once = λ a. rw (entering_old_ages_none s b ps (megacell_of a) o) (omega (arith, v.once a));
        list = λ m. rw (entering_old_ages_none s b ps m o) (v.list m);
        size = omega (arith, v.size);
        ground = λ m e. v.ground m (sym (entering_old_ages_none s b ps m o) ∙ e);
        parents = λ m z h e f. elim (parent_stays_or_is_left s b ps m z e) [
          | inl k ↦ ((v.parents m z h k.1 f).0, old_stays_old s b ps z (v.parents m z h k.1 f).1)
          | inr k ↦ absurd (both_ways (old s ps m) k.0 (ap (old s ps) (sym k.1) ∙ o))
        ];
        seen = λ a d y e f. old_stays_old s b ps y (elim d [
          | inl k ↦ saw y (ap (λ (x : Place). beside (megacell_of x) (exit x)) (sym k) ∙ e) (ap (λ (x : Place). floor (megacell_of x) (exit x)) (sym k) ∙ f)
          | inr k ↦ v.seen a k y e f
        ]);
        few = omega (arith, v.few, unexamined_stays s b ps b rest o all);
      }

  -- Rule 3 at an open side: the first entry of the megacell y, by the exit e of a place in the megacell x.
  module _ (ps : List Place) (x y : Megacell) (e : Heading) (is_x : megacell_of (here s ps) ≡ x) (is_e : exit (here s ps) ≡ e)
      (besides : beside x e ≡ Some y) (new : old s ps y ≡ false) (g : Ground floor s x) where
    way_back : beside y (opposite e) ≡ Some x
    way_back = beside_back e x y besides

    parent_of_y : parent s (subcell y (right e) ∷ ps) y ≡ Some x
    parent_of_y = parent_of_new_is_left s (subcell y (right e)) ps y new (megacell_subcell y (right e)) ∙ ap Some is_x

    leads_in_y : (k : Heading) → leads_to_parent s (subcell y (right e) ∷ ps) (subcell y k) ≡ is_parent (beside y k) (Some x)
    unfolding leads_to_parent
    leads_in_y k = rw (megacell_subcell y k, exit_subcell y k, parent_of_y)

    turns_in_y : (k : Heading) → same_heading k (opposite e) ≡ false → leads_to_parent s (subcell y (right e) ∷ ps) (subcell y k) ≡ false
    turns_in_y k ne = leads_in_y k ∙ false_unless_true _ (λ t.
        let w = is_parent_names_one (beside y k) (Some x) t in
        let q : beside y k ≡ Some x = w.1 ∙ sym w.2 in
        let r = beside_inj k (opposite e) y x q way_back in
        both_ways (same_heading k (opposite e)) ne (ap (λ (h : Heading). same_heading h (opposite e)) r ∙ same_heading_refl (opposite e)))

    crosses_back_from_y : leads_to_parent s (subcell y (right e) ∷ ps) (subcell y (opposite e)) ≡ true
    crosses_back_from_y = leads_in_y (opposite e) ∙ same_is_parent _ _ x way_back refl

    turn_leads_to : (k : Heading) → same_heading k (opposite e) ≡ false →
        subcell y (left k) ≡ step (planned (leads_to_parent s (subcell y (right e) ∷ ps) (subcell y k)) (exit (subcell y k))) (subcell y k)
    unfolding planned
    turn_leads_to k ne = rw (turns_in_y k ne) (sym (turned (subcell y k) ∙ ap (λ (m : Megacell). subcell m (left (exit (subcell y k)))) (megacell_subcell y k) ∙ ap (λ (h : Heading). subcell y (left h)) (exit_subcell y k)))

    cross_leads_to : subcell x (left e) ≡ step (planned (leads_to_parent s (subcell y (right e) ∷ ps) (subcell y (opposite e))) (exit (subcell y (opposite e)))) (subcell y (opposite e))
    unfolding planned
    cross_leads_to =
        let m = megacell_subcell y (opposite e) in
        let h = exit_subcell y (opposite e) in
        let b : beside (megacell_of (subcell y (opposite e))) (exit (subcell y (opposite e))) ≡ Some x = rw (m, h) way_back in
        rw crosses_back_from_y (sym (crossed (subcell y (opposite e)) x b ∙ ap (λ (k : Heading). subcell x (right k)) h ∙ ap (subcell x) (right_of_opposite e)))

    first_entry_keeps_laws : (rest : List Place) (b : Place) (olds : List Megacell) (l : ℕ) → Laws floor s ps (b ∷ rest) olds l →
        leads_to_parent s ps (here s ps) ≡ false → floor x e ≡ true →
        Laws floor s (subcell y (right e) ∷ ps) (subcell y e ∷ (subcell y (left e) ∷ (subcell y (opposite e) ∷ (b ∷ rest)))) (y ∷ olds) (l + 1)
    unfolding here many unexamined planned old bit
    first_entry_keeps_laws rest b olds l v t f =
        let q = subcell y (right e) in
        let in_y : megacell_of q ≡ y = megacell_subcell y (right e) in
        let o : old s ps (megacell_of b) ≡ true = planned_is_old ps (b ∷ rest) olds l v b (head_is_in b rest) in
        let all : (a : Place) → 1 ≤ many (same_square a) rest → old s ps (megacell_of a) ≡ true = λ a h. planned_is_old ps (b ∷ rest) olds l v a (tail_is_in a b rest h) in
        let at_b : b ≡ subcell x (left e) = v.plan.0 ∙ rw (t, is_e, ← is_x) (rw is_e at (turned (here s ps))) in
        let adds : (m : Megacell) → bit (old s (q ∷ ps) m) ≡ bit (same_square m y) + bit (old s ps m) = λ m. rw (old, in_y) (bit_of_either (same_square y m) (old s ps m) (λ i. ap (old s ps) (sym (same_square_true y m i)) ∙ new) ∙ ap (λ (c : Bool). bit c + bit (old s ps m)) (same_megacell_sym y m)) in
        record {
          plan = (ap (subcell y) (sym (left_of_right e)) ∙ turn_leads_to (right e) (right_is_not_opposite e), (turn_leads_to e (own_is_not_opposite e), (ap (subcell y) (sym (left_of_left e)) ∙ turn_leads_to (left e) (left_is_not_opposite e), (at_b ∙ cross_leads_to, plan_stays s q ps b rest o all v.plan.1))));
          once = λ a. rw (adds (megacell_of a)) (omega (arith, v.once a, four_places a y e));
          list = λ m. rw (adds m) (omega (arith, v.list m));
          size = omega (arith, v.size);
          ground = λ m k. elim (newly_old_is_entered s q ps m k) [
            | inl i ↦ across x m e g f (besides ∙ ap Some (sym in_y ∙ i))
            | inr i ↦ v.ground m i
          ];
          parents = λ m z h i j. elim (parent_stays_or_is_left s q ps m z i) [
            | inl k ↦ ((v.parents m z h k.1 j).0, old_stays_old s q ps z (v.parents m z h k.1 j).1)
            | inr k ↦
                let is_y : y ≡ m = sym in_y ∙ k.1 in
                let is_z : z ≡ x = k.2 ∙ is_x in
                let from_y : beside y h ≡ Some x = cc in
                let is_h = beside_inj h (opposite e) y x from_y way_back in
                let both = law.both x y e besides in
                (cc, old_stays_old s q ps z (ap (old s ps) k.2 ∙ here_is_old s ps))
          ];
          seen = λ a d z i j. elim d [
            | inl k ↦
                let is_z : megacell_of q ≡ z = cc in
                ap (old s (q ∷ ps)) (sym is_z) ∙ entered_is_old s q ps
            | inr k ↦ old_stays_old s q ps z (v.seen a k z i j)
          ];
          few = omega (
            arith,
            v.few,
            unexamined_stays s q ps b rest o all,
            ap (λ (c : Bool). bit (not c)) t,
            ap (λ (c : Bool). bit (not c)) (turns_in_y (right e) (right_is_not_opposite e)),
            ap (λ (c : Bool). bit (not c)) (turns_in_y e (own_is_not_opposite e)),
            ap (λ (c : Bool). bit (not c)) (turns_in_y (left e) (left_is_not_opposite e)),
            ap (λ (c : Bool). bit (not c)) crosses_back_from_y,
          );
        }

  none_is_parent : (o : Option Megacell) → is_parent o None ≡ false
  unfolding is_parent
  none_is_parent None = refl
  none_is_parent (Some y) = refl

  start_leads_to_none : (a : Place) → leads_to_parent s [] a ≡ false
  unfolding leads_to_parent parent
  start_leads_to_none a = none_is_parent (beside (megacell_of a) (exit a))

  start_turn_leads_to : (m : Megacell) (k : Heading) → subcell m (left k) ≡ step (planned (leads_to_parent s [] (subcell m k)) (exit (subcell m k))) (subcell m k)
  unfolding planned
  start_turn_leads_to m k = rw (start_leads_to_none (subcell m k)) (sym (turned (subcell m k) ∙ ap (λ (n : Megacell). subcell n (left (exit (subcell m k)))) (megacell_subcell m k) ∙ ap (λ (h : Heading). subcell m (left h)) (exit_subcell m k)))

  pub laws_at_start : Laws floor s [] (subcell (megacell_of s) (left (exit s)) ∷ (subcell (megacell_of s) (opposite (exit s)) ∷ (subcell (megacell_of s) (right (exit s)) ∷ (subcell (megacell_of s) (exit s) ∷ [])))) (megacell_of s ∷ []) 0
  unfolding here many unexamined planned old parent
  laws_at_start =
      let m = megacell_of s in
      let e = exit s in
      record {
        plan = (
          rw (start_leads_to_none s) (sym (turned s)),
          (
            ap (subcell m) (sym (left_of_left e)) ∙ start_turn_leads_to m (left e),
            (
              ap (subcell m) (sym (left_of_opposite e)) ∙ start_turn_leads_to m (opposite e),
              (ap (subcell m) (sym (left_of_right e)) ∙ start_turn_leads_to m (right e), subcell_own s),
            ),
          ),
        );
        once = λ a. omega (arith, four_places a m e, ap bit (same_megacell_sym (megacell_of a) m));
        list = λ n. omega (arith, ap bit (same_megacell_sym n m));
        size = omega arith;
        ground = λ n i. subst (Ground floor s) (same_square_true m n i) begin;
        parents = λ n z h i j. (cc, cc);
        seen = λ a d y i j. absurd d;
        few = omega (arith, bit_at_most_one);
      }

  module _ (ps : List Place) (rest : List Place) (b : Place) (olds : List Megacell) (l : ℕ) (v : Laws floor s ps (b ∷ rest) olds l) where
    crossing_new_keeps_laws : (o : Option Megacell) → beside (megacell_of (here s ps)) (exit (here s ps)) ≡ o → leads_to_parent s ps (here s ps) ≡ false →
        absent_or_old s ps o ≡ false → floor (megacell_of (here s ps)) (exit (here s ps)) ≡ true → Advances floor s ps l (record { heading = exit (here s ps); looked = true })
    unfolding absent_or_old bit
    crossing_new_keeps_laws None i t a f = absurd (both_ways true a refl)
    crossing_new_keeps_laws (Some y) i t a f =
        let e = exit (here s ps) in
        let x = megacell_of (here s ps) in
        let q = crossed (here s ps) y i in (
          subcell y e ∷ (subcell y (left e) ∷ (subcell y (opposite e) ∷ (b ∷ rest))),
          y ∷ olds,
          rw q (first_entry_keeps_laws ps x y e refl refl i a (v.ground x (here_is_old s ps)) rest b olds l v t f),
          record { next = step_beside (exit (here s ps)) (here s ps) _ (cross_beside (here s ps) y i); way = inr f },
        )

    move_keeps_laws_by : (t o f : Bool) → leads_to_parent s ps (here s ps) ≡ t → absent_or_old s ps (beside (megacell_of (here s ps)) (exit (here s ps))) ≡ o →
        floor (megacell_of (here s ps)) (exit (here s ps)) ≡ f → Advances floor s ps l (ruled (exit (here s ps)) t o f)
    unfolding ruled bit planned leads_to_parent absent_or_old
    move_keeps_laws_by true o f et eo ef =
        let x = megacell_of (here s ps) in
        let e = exit (here s ps) in
        let w = is_parent_names_one (beside x e) (parent s ps x) et in
        let k = v.parents x w.0 e w.2 w.1 in (
          rest,
          olds,
          subst (λ (z : Place). Laws floor s (z ∷ ps) rest olds (l + 0)) (v.plan.0 ∙ ap (λ (c : Bool). step (planned c e) (here s ps)) et)
              (following_the_plan_keeps_laws ps rest b olds l (l + 0) v (λ y i j. (v.parents x y e (parent_when_is_parent _ _ y et i) i).1) (omega arith)),
          record { next = step_beside e (here s ps) _ (cross_beside (here s ps) w.0 w.1); way = inr k.0 },
        )
    move_keeps_laws_by false true f et eo ef =
        let e = exit (here s ps) in (
          rest,
          olds,
          subst (λ (z : Place). Laws floor s (z ∷ ps) rest olds (l + 0)) (v.plan.0 ∙ ap (λ (c : Bool). step (planned c e) (here s ps)) et)
              (following_the_plan_keeps_laws ps rest b olds l (l + 0) v (λ y i j. ap (absent_or_old s ps) (sym i) ∙ eo) (omega arith)),
          record { next = step_beside (left e) (here s ps) _ (turn_beside (here s ps)); way = inl (ap megacell_of (turned (here s ps)) ∙ megacell_subcell _ _) },
        )
    move_keeps_laws_by false false true et eo ef = crossing_new_keeps_laws (beside (megacell_of (here s ps)) (exit (here s ps))) refl et eo ef
    move_keeps_laws_by false false false et eo ef =
        let e = exit (here s ps) in (
          rest,
          olds,
          subst (λ (z : Place). Laws floor s (z ∷ ps) rest olds (l + 1)) (v.plan.0 ∙ ap (λ (c : Bool). step (planned c e) (here s ps)) et)
              (following_the_plan_keeps_laws ps rest b olds l (l + 1) v (λ y i j. absurd (both_ways _ ef j)) (omega (arith, ap (λ (c : Bool). bit (not c)) et))),
          record { next = step_beside (left e) (here s ps) _ (turn_beside (here s ps)); way = inl (ap megacell_of (turned (here s ps)) ∙ megacell_subcell _ _) },
        )

    pub move_keeps_laws : Advances floor s ps l (next_move floor s ps)
    unfolding next_move leads_to_parent
    move_keeps_laws = move_keeps_laws_by _ _ _ refl refl refl
