-- The table of marks follows the history: it chooses what the rules ask for, and a move keeps it so.
use Rattle.std.proofs.Common.{◌≡◌, ℕ, ◌+◌, Bool, true, false, cond, ◌≢◌, List, [], ◌∷◌, length, set, replicate, Some, None, Option, sym, refl, ap, ◌∙◌, subst, inl, inr, arith, get_or-set_other, get_or-set_same}
use Rattle.std.proofs.lemmas.Bool.{both_ways, cases_Bool}
use Rattle.std.proofs.lemmas.List.{get_or-replicate}
use lib.ListN.{length-replicate}
use Rattle.board.specs.declared.heading.Heading.{Heading}
use Rattle.board.specs.Squares.{Megacell, Place, same_square, number_of}
use Rattle.board.specs.Headings.{left, opposite}
use Rattle.board.specs.Places.{megacell_of}
use Rattle.board.specs.Corners.{exit}
use Rattle.board.specs.Steps.{beside, step}
use Rattle.board.specs.Counting.{bit}
use Rattle.board.specs.Floors.{Floor}
use Rattle.board.proofs.Geometry.{square_path, same_square_true, same_square_refl, same_heading_true, megacell_subcell, turned, crossed, beside_back}
use Rattle.tour.specs.History.{here, old, parent}
use Rattle.tour.specs.Rules.{is_parent, absent_or_old, ruled, next_move}
use Rattle.tour.specs.Ground.{Number}
use Rattle.tour.proofs.History.{false_unless_true, same_megacell_sym, here_is_old, old_stays_old, entered_is_old, newly_old_is_entered, entering_old_ages_none, parent_of_old_stays, parent_of_new_is_left}
use Rattle.tour.proofs.Means.{is_parent_by_heading}
use Rattle.tour.proofs.Numbers.{number_stays, number_grows}
use Rattle.sweep.specs.declared.mark.Mark.{Mark}
use Rattle.sweep.specs.declared.mark.Mark.TheVariants.{New, Root, Under}
use Rattle.sweep.specs.declared.choice.Choice.{Choice}
use Rattle.sweep.specs.declared.choice.Choice.TheVariants.{Cross, Turn, Look}
use Rattle.sweep.specs.Table.{mark_at, leads, look_if_new, choice_by, choice, decided, found, is_found, marked, Says}
use Rattle.sweep.proofs.Choosing.{look_is_at_the_neighbour}

abbrev pub Tells : Place → List Place → List Mark → Type 0
Tells s ps marks = (m : Megacell) → Says s ps m (mark_at marks m)

one_megacell_to_a_number : (m n : Megacell) → number_of m ≡ number_of n → m ≡ n
one_megacell_to_a_number m n e = square_path m n (omega arith) (omega arith)

-- A move into an old megacell changes no mark.
says_as_before : (s q : Place) (ps : List Place) (m : Megacell) (k : Mark) → (old s ps m ≡ false → old s (q ∷ ps) m ≡ false) → Says s ps m k → Says s (q ∷ ps) m k
says_as_before s q ps m New o w = o w
says_as_before s q ps m Root o w = (old_stays_old s q ps m w.0, parent_of_old_stays s q ps m w.0 ∙ w.1)
says_as_before s q ps m (Under h) o w = (old_stays_old s q ps m w.0, (w.1.0, parent_of_old_stays s q ps m w.0 ∙ w.1.1, w.1.2, old_stays_old s q ps w.1.0 w.1.3))

pub old_entry_keeps_marks : (s q : Place) (ps : List Place) (marks : List Mark) → old s ps (megacell_of q) ≡ true → Tells s ps marks → Tells s (q ∷ ps) marks
old_entry_keeps_marks s q ps marks o t m = says_as_before s q ps m (mark_at marks m) (λ e. entering_old_ages_none s q ps m o ∙ e) (t m)

-- A first entry marks the megacell.
other_marks_stay : (marks : List Mark) (y m : Megacell) (k : Mark) → same_square m y ≡ false → mark_at (set marks (number_of y) k) m ≡ mark_at marks m
other_marks_stay marks y m k e =
    let ne : number_of m ≢ number_of y = λ i. both_ways _ e (ap (λ (x : Megacell). same_square x y) (one_megacell_to_a_number m y i) ∙ same_square_refl y) in
    get_or-set_other marks (number_of y) (number_of m) k New ne

mark_is_set : (marks : List Mark) (y : Megacell) (k : Mark) → length marks ≡ 1024 → mark_at (set marks (number_of y) k) y ≡ k
mark_is_set marks y k e = get_or-set_same marks (number_of y) k New (omega arith)

pub first_entry_keeps_marks : (s q : Place) (ps : List Place) (marks : List Mark) (y : Megacell) (e : Heading) → length marks ≡ 1024 → beside (megacell_of (here s ps)) e ≡ Some y → old s ps y ≡ false → megacell_of q ≡ y →
    Tells s ps marks → Tells s (q ∷ ps) (set marks (number_of y) (Under (opposite e)))
first_entry_keeps_marks s q ps marks y e size b new in_y t m = elim (cases_Bool (same_square m y)) [
  | inl i ↦
      let is : m ≡ y = same_square_true m y i in
      let x = megacell_of (here s ps) in
      let w : Says s (q ∷ ps) y (Under (opposite e)) = (
        ap (old s (q ∷ ps)) (sym in_y) ∙ entered_is_old s q ps,
        (x, parent_of_new_is_left s q ps y new in_y, beside_back e x y b, old_stays_old s q ps x (here_is_old s ps)),
      ) in
      subst (λ (z : Megacell). Says s (q ∷ ps) z (mark_at (set marks (number_of y) (Under (opposite e))) z)) (sym is)
      (subst (λ (k : Mark). Says s (q ∷ ps) y k) (sym (mark_is_set marks y (Under (opposite e)) size)) w)
  | inr i ↦
      subst (λ (k : Mark). Says s (q ∷ ps) m k) (sym (other_marks_stay marks y m (Under (opposite e)) i))
      (says_as_before s q ps m (mark_at marks m) (λ o. false_unless_true _ (λ a. elim (newly_old_is_entered s q ps m a) [
        | inl f ↦ both_ways (same_square m y) i (ap (same_square m) (sym in_y ∙ f) ∙ same_square_refl m)
        | inr f ↦ both_ways _ o f
      ])) (t m))
]

-- The choice is by the rules.
leads_to_the_parent : (s : Place) (ps : List Place) (x y : Megacell) (e : Heading) (k : Mark) → old s ps x ≡ true → beside x e ≡ Some y → Says s ps x k → leads k e ≡ is_parent (Some y) (parent s ps x)
unfolding is_parent
leads_to_the_parent s ps x y e New o b w = absurd (both_ways _ w o)
leads_to_the_parent s ps x y e Root o b w = rw w.1
leads_to_the_parent s ps x y e (Under h) o b w = sym (is_parent_by_heading x w.1.0 e h (parent s ps x) w.1.1 w.1.2) ∙ ap (λ (v : Option Megacell). is_parent v (parent s ps x)) b

looks_by_the_rules : (s : Place) (ps : List Place) (y : Megacell) (e : Heading) (f : Bool) (k : Mark) → Says s ps y k → decided (look_if_new k y) e f ≡ ruled e false (old s ps y) f
unfolding ruled
looks_by_the_rules s ps y e true New w = rw w
looks_by_the_rules s ps y e false New w = rw w
looks_by_the_rules s ps y e f Root w = rw w.0
looks_by_the_rules s ps y e f (Under h) w = rw w.0

absent_by_the_rules : (e : Heading) (f : Bool) (o : Option Megacell) → decided Turn e f ≡ ruled e (is_parent None o) true f
unfolding ruled is_parent
absent_by_the_rules e f o = refl

cross_by_the_rules : (e : Heading) (o f : Bool) → decided Cross e f ≡ ruled e true o f
unfolding ruled
cross_by_the_rules e o f = refl

decided_by_the_rules_at : (s : Place) (ps : List Place) (marks : List Mark) (x : Megacell) (e : Heading) (f : Bool) (o : Option Megacell) → beside x e ≡ o → old s ps x ≡ true → Tells s ps marks →
    decided (choice_by marks x e o) e f ≡ ruled e (is_parent o (parent s ps x)) (absent_or_old s ps o) f
unfolding absent_or_old
decided_by_the_rules_at s ps marks x e f None b a t = absent_by_the_rules e f (parent s ps x)
decided_by_the_rules_at s ps marks x e f (Some y) b a t = go (is_parent (Some y) (parent s ps x)) (leads_to_the_parent s ps x y e (mark_at marks x) a b (t x))
  where
    go : (c : Bool) → leads (mark_at marks x) e ≡ c → decided (cond (leads (mark_at marks x) e) Cross (look_if_new (mark_at marks y) y)) e f ≡ ruled e c (old s ps y) f
    go true i = rw i (cross_by_the_rules e (old s ps y) f)
    go false i = rw i (looks_by_the_rules s ps y e f (mark_at marks y) (t y))

pub decided_by_the_rules : (floor : Floor) (s : Place) (ps : List Place) (marks : List Mark) → Tells s ps marks →
    decided (choice marks (here s ps)) (exit (here s ps)) (floor (megacell_of (here s ps)) (exit (here s ps))) ≡ next_move floor s ps
unfolding next_move
decided_by_the_rules floor s ps marks t = decided_by_the_rules_at s ps marks (megacell_of (here s ps)) (exit (here s ps)) (floor (megacell_of (here s ps)) (exit (here s ps))) (beside (megacell_of (here s ps)) (exit (here s ps))) refl (here_is_old s ps) t

-- What a choice says of the megacell ahead.
only_new_is_looked_at : (s : Place) (ps : List Place) (k : Mark) (x y : Megacell) → look_if_new k x ≡ Look y → Says s ps x k → old s ps y ≡ false
only_new_is_looked_at s ps New x y e w = let is : x ≡ y = cc in rw (← is) w
only_new_is_looked_at s ps Root x y e w = cc
only_new_is_looked_at s ps (Under h) x y e w = cc

no_cross_but_to_the_parent : (k : Mark) (x : Megacell) → look_if_new k x ≡ Cross → ⊥
no_cross_but_to_the_parent New x e = cc
no_cross_but_to_the_parent Root x e = cc
no_cross_but_to_the_parent (Under h) x e = cc

parent_is_old : (s : Place) (ps : List Place) (x : Megacell) (e : Heading) (k : Mark) → leads k e ≡ true → Says s ps x k → (z : Megacell) × (beside x e ≡ Some z) × (old s ps z ≡ true)
parent_is_old s ps x e New l w = absurd (both_ways false refl l)
parent_is_old s ps x e Root l w = absurd (both_ways false refl l)
parent_is_old s ps x e (Under h) l w = (w.1.0, ap (beside x) (same_heading_true e h l) ∙ w.1.2, w.1.3)

crossed_to_is_old : (s : Place) (ps : List Place) (marks : List Mark) (x : Megacell) (e : Heading) (o : Option Megacell) → choice_by marks x e o ≡ Cross → Tells s ps marks → (z : Megacell) × (beside x e ≡ Some z) × (old s ps z ≡ true)
crossed_to_is_old s ps marks x e None i t = cc
crossed_to_is_old s ps marks x e (Some y) i t = go (leads (mark_at marks x) e) refl i
  where
    go : (c : Bool) → leads (mark_at marks x) e ≡ c → cond c Cross (look_if_new (mark_at marks y) y) ≡ Cross → (z : Megacell) × (beside x e ≡ Some z) × (old s ps z ≡ true)
    go true l j = parent_is_old s ps x e (mark_at marks x) l (t x)
    go false l j = absurd (no_cross_but_to_the_parent (mark_at marks y) y j)

looked_at_is_new : (s : Place) (ps : List Place) (marks : List Mark) (x : Megacell) (e : Heading) (o : Option Megacell) (y : Megacell) → choice_by marks x e o ≡ Look y → o ≡ Some y → Tells s ps marks → old s ps y ≡ false
looked_at_is_new s ps marks x e None y i j t = cc
looked_at_is_new s ps marks x e (Some z) y i j t = go (leads (mark_at marks x) e) i
  where
    go : (c : Bool) → cond c Cross (look_if_new (mark_at marks z) z) ≡ Look y → old s ps y ≡ false
    go true k = cc
    go false k = only_new_is_looked_at s ps (mark_at marks z) z y k (t z)

-- What a move leaves: the table at the longer history, and how many megacells are old.
abbrev pub After : Place → List Place → List Mark → Heading → Place → Option Megacell → Type 0
After s ps marks e q o = Tells s (q ∷ ps) (marked o e marks) × ((k : ℕ) → Number (λ m. old s ps m ≡ true) k → Number (λ m. old s (q ∷ ps) m ≡ true) (k + bit (is_found o)))

old_entry_leaves : (s : Place) (ps : List Place) (marks : List Mark) (e : Heading) (q : Place) → old s ps (megacell_of q) ≡ true → Tells s ps marks → After s ps marks e q None
unfolding bit
old_entry_leaves s ps marks e q o t = (old_entry_keeps_marks s q ps marks o t, λ k w. subst (λ (j : ℕ). Number (λ m. old s (q ∷ ps) m ≡ true) j) (omega arith) (number_stays s q ps k o w))

turn_leaves : (s : Place) (ps : List Place) (marks : List Mark) → Tells s ps marks → After s ps marks (exit (here s ps)) (step (left (exit (here s ps))) (here s ps)) None
turn_leaves s ps marks t =
    let p = here s ps in
    let in_x : megacell_of (step (left (exit p)) p) ≡ megacell_of p = ap megacell_of (turned p) ∙ megacell_subcell _ _ in
    old_entry_leaves s ps marks (exit p) (step (left (exit p)) p) (ap (old s ps) in_x ∙ here_is_old s ps) t

pub move_leaves : (s : Place) (ps : List Place) (marks : List Mark) (c : Choice) (f : Bool) → choice marks (here s ps) ≡ c → length marks ≡ 1024 → Tells s ps marks →
    After s ps marks (exit (here s ps)) (step (decided c (exit (here s ps)) f).heading (here s ps)) (found c f)
unfolding bit
move_leaves s ps marks Cross f i size t =
    let p = here s ps in
    let w = crossed_to_is_old s ps marks (megacell_of p) (exit p) (beside (megacell_of p) (exit p)) i t in
    let in_z : megacell_of (step (exit p) p) ≡ w.0 = ap megacell_of (crossed p w.0 w.1) ∙ megacell_subcell _ _ in
    old_entry_leaves s ps marks (exit p) (step (exit p) p) (ap (old s ps) in_z ∙ w.2) t
move_leaves s ps marks Turn f i size t = turn_leaves s ps marks t
move_leaves s ps marks (Look y) true i size t =
    let p = here s ps in
    let b = look_is_at_the_neighbour marks p y i in
    let new = looked_at_is_new s ps marks (megacell_of p) (exit p) (beside (megacell_of p) (exit p)) y i b t in
    let in_y : megacell_of (step (exit p) p) ≡ y = ap megacell_of (crossed p y b) ∙ megacell_subcell _ _ in
    (first_entry_keeps_marks s (step (exit p) p) ps marks y (exit p) size b new in_y t, λ k w. number_grows s (step (exit p) p) ps k (ap (old s ps) in_y ∙ new) w)
move_leaves s ps marks (Look y) false i size t = turn_leaves s ps marks t

-- The marks of a new sweep.
pub fresh_marks_stand : (s : Place) {own : Megacell} {marks : List Mark} → own ≡ megacell_of s → marks ≡ set (replicate 1024 New) (number_of own) Root → Tells s [] marks
unfolding old parent
fresh_marks_stand s {own = own} {marks = marks} i e m = elim (cases_Bool (same_square m own)) [
  | inl a ↦
      let is = same_square_true m own a in
      let k : mark_at marks m ≡ Root = ap (λ (x : List Mark). mark_at x m) e ∙ ap (mark_at (set (replicate 1024 New) (number_of own) Root)) is ∙ mark_is_set (replicate 1024 New) own Root (length-replicate 1024 New) in
      subst (λ (v : Mark). Says s [] m v) (sym k) (ap (same_square (megacell_of s)) (is ∙ i) ∙ same_square_refl (megacell_of s), refl)
  | inr a ↦
      let k : mark_at marks m ≡ New = ap (λ (x : List Mark). mark_at x m) e ∙ other_marks_stay (replicate 1024 New) own m Root a ∙ get_or-replicate 1024 (number_of m) New New (omega arith) in
      subst (λ (v : Mark). Says s [] m v) (sym k) (ap (λ (x : Megacell). same_square x m) (sym i) ∙ same_megacell_sym own m ∙ a)
]
