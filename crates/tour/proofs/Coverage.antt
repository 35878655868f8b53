-- The coverage theorem: what the laws of a history say of the tour at every move until home.
use Rattle.std.proofs.Common.{◌≡◌, ℕ, zero, suc, ◌+◌, ◌*◌, ◌≤◌, Bool, true, false, List, [], ◌∷◌, ◌++◌, length, sym, refl, ap, ◌∙◌, subst, arith}
use mathlib.Core.List.{reverse_aux}
use Rattle.std.proofs.lemmas.Bool.{both_ways}
use Rattle.board.specs.declared.heading.Heading.{Heading}
use Rattle.board.specs.Squares.{Megacell, Place, same_square}
use Rattle.board.specs.Places.{megacell_of}
use Rattle.board.specs.Corners.{subcell}
use Rattle.board.specs.Steps.{step}
use Rattle.board.specs.Counting.{bit, many}
use Rattle.tour.specs.History.{here, old, home, walk, entered, at, enters}
use Rattle.board.specs.Floors.{Floor, Lawful}
use Rattle.tour.specs.Ground.{Ground, begin, across, Number}
use Rattle.tour.specs.Rules.{next_move}
use Rattle.tour.specs.Tour.{tour, visited, tour_looks, Underway, Covers}
use Rattle.board.proofs.Geometry.{same_square_true, same_square_refl, megacell_subcell, exit_subcell}
use Rattle.tour.proofs.History.{false_unless_true, start_is_old, true_when_counted, bit_at_most_one, Plan, head_is_in, tail_is_in, Departed, start_is_departed, entered_is_departed}
use Rattle.tour.proofs.Laws.{Laws, laws_at_start, Advances, move_keeps_laws}

pub walk_one_more : (s : Place) (ps : List Place) (ms : List Heading) (h : Heading) → walk s ps (ms ++ (h ∷ [])) ≡ step h (here s (walk s ps ms)) ∷ walk s ps ms
unfolding walk
walk_one_more s ps [] h = refl
walk_one_more s ps (k ∷ ms) h = walk_one_more s (step k (here s ps) ∷ ps) ms h

walk_length : (s : Place) (ps : List Place) (ms : List Heading) → length (walk s ps ms) ≡ length ps + length ms
unfolding walk
walk_length s ps [] = omega arith
walk_length s ps (k ∷ ms) = omega (arith, walk_length s (step k (here s ps) ∷ ps) ms)

walk_leads_to_last : (s : Place) (ps : List Place) (ms : List Heading) → at (here s ps) ms ≡ here s (walk s ps ms)
unfolding walk at here
walk_leads_to_last s ps [] = refl
walk_leads_to_last s ps (h ∷ ms) = walk_leads_to_last s (step h (here s ps) ∷ ps) ms

walk_is_reversed : (s : Place) (ps : List Place) (ms : List Heading) → walk s ps ms ≡ reverse_aux (enters (here s ps) ms) ps
unfolding walk enters here
walk_is_reversed s ps [] = refl
walk_is_reversed s ps (h ∷ ms) = walk_is_reversed s (step h (here s ps) ∷ ps) ms

pub entered_length : (s : Place) (ms : List Heading) → length (entered s ms) ≡ length ms
unfolding entered
entered_length s ms = omega (arith, walk_length s [] ms)

-- as long as a plan is left, it ends with the start
start_is_planned : (s : Place) (ps : List Place) (p b : Place) (rest : List Place) → Plan s ps p (b ∷ rest) → 1 ≤ many (same_square s) (b ∷ rest)
start_is_planned s ps p b [] k = subst (λ (x : Place). 1 ≤ many (same_square s) (x ∷ [])) (sym k.1) (head_is_in s [])
start_is_planned s ps p b (d ∷ rest) k = tail_is_in s b (d ∷ rest) (start_is_planned s ps b d rest k.1)

home_stands_at_start : (s : Place) (ps : List Place) → home s ps ≡ true → here s ps ≡ s
unfolding home here
home_stands_at_start s [] e = refl
home_stands_at_start s (p ∷ ps) e = same_square_true p s e

home_entered_start : (s : Place) (ps : List Place) → home s ps ≡ true → 1 ≤ many (same_square s) ps
unfolding home
home_entered_start s [] e = absurd (both_ways false refl e)
home_entered_start s (p ∷ ps) e = subst (λ (x : Place). 1 ≤ many (same_square s) (x ∷ ps)) (sym (same_square_true p s e)) (head_is_in s ps)

home_departed_from_all : (s : Place) (ps : List Place) (a : Place) → home s ps ≡ true → 1 ≤ many (same_square a) ps → Departed s ps a
unfolding home many bit
home_departed_from_all s [] a e h = absurd (both_ways false refl e)
home_departed_from_all s (p ∷ ps) a e h = go (same_square a p) refl h
  where
    go : (b : Bool) → same_square a p ≡ b → 1 ≤ bit b + many (same_square a) ps → Departed s (p ∷ ps) a
    go true f k = subst (Departed s (p ∷ ps)) (sym (same_square_true a p f ∙ same_square_true p s e)) (start_is_departed s p ps)
    go false f k = entered_is_departed s p ps a (omega arith)

module _ (floor : Floor) (s : Place) (ps : List Place) (olds : List Megacell) (l : ℕ) where
  start_not_yet_entered : (b : Place) (rest : List Place) → Laws floor s ps (b ∷ rest) olds l → 1 ≤ many (same_square s) ps → ⊥
  start_not_yet_entered b rest v h = omega (arith, v.once s, bit_at_most_one (old s ps (megacell_of s)), start_is_planned s ps (here s ps) b rest v.plan)

  plan_done_is_home : Laws floor s ps [] olds l → home s ps ≡ true
  unfolding here home many bit old
  plan_done_is_home v = go ps v.plan (v.once s)
    where
      go : (qs : List Place) → here s qs ≡ s → many (same_square s) qs + many (same_square s) [] ≡ bit (old s qs (megacell_of s)) → home s qs ≡ true
      go [] e k = absurd (omega (arith, ap bit (same_square_refl (megacell_of s))))
      go (q ∷ qs) e k = ap (λ (x : Place). same_square x s) e ∙ same_square_refl s

  home_olds_are_closed : Laws floor s ps [] olds l → (m : Megacell) → Ground floor s m → old s ps m ≡ true
  unfolding many bit
  home_olds_are_closed v m begin = start_is_old s ps
  home_olds_are_closed v m (across k n h g f e) =
      let a = subcell k h in
      let ma = megacell_subcell k h in
      let ea = exit_subcell k h in
      let o : old s ps (megacell_of a) ≡ true = ap (old s ps) ma ∙ home_olds_are_closed v k g in
      let i : 1 ≤ many (same_square a) ps = omega (arith, v.once a, ap bit o) in
      v.seen a (home_departed_from_all s ps a (plan_done_is_home v) i) m (rw (ma, ea) e) (rw (ma, ea) f)

  home_entered_all : Laws floor s ps [] olds l → (p : Place) → Ground floor s (megacell_of p) → 1 ≤ many (same_square p) ps
  unfolding many bit
  home_entered_all v p g = let o = home_olds_are_closed v (megacell_of p) g in omega (arith, v.once p, ap bit o)

  planned_is_not_home : (b : Place) (rest : List Place) → Laws floor s ps (b ∷ rest) olds l → home s ps ≡ false
  planned_is_not_home b rest v = false_unless_true (home s ps) (λ e. start_not_yet_entered b rest v (home_entered_start s ps e))

  -- home exactly when the plan is done
  home_is_whole : (rest : List Place) → Laws floor s ps rest olds l → home s ps ≡ true → (p : Place) → Ground floor s (megacell_of p) → 1 ≤ many (same_square p) ps
  home_is_whole [] v e = home_entered_all v
  home_is_whole (b ∷ rest) v e = absurd (both_ways _ (planned_is_not_home b rest v) e)

  whole_is_home : (rest : List Place) → Laws floor s ps rest olds l → ((p : Place) → Ground floor s (megacell_of p) → 1 ≤ many (same_square p) ps) → home s ps ≡ true
  whole_is_home [] v k = plan_done_is_home v
  whole_is_home (b ∷ rest) v k = absurd (start_not_yet_entered b rest v (k s begin))

  pub olds_number : (rest : List Place) → Laws floor s ps rest olds l → Number (λ m. old s ps m ≡ true) (length olds)
  unfolding bit
  olds_number rest v = record {
    list = olds;
    size = refl;
    once = λ m. omega (arith, v.list m, bit_at_most_one (old s ps m));
    only = λ m h. true_when_counted _ (omega (arith, v.list m));
    each = λ m e. omega (arith, v.list m, ap bit e);
  }

  home_after_four_a_megacell : (rest : List Place) → Laws floor s ps rest olds l → home s ps ≡ true → (k : ℕ) × Number (Ground floor s) k × (length ps ≡ 4 * k)
  unfolding olds_number
  home_after_four_a_megacell [] v e =
      let w = olds_number [] v in (
        length olds,
        record {
          list = olds;
          size = refl;
          once = w.once;
          only = λ m h. v.ground m (w.only m h);
          each = λ m g. w.each m (home_olds_are_closed v m g);
        },
        omega (arith, v.size),
      )
  home_after_four_a_megacell (b ∷ rest) v e = absurd (both_ways _ (planned_is_not_home b rest v) e)

next_move_keeps_laws : (floor : Floor) → Lawful floor → (s : Place) → (ps rest : List Place) (olds : List Megacell) (l : ℕ) → Laws floor s ps rest olds l →
    home s ps ≡ false → Advances floor s ps l (next_move floor s ps)
next_move_keeps_laws floor law s ps [] olds l v e = absurd (both_ways _ e (plan_done_is_home floor s ps olds l v))
next_move_keeps_laws floor law s ps (b ∷ rest) olds l v e = move_keeps_laws floor law s ps rest b olds l v

-- the laws after the first n moves
unfoldable pub LawsHold : Floor → Place → ℕ → Type 0
LawsHold floor s n = (rest : List Place) × (olds : List Megacell) × Laws floor s (visited floor s n) rest olds (tour_looks floor s n)

pub laws_hold : (floor : Floor) → Lawful floor → (s : Place) → (n : ℕ) → Underway floor s n → LawsHold floor s n
unfolding LawsHold entered walk tour tour_looks
laws_hold floor law s zero far = (_, _, laws_at_start floor law s)
laws_hold floor law s (suc n) far =
    let h = laws_hold floor law s n (λ k i. far k (omega arith)) in
    let w = next_move_keeps_laws floor law s (visited floor s n) h.0 h.1 (tour_looks floor s n) h.2 (far n (omega arith)) in
    (w.0, w.1, rw walk_one_more w.2)

pub covers : Covers
unfolding LawsHold here entered
covers floor law s n far =
    let h = laws_hold floor law s n far in
    let ps = visited floor s n in
    let v = h.2 in
    let o = olds_number floor s ps h.1 (tour_looks floor s n) h.0 v in
    record {
      once = λ p. omega (arith, v.once p, bit_at_most_one (old s ps (megacell_of p)));
      inside = λ p i. v.ground (megacell_of p) (true_when_counted _ (omega (arith, v.once p)));
      stands = walk_leads_to_last s [] (tour floor s n);
      order = walk_is_reversed s [] (tour floor s n);
      whole = home_is_whole floor s ps h.1 (tour_looks floor s n) h.0 v;
      ends = whole_is_home floor s ps h.1 (tour_looks floor s n) h.0 v;
      back = home_stands_at_start s ps;
      four = λ e. let w = home_after_four_a_megacell floor s ps h.1 (tour_looks floor s n) h.0 v e in (w.0, w.1, sym (entered_length s (tour floor s n)) ∙ w.2);
      accepted = λ e. (next_move_keeps_laws floor law s ps h.0 h.1 (tour_looks floor s n) v e).3;
      few = (length h.1, o, omega (arith, v.few));
    }
