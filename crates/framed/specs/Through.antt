-- A floor seen through a frame: its laws, its sides and its steps are those below.
use Rattle.std.proofs.Common.{◌≡◌, Some, None, Option, sym, refl, ap, ◌∙◌, inl, inr, arith}
use Rattle.std.specs.Option.{option_map}
use Rattle.board.specs.declared.heading.Heading.{Heading}
use Rattle.board.specs.declared.heading.Heading.TheVariants.{North, East, South, West}
use Rattle.board.specs.Squares.{Megacell, Place}
use Rattle.board.specs.Headings.{opposite, right}
use Rattle.board.specs.Places.{megacell_of}
use Rattle.board.specs.Corners.{subcell, exit}
use Rattle.board.specs.Steps.{beside}
use Rattle.board.specs.Floors.{Floor, SameFromBoth, ClosedAtEdge, Passes}
use Rattle.board.proofs.Geometry.{megacell_subcell, exit_subcell, Steps, some_steps, cross_beside, beside_back, beside_inj}
use Rattle.board.proofs.Neighbours.{none_of_megacell, none_of_subcell, left_megacell}
use Rattle.frame.specs.Laws.{Keeps}
use Rattle.rover.specs.Drive.{Blocked}
use Rattle.framed.specs.Seen.{megacell_below, seen_floor}

mapped_undone : (f g : Place → Place) → ((p : Place) → g (f p) ≡ p) → (o : Option Place) → option_map g (option_map f o) ≡ o
mapped_undone f g e None = refl
mapped_undone f g e (Some p) = ap Some (e p)

-- no megacell is its own neighbour
not_own : (h : Heading) (m : Megacell) → beside m h ≡ Some m → ⊥
not_own h m e = go h (some_steps h m m e)
  where
    go : (k : Heading) → Steps k m m → ⊥
    go North s = omega arith
    go East s = omega arith
    go South s = omega arith
    go West s = omega arith

-- the subcell that has a heading for its exit leads to the neighbour there
cross_subcell : (m n : Megacell) (h : Heading) → beside m h ≡ Some n → beside (subcell m h) h ≡ Some (subcell n (right h))
cross_subcell m n h e =
    let x = exit_subcell m h in
    let c : beside (megacell_of (subcell m h)) (exit (subcell m h)) ≡ Some n = ap (λ (z : Megacell). beside z (exit (subcell m h))) (megacell_subcell m h) ∙ ap (beside m) x ∙ e in
    ap (beside (subcell m h)) (sym x) ∙ cross_beside (subcell m h) n c ∙ ap (λ (z : Heading). Some (subcell n (right z))) x

module _ (taken returned : Place → Place) (turned restored : Heading → Heading) (keeps : Keeps taken returned turned restored) where
  -- the inverse keeps stepping too
  steps_below : (p : Place) (h : Heading) → beside (returned p) (restored h) ≡ option_map returned (beside p h)
  steps_below p h =
      let up : beside p h ≡ option_map taken (beside (returned p) (restored h)) =
      ap (λ (q : Place). beside q h) (sym (keeps.redone p)) ∙ ap (beside (taken (returned p))) (sym (keeps.redoes h)) ∙ keeps.steps (returned p) (restored h) in
      sym (ap (option_map returned) up ∙ mapped_undone taken returned keeps.undone (beside (returned p) (restored h)))

  -- any subcell of a megacell tells the megacell below
  below : (p : Place) (m : Megacell) → megacell_of p ≡ m → megacell_of (returned p) ≡ megacell_below returned m
  unfolding megacell_below
  below p m e = keeps.rejoined p (subcell m North) (e ∙ sym (megacell_subcell m North))

  below_taken : (p : Place) → megacell_below returned (megacell_of (taken p)) ≡ megacell_of p
  below_taken p = sym (below (taken p) (megacell_of (taken p)) refl) ∙ ap megacell_of (keeps.undone p)

  -- what is seen of a side
  pub side_seen : (floor : Floor) (p : Place) (h : Heading) → floor (megacell_of p) (restored h) ≡ seen_floor returned restored floor (megacell_of (taken p)) h
  side_seen floor p h = ap (λ (m : Megacell). floor m (restored h)) (sym (below_taken p))

  pub pass_seen : (floor : Floor) (p q : Place) (h k : Heading) → k ≡ restored h → Passes floor p k q → Passes (seen_floor returned restored floor) (taken p) h (taken q)
  pass_seen floor p q h k e w = record {
    next = ap (beside (taken p)) (sym (keeps.redoes h) ∙ ap turned (sym e)) ∙ keeps.steps p k ∙ ap (option_map taken) w.next;
    way = elim w.way [
      | inl s ↦ inl (keeps.together q p s)
      | inr o ↦ inr (sym (side_seen floor p h) ∙ ap (floor (megacell_of p)) (sym e) ∙ o)
    ];
  }

  pub block_seen : (floor : Floor) (p : Place) (h k : Heading) → k ≡ restored h → Blocked floor p k → Blocked (seen_floor returned restored floor) (taken p) h
  block_seen floor p h k e shut q w =
      shut (returned q) (record {
        next = ap (λ (x : Place). beside x k) (sym (keeps.undone p)) ∙ ap (beside (returned (taken p))) e ∙ steps_below (taken p) h ∙ ap (option_map returned) w.next;
        way = elim w.way [
          | inl s ↦ inl (keeps.rejoined q (taken p) s ∙ ap megacell_of (keeps.undone p))
          | inr o ↦ inr (ap (floor (megacell_of p)) e ∙ side_seen floor p h ∙ o)
        ];
      })

  -- neighbours have neighbours below, in the opposite way as well
  neighbours : (m n : Megacell) (h : Heading) → beside m h ≡ Some n → (beside (megacell_below returned m) (restored h) ≡ Some (megacell_below returned n)) × (restored (opposite h) ≡ opposite (restored h))
  neighbours m n h e =
      let p : Place = subcell m h in
      let q : Place = subcell n (right h) in
      let pm : megacell_of p ≡ m = megacell_subcell m h in
      let qn : megacell_of q ≡ n = megacell_subcell n (right h) in
      let over : beside p h ≡ Some q = cross_subcell m n h e in
      let step : beside (returned p) (restored h) ≡ Some (returned q) = steps_below p h ∙ ap (option_map returned) over in
      let back : beside (returned q) (restored (opposite h)) ≡ Some (returned p) = steps_below q (opposite h) ∙ ap (option_map returned) (beside_back h p q over) in
      let apart : megacell_of (returned q) ≡ megacell_of (returned p) → ⊥ = λ s.
      let same : megacell_of q ≡ megacell_of p = ap megacell_of (sym (keeps.redone q)) ∙ keeps.together (returned q) (returned p) s ∙ ap megacell_of (keeps.redone p) in
      not_own h m (e ∙ ap Some (sym qn ∙ same ∙ pm)) in (
        ap (λ (x : Megacell). beside x (restored h)) (sym (below p m pm)) ∙ left_megacell (restored h) (returned p) (returned q) step apart ∙ ap Some (below q n qn),
        beside_inj (restored (opposite h)) (opposite (restored h)) (returned q) (returned p) back (beside_back (restored h) (returned p) (returned q) step),
      )

  pub sides_seen : (floor : Floor) → SameFromBoth floor → SameFromBoth (seen_floor returned restored floor)
  sides_seen floor both m n h e =
      let k = neighbours m n h e in
      both (megacell_below returned m) (megacell_below returned n) (restored h) k.0 ∙ ap (floor (megacell_below returned n)) (sym k.1)

  pub edge_seen : (floor : Floor) → ClosedAtEdge floor → ClosedAtEdge (seen_floor returned restored floor)
  edge_seen floor edge m h e =
      let off : beside (returned (subcell m h)) (restored h) ≡ None = steps_below (subcell m h) h ∙ ap (option_map returned) (none_of_subcell h m e) in
      edge (megacell_below returned m) (restored h)
      (ap (λ (x : Megacell). beside x (restored h)) (sym (below (subcell m h) m (megacell_subcell m h))) ∙ none_of_megacell (restored h) (returned (subcell m h)) off)
