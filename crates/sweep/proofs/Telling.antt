-- From what the code does by its table to the promise: at the start, by a move, and at home.
use Rattle.std.proofs.Common.{◌≡◌, ℕ, ◌+◌, ◌<◌, ◌≤◌, Bool, true, false, ◌≢◌, List, [], ◌∷◌, length, set, Ok, Err, Result, sym, refl, ap, ◌∙◌, subst, inl, inr, add-one, arith, length-set, get_or-set_other, get_or-set_same, MatchResult, None, Some}
use Rattle.std.proofs.lemmas.Bool.{both_ways, cases_Bool}
use Rattle.board.specs.declared.heading.Heading.{Heading}
use Rattle.board.specs.Squares.{Place, same_square}
use Rattle.board.specs.Places.{megacell_of, slot_of}
use Rattle.board.specs.Corners.{exit}
use Rattle.board.specs.Steps.{step}
use Rattle.board.specs.Counting.{bit, many}
use Rattle.board.specs.Floors.{Floor, SameFromBoth, ClosedAtEdge, Lawful}
use Rattle.board.proofs.Geometry.{square_path, same_square_true, same_square_refl, step_is}
use Rattle.tour.specs.History.{here, old, home, walk, entered}
use Rattle.tour.specs.Rules.{Move}
use Rattle.tour.specs.Ground.{Number}
use Rattle.tour.specs.Tour.{tour, visited, move_after, tour_looks, Underway}
use Rattle.tour.proofs.Coverage.{covers}
use Rattle.tour.proofs.Numbers.{one_number, at_most_1024, one_old_at_start}
use Rattle.tour.proofs.Reach.{one_move_enters, one_move_looks, at_most_4096_moves, underway_one_more, home_at_four_a_megacell, not_home_before_four_a_megacell, ground_has_number}
use Rattle.rover.specs.declared.meaning.Rover.{Ghosts}
use Rattle.rover.specs.Drive.{counted, Blocked}
use Rattle.chart.specs.Charts.{Slot, slot_at, Blank}
use Rattle.sweep.specs.declared.mark.Mark.{Mark}
use Rattle.sweep.specs.declared.faults.SweepFault.{SweepFault}
use Rattle.sweep.specs.declared.faults.SweepFault.TheVariants.{Home}
use Rattle.sweep.specs.declared.sweep.Moved.{Moved}
use Rattle.sweep.specs.declared.sweep.Sweep.{Sweep}
use Rattle.sweep.specs.Table.{choice, decided, is_found}
use Rattle.sweep.specs.Promise.{Promise, NextMove}
use Rattle.sweep.specs.Journey.{counted_by, Journey, Charts}
use Rattle.sweep.specs.Single.{counted_if, Steps, Still, Barred, ByTable, decided_for, found_for, Begun}
use Rattle.sweep.proofs.Following.{Tells, After, decided_by_the_rules, move_leaves}

-- the floors of a rover are lawful
pub lawful : {R : Type 0} {floor : R → Floor} → ((r : R) → SameFromBoth (floor r)) → ((r : R) → ClosedAtEdge (floor r)) → (r : R) → Lawful (floor r)
lawful sides edge r = record { both = sides r; edge = edge r }

pub counted_plain : (n : ℕ) → n < 4294967295 → counted n ≡ n + 1
counted_plain n h = omega arith

counted_if_plain : (b : Bool) (n : ℕ) → n < 4294967295 → counted_if b n ≡ n + bit b
unfolding bit
counted_if_plain true n h = counted_plain n h
counted_if_plain false n h = omega arith

pub counted_none : (n : ℕ) → n ≡ counted_by 0 n
unfolding counted_by
counted_none n = refl

pub counted_more : (k n : ℕ) → counted (counted_by k n) ≡ counted_by (k + 1) n
unfolding counted_by
counted_more k n = rw (add-one k) refl

counted_if_more : (b : Bool) (k n : ℕ) → counted_if b (counted_by k n) ≡ counted_by (k + bit b) n
unfolding bit
counted_if_more true k n = counted_more k n
counted_if_more false k n = ap (λ (x : ℕ). counted_by x n) (omega arith)

-- The slots of a chart, after one is written.
one_place_to_a_slot : (p q : Place) → slot_of p ≡ slot_of q → p ≡ q
one_place_to_a_slot p q e = square_path p q (omega arith) (omega arith)

slot_is_set : {A : Type 0} (slots : List (Slot A)) (q : Place) (v : Slot A) → 4096 ≤ length slots → slot_at (set slots (slot_of q) v) q ≡ v
slot_is_set slots q v h = get_or-set_same slots (slot_of q) v None (omega arith)

other_slots_stay : {A : Type 0} (slots : List (Slot A)) (q p : Place) (v : Slot A) → same_square p q ≡ false → slot_at (set slots (slot_of q) v) p ≡ slot_at slots p
other_slots_stay slots q p v e =
    let ne : slot_of p ≢ slot_of q = λ i. both_ways _ e (ap (λ (x : Place). same_square x q) (one_place_to_a_slot p q i) ∙ same_square_refl q) in
    get_or-set_other slots (slot_of q) (slot_of p) v None ne

charted_after_a_move : {A : Type 0} (field : Place → A) (slots : List (Slot A)) (ps : List Place) (q : Place) → 4096 ≤ length slots →
    ((p : Place) → 1 ≤ many (same_square p) ps → slot_at slots p ≡ Some (field p)) →
    (p : Place) → 1 ≤ many (same_square p) (q ∷ ps) → slot_at (set slots (slot_of q) (Some (field q))) p ≡ Some (field p)
unfolding many bit
charted_after_a_move field slots ps q room held p h = elim (cases_Bool (same_square p q)) [
  | inl e ↦
      let is = same_square_true p q e in
      ap (slot_at (set slots (slot_of q) (Some (field q)))) is ∙ slot_is_set slots q (Some (field q)) room ∙ ap (λ (x : Place). Some (field x)) (sym is)
  | inr e ↦ other_slots_stay slots q p (Some (field q)) e ∙ held p (omega (arith, ap bit e))
]

blank_after_a_move : {A : Type 0} (slots : List (Slot A)) (v : Slot A) (ps : List Place) (q : Place) →
    ((p : Place) → many (same_square p) ps ≡ 0 → slot_at slots p ≡ None) →
    (p : Place) → many (same_square p) (q ∷ ps) ≡ 0 → slot_at (set slots (slot_of q) v) p ≡ None
unfolding many bit
blank_after_a_move slots v ps q clear p h = elim (cases_Bool (same_square p q)) [
  | inl e ↦ absurd (omega (arith, ap bit e))
  | inr e ↦ other_slots_stay slots q p v e ∙ clear p (omega (arith, ap bit e))
]

-- The promise of a sweep, from the place, the looks, the megacells and the home that it tells, and from how its calls went.
pub promise_from_workings : (floor : Floor) (s : Place) (asked : ℕ) (place : Place) (n looked olds : ℕ) (is_home : Bool) → Lawful floor →
    place ≡ here s (visited floor s n) →
    looked ≡ tour_looks floor s n →
    Number (λ m. old s (visited floor s n) m ≡ true) olds →
    is_home ≡ home s (visited floor s n) →
    Underway floor s n →
    (is_home ≡ false → n ≡ asked) →
    n ≤ asked →
    Promise floor s asked place n looked olds is_home
promise_from_workings floor s asked place n looked olds is_home law stands looks cells homed early due most =
    let v = covers floor law s n early in
    let few = v.few in
    record {
      once = v.once;
      inside = v.inside;
      standing = stands;
      whole = λ e. v.whole (sym homed ∙ e);
      ends = λ w. homed ∙ v.ends w;
      back = λ e. stands ∙ v.back (sym homed ∙ e);
      four = λ e. home_at_four_a_megacell floor law s n early (sym homed ∙ e);
      made = λ k w. elim (cases_Bool is_home) [
        | inl e ↦ omega (arith, home_at_four_a_megacell floor law s n early (sym homed ∙ e) k w)
        | inr e ↦ omega (arith, not_home_before_four_a_megacell floor law s n early (sym homed ∙ e) k w, due e)
      ];
      ground = ground_has_number floor law s;
      looks = looks;
      cells = cells;
      few = omega (arith, few.2, one_number.tested (old s (visited floor s n)) few.0 olds few.1 cells);
    }

pub one_move_more : {R A : Type 0} {G : Ghosts R A} {sweep after : Sweep R A} {slots slots_after : List (Slot A)} {h : Heading} {q : Place} → Steps G sweep slots after slots_after h q → sweep.told.moves ≤ 4096 → after.told.moves ≡ sweep.told.moves + 1
one_move_more {sweep = sweep} m few = m.moves ∙ counted_plain sweep.told.moves (omega arith)

-- One move by the table.
module _ {R A : Type 0} (G : Ghosts R A) (origin : R) (law : Lawful (G.floor origin)) (asked : ℕ) (sweep : Sweep R A) (st : Journey G origin asked sweep) where
  -- the table decides for the move that the rules ask for
  decided_is_next : decided_for G sweep ≡ move_after (G.floor origin) (G.place origin) sweep.told.moves
  decided_is_next =
      let f = G.floor origin in
      let z = G.place origin in
      let qs = visited f z sweep.told.moves in
      ap (λ (p : Place). decided (choice sweep.marks.table.entries p) (exit p) (G.floor sweep.rover (megacell_of p) (exit p))) st.promise.standing
      ∙ ap (λ (fl : Floor). decided (choice sweep.marks.table.entries (here z qs)) (exit (here z qs)) (fl (megacell_of (here z qs)) (exit (here z qs)))) st.floor
      ∙ decided_by_the_rules f z qs sweep.marks.table.entries st.workings.tells

  -- the step that the rules ask for is not refused
  pub next_is_never_barred : sweep.told.home ≡ false → Blocked (G.floor sweep.rover) (G.place sweep.rover) (decided_for G sweep).heading → ⊥
  next_is_never_barred far b =
      let there = rw (decided_is_next, st.promise.standing, st.floor) at b in
      there _ ((covers (G.floor origin) law (G.place origin) sweep.told.moves st.workings.underway).accepted (sym st.workings.homed ∙ far))

  -- at home, more asked for alters nothing
  pub journey_idles_at_home : (more : ℕ) → sweep.told.home ≡ true → sweep.told.moves ≤ more → Journey G origin more sweep
  journey_idles_at_home more e h =
      let w = st.workings in
      let v = st.promise in
      record {
        promise = promise_from_workings (G.floor origin) (G.place origin) more (G.place sweep.rover) sweep.told.moves sweep.told.looks sweep.told.megacells sweep.told.home law
            v.standing v.looks v.cells w.homed w.underway (λ f. absurd (both_ways _ f e)) h;
        moves = st.moves;
        looks = st.looks;
        floor = st.floor;
        field = st.field;
        workings = record {
          begun = w.begun;
          tells = w.tells;
          homed = w.homed;
          underway = w.underway;
          due = λ f. absurd (both_ways _ f e);
          most = h;
        };
      }

  module _ (after : Sweep R A) (slots slots_after : List (Slot A)) (h : Heading) (q : Place) (far : sweep.told.home ≡ false) (m : Steps G sweep slots after slots_after h q) (by : ByTable G sweep after h) where
    moves_are_few : sweep.told.moves ≤ 4096
    moves_are_few = at_most_4096_moves (G.floor origin) law (G.place origin) sweep.told.moves st.workings.underway

    one_more : after.told.moves ≡ sweep.told.moves + 1
    one_more = one_move_more m moves_are_few

    decided_leads_there : step (decided_for G sweep).heading (G.place sweep.rover) ≡ q
    decided_leads_there = ap (λ (k : Heading). step k (G.place sweep.rover)) (sym by.heading) ∙ step_is h (G.place sweep.rover) q m.passes.next

    next_enters : visited (G.floor origin) (G.place origin) (sweep.told.moves + 1) ≡ q ∷ visited (G.floor origin) (G.place origin) sweep.told.moves
    next_enters =
        let f = G.floor origin in
        let z = G.place origin in
        let qs = visited f z sweep.told.moves in
        one_move_enters f z sweep.told.moves ∙ ap (λ (x : Place). x ∷ qs)
        (ap (λ (k : Move). step k.heading (here z qs)) (sym decided_is_next) ∙ ap (step (decided_for G sweep).heading) (sym st.promise.standing) ∙ decided_leads_there)

    enters_after : visited (G.floor origin) (G.place origin) after.told.moves ≡ q ∷ visited (G.floor origin) (G.place origin) sweep.told.moves
    enters_after = ap (λ (k : ℕ). visited (G.floor origin) (G.place origin) k) one_more ∙ next_enters

    left_after : After (G.place origin) (visited (G.floor origin) (G.place origin) sweep.told.moves) sweep.marks.table.entries (exit (G.place sweep.rover)) q (found_for G sweep)
    left_after = rw (← decided_leads_there, st.promise.standing) (move_leaves (G.place origin) _ sweep.marks.table.entries _ _ refl sweep.marks.size st.workings.tells)

    looks_are_few : sweep.told.looks ≤ 3073
    looks_are_few = omega (arith, st.promise.few, at_most_1024 _ _ st.promise.cells)

    looked_as_the_tour : bit (decided_for G sweep).looked ≡ bit (move_after (G.floor origin) (G.place origin) sweep.told.moves).looked
    looked_as_the_tour = ap (λ (k : Move). bit k.looked) decided_is_next

    looks_after : after.told.looks ≡ sweep.told.looks + bit (decided_for G sweep).looked
    looks_after = by.looks ∙ counted_if_plain (decided_for G sweep).looked sweep.told.looks (omega (arith, looks_are_few))

    cells_after : after.told.megacells ≡ sweep.told.megacells + bit (is_found (found_for G sweep))
    cells_after = by.megacells ∙ counted_if_plain (is_found (found_for G sweep)) sweep.told.megacells (omega (arith, at_most_1024 _ _ st.promise.cells))

    homed_after : after.told.home ≡ home (G.place origin) (visited (G.floor origin) (G.place origin) after.told.moves)
    unfolding home
    homed_after = m.home ∙ ap (same_square q) st.workings.begun ∙ sym (ap (home (G.place origin)) enters_after)

    slots_is : slots_after ≡ set slots (slot_of q) (Some (G.field origin q))
    slots_is = m.charted ∙ ap (λ (fd : Place → A). set slots (slot_of q) (Some (fd q))) st.field

    underway_after : Underway (G.floor origin) (G.place origin) after.told.moves
    underway_after = rw one_more (underway_one_more (G.floor origin) law (G.place origin) sweep.told.moves st.workings.underway (sym st.workings.homed ∙ far))

    due_after : after.told.moves ≡ asked + 1
    due_after = omega (arith, one_more, st.workings.due far)

    standing_after : G.place after.rover ≡ here (G.place origin) (visited (G.floor origin) (G.place origin) after.told.moves)
    unfolding here
    standing_after = m.place ∙ sym (ap (here (G.place origin)) enters_after)

    promise_after : Promise (G.floor origin) (G.place origin) (asked + 1) (G.place after.rover) after.told.moves after.told.looks after.told.megacells after.told.home
    promise_after =
        let f = G.floor origin in
        let z = G.place origin in
        let qs = visited f z sweep.told.moves in
        promise_from_workings f z (asked + 1) (G.place after.rover) after.told.moves after.told.looks after.told.megacells after.told.home law
        standing_after
        (looks_after ∙ omega (arith, st.promise.looks, looked_as_the_tour, one_move_looks f z sweep.told.moves, ap (tour_looks f z) one_more))
        (subst (λ (x : List Place). Number (λ c. old z x c ≡ true) after.told.megacells) (sym enters_after)
        (subst (λ (k : ℕ). Number (λ c. old z (q ∷ qs) c ≡ true) k) (sym cells_after) (left_after.1 sweep.told.megacells st.promise.cells)))
        homed_after
        underway_after
        (λ e. due_after)
        (omega (arith, due_after))

    -- a move puts the reading of the entered place into the chart, and leaves the rest of it
    pub move_keeps_chart : Charts G origin sweep slots → Charts G origin after slots_after
    move_keeps_chart ch =
        let qs = visited (G.floor origin) (G.place origin) sweep.told.moves in
        record {
          room = omega (arith, ch.room, ap length slots_is, length-set slots (slot_of q) (Some (G.field origin q)));
          charted = λ p i. ap (λ (x : List (Slot A)). slot_at x p) slots_is ∙ charted_after_a_move (G.field origin) slots qs q ch.room ch.charted p (subst (λ (x : List Place). 1 ≤ many (same_square p) x) enters_after i);
          blank = λ p i. ap (λ (x : List (Slot A)). slot_at x p) slots_is ∙ blank_after_a_move slots (Some (G.field origin q)) qs q ch.blank p (subst (λ (x : List Place). many (same_square p) x ≡ 0) enters_after i);
        }

    -- a move keeps the law
    pub move_keeps_journey : Journey G origin (asked + 1) after
    move_keeps_journey =
        let f = G.floor origin in
        let z = G.place origin in
        let qs = visited f z sweep.told.moves in
        record {
          promise = promise_after;
          moves = record {
            exact = m.driven ∙ ap counted st.moves.exact ∙ counted_more sweep.told.moves (G.moves origin) ∙ ap (λ (k : ℕ). counted_by k (G.moves origin)) (sym one_more);
            gained = λ low. m.driven ∙ counted_plain _ (omega (arith, st.moves.gained low, moves_are_few)) ∙ omega (arith, st.moves.gained low, one_more);
          };
          looks = record {
            exact = by.looked ∙ ap (counted_if (decided_for G sweep).looked) st.looks.exact ∙ counted_if_more (decided_for G sweep).looked sweep.told.looks (G.looks origin) ∙ ap (λ (k : ℕ). counted_by k (G.looks origin)) (sym looks_after);
            gained = λ low. by.looked ∙ counted_if_plain (decided_for G sweep).looked (G.looks sweep.rover) (omega (arith, st.looks.gained low, looks_are_few)) ∙ omega (arith, st.looks.gained low, looks_after);
          };
          floor = m.floor ∙ st.floor;
          field = m.field ∙ st.field;
          workings = record {
            begun = m.start ∙ st.workings.begun;
            tells = subst (λ (x : List Place). Tells z x after.marks.table.entries) (sym enters_after) (subst (λ (k : List Mark). Tells z (q ∷ qs) k) (sym by.marks) left_after.0);
            homed = homed_after;
            underway = underway_after;
            due = λ e. due_after;
            most = omega (arith, due_after);
          };
        }

    -- and is the next one of the tour
    pub move_is_next : NextMove (G.floor origin) (G.place origin) sweep.told.moves h q
    unfolding here
    move_is_next = record {
      heading = by.heading ∙ ap (λ (k : Move). k.heading) decided_is_next;
      place = sym (ap (here (G.place origin)) next_enters);
    }

-- What an advance promises, by what the table made of it.
module _ {R A : Type 0} (G : Ghosts R A) (laws : (r : R) → Lawful (G.floor r)) (sweep : Sweep R A) (slots : List (Slot A)) (after : Sweep R A) (slots_after : List (Slot A)) (far : sweep.told.home ≡ false) where
  abbrev MadeOrBarred : Result Moved SweepFault → Type 0
  MadeOrBarred r = MatchResult r
      (λ v. Steps G sweep slots after slots_after v.heading v.place × ByTable G sweep after v.heading)
      (λ e. Barred G sweep (decided_for G sweep).heading e × Still G sweep slots after slots_after)

  pub advance_keeps_journey : (r : Result Moved SweepFault) → MadeOrBarred r → (origin : R) (asked : ℕ) → Journey G origin asked sweep → Journey G origin (asked + 1) after × MatchResult r
      (λ v. (sweep.told.home ≡ false) × NextMove (G.floor origin) (G.place origin) sweep.told.moves v.heading v.place)
      (λ e. (sweep.told.home ≡ true) × (e ≡ Home))
  advance_keeps_journey (Ok v) w origin asked st = (
    move_keeps_journey G origin (laws origin) asked sweep st after slots slots_after v.heading v.place far w.0 w.1,
    (far, move_is_next G origin (laws origin) asked sweep st after slots slots_after v.heading v.place far w.0 w.1),
  )
  advance_keeps_journey (Err e) w origin asked st = absurd (next_is_never_barred G origin (laws origin) asked sweep st far w.0.blocked)

  pub advance_keeps_chart : (r : Result Moved SweepFault) → MadeOrBarred r → (origin : R) (asked : ℕ) → Journey G origin asked sweep → Charts G origin sweep slots → Charts G origin after slots_after
  advance_keeps_chart (Ok v) w origin asked st ch = move_keeps_chart G origin (laws origin) asked sweep st after slots slots_after v.heading v.place far w.0 w.1 ch
  advance_keeps_chart (Err e) w origin asked st ch = absurd (next_is_never_barred G origin (laws origin) asked sweep st far w.0.blocked)

-- A new sweep.
none_entered_before : (p : Place) → 1 ≤ many (same_square p) [] → ⊥
unfolding many
none_entered_before p h = omega arith

pub chart_at_start : {R A : Type 0} {G : Ghosts R A} {rover : R} {sweep : Sweep R A} → Begun G rover sweep → (slots : List (Slot A)) → Blank slots → Charts G rover sweep slots
unfolding entered tour walk
chart_at_start {G = G} {rover = rover} b slots blank = rw b.moves (record {
  room = blank.room;
  charted = λ p i. absurd (none_entered_before p i);
  blank = λ p i. blank.clear (slot_of p) (omega arith);
})

promise_at_start : (floor : Floor) (s : Place) → Lawful floor → Promise floor s 0 s 0 0 1 false
unfolding here many home entered tour walk tour_looks
promise_at_start floor s law = promise_from_workings floor s 0 s 0 0 1 false law refl refl (one_old_at_start s) refl (λ k h. absurd (omega arith)) (λ e. refl) (omega arith)

pub journey_at_start : {R A : Type 0} {G : Ghosts R A} {rover : R} {sweep : Sweep R A} → Lawful (G.floor rover) → Begun G rover sweep → Journey G rover 0 sweep
unfolding here many home entered tour walk counted_by
journey_at_start {G = G} {rover = rover} {sweep = sweep} law b = record {
  promise = rw (b.moves, b.looks, b.megacells, b.home, b.owns) (promise_at_start (G.floor rover) (G.place rover) law);
  moves = rw (b.moves, b.owns) (record { exact = refl; gained = λ low. omega arith });
  looks = rw (b.looks, b.owns) (record { exact = refl; gained = λ low. omega arith });
  floor = ap G.floor b.owns;
  field = ap G.field b.owns;
  workings = rw (b.moves, b.home) (record {
    begun = b.start;
    tells = b.tells;
    homed = refl;
    underway = λ k h. absurd (omega arith);
    due = λ e. refl;
    most = omega arith;
  });
}
