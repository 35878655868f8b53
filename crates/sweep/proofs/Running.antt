-- What a run keeps from move to move.
use Rattle.std.proofs.Common.{◌≡◌, ℕ, ◌+◌, ◌<◌, ◌≤◌, true, false, ◌≢◌, ◌⊎◌, List, [], ◌∷◌, ◌++◌, length, get_or, set, sym, refl, ap, ◌∙◌, subst, inl, inr, append_assoc, arith, get_or-set_other, get_or-set_same, below_more, None, Some}
use Rattle.std.proofs.lemmas.Bool.{both_ways}
use Rattle.board.specs.declared.heading.Heading.{Heading}
use Rattle.board.specs.Squares.{Place}
use Rattle.board.specs.Headings.{letter}
use Rattle.board.specs.Places.{slot_of}
use Rattle.board.specs.Floors.{Floor, Lawful, Passes}
use Rattle.tour.specs.History.{here}
use Rattle.tour.specs.Tour.{visited, move_after}
use Rattle.tour.proofs.Reach.{one_move_enters, at_most_4096_moves}
use Rattle.rover.specs.declared.meaning.Rover.{Ghosts}
use Rattle.chart.specs.Charts.{Slot, SameBeyond}
use Rattle.sweep.specs.declared.sweep.Sweep.{Sweep}
use Rattle.sweep.specs.Promise.{filled, Filled, NextMove, Letters}
use Rattle.sweep.specs.Journey.{Journey, Charts}
use Rattle.fault.specs.declared.layer.Layer.TheVariants.{Rover as RoverLayer}
use Rattle.fault.specs.Refusals.{refused}
use Rattle.sweep.specs.declared.faults.SweepFault.{SweepFault}
use Rattle.sweep.specs.declared.faults.SweepFault.TheVariants.{Chart, Home, Rover}
use Rattle.sweep.specs.Calls.{Told}
use Rattle.sweep.specs.Single.{Steps, Still, Barred, Refuses, Runs, RunRefuses}
use Rattle.rover.specs.declared.faults.RoverFault.TheVariants.{Closed}
use Rattle.rover.specs.Drive.{counted}
use Rattle.sweep.proofs.Telling.{counted_none, counted_more, one_move_more, journey_idles_at_home}

-- What moves do to the slots: no move, one move, and moves after others.

pub fills_none : {A : Type 0} (floor : Floor) (field : Place → A) (s : Place) (n : ℕ) (slots : List (Slot A)) → Filled floor field s n n slots slots
unfolding filled
fills_none floor field s n slots = record { places = []; enters = refl; fills = refl }

filled_on : {A : Type 0} (field : Place → A) (ps qs : List Place) (slots : List (Slot A)) → filled field ps (filled field qs slots) ≡ filled field (ps ++ qs) slots
unfolding filled
filled_on field [] qs slots = refl
filled_on {A = A} field (p ∷ ps) qs slots = ap (λ (x : List (Slot A)). set x (slot_of p) (Some (field p))) (filled_on field ps qs slots)

pub fills_on : {A : Type 0} {floor : Floor} {field : Place → A} {s : Place} {n m k : ℕ} {slots mid after : List (Slot A)} → Filled floor field s n m slots mid → Filled floor field s m k mid after → Filled floor field s n k slots after
fills_on {floor = floor} {field = field} {s = s} {n = n} {slots = slots} a b = record {
  places = b.places ++ a.places;
  enters = b.enters ∙ ap (λ (x : List Place). b.places ++ x) a.enters ∙ sym (append_assoc b.places a.places (visited floor s n));
  fills = b.fills ∙ ap (filled field b.places) a.fills ∙ filled_on field b.places a.places slots;
}

next_visits : (floor : Floor) (s : Place) (n : ℕ) (h : Heading) (q : Place) → NextMove floor s n h q → visited floor s (n + 1) ≡ q ∷ visited floor s n
unfolding here
next_visits floor s n h q w =
    let e = one_move_enters floor s n in
    e ∙ ap (λ (x : Place). x ∷ visited floor s n) (sym (w.place ∙ ap (here s) e))

pub move_fills : {A : Type 0} {floor : Floor} {field : Place → A} {s : Place} {n m : ℕ} {h : Heading} {q : Place} {slots after : List (Slot A)} → NextMove floor s n h q → m ≡ n + 1 → after ≡ set slots (slot_of q) (Some (field q)) → Filled floor field s n m slots after
unfolding filled
move_fills {floor = floor} {s = s} {n = n} {h = h} {q = q} w e c = record {
  places = q ∷ [];
  enters = ap (visited floor s) e ∙ next_visits floor s n h q w;
  fills = c;
}

-- no move made where none is wanted
pub nothing_told : {R A : Type 0} {G : Ghosts R A} {sweep : Sweep R A} {slots : List (Slot A)} {bytes : List ℕ} {wanted : ℕ} {origin : R} {asked : ℕ} → wanted ≡ 0 → Journey G origin asked sweep → Told G sweep sweep slots slots bytes wanted 0 origin asked
nothing_told {G = G} {sweep = sweep} {slots = slots} {origin = origin} none st = record {
  journey = subst (λ (k : ℕ). Journey G origin k sweep) (omega arith) st;
  moves = omega arith;
  writes = λ i h. absurd (omega arith);
  fills = fills_none (G.floor origin) (G.field origin) (G.place origin) sweep.told.moves slots;
}

-- the invariant of the loop
pub record Running {R A : Type 0} (G : Ghosts R A) (sweep : Sweep R A) (slots : List (Slot A)) (before : List ℕ) (after : Sweep R A) (slots_after : List (Slot A)) (bytes : List ℕ) (letters : ℕ) : Type 0 where
  pub runs : Runs G sweep slots before after slots_after bytes letters
  pub room : 4096 ≤ length slots_after
  pub idle : sweep.told.home ≡ true → (letters ≡ 0) × Still G sweep slots after slots_after
  pub law : (origin : R) (asked : ℕ) → Journey G origin asked sweep → Told G sweep after slots slots_after bytes letters letters origin asked
  pub chart : (origin : R) (asked : ℕ) → Journey G origin asked sweep → Charts G origin sweep slots → Charts G origin after slots_after

-- before the first move
pub run_of_no_move : {R A : Type 0} {G : Ghosts R A} {sweep : Sweep R A} {slots : List (Slot A)} {bytes : List ℕ} → 4096 ≤ length slots → Running G sweep slots bytes sweep slots bytes 0
run_of_no_move {G = G} {sweep = sweep} {slots = slots} room = record {
  runs = record {
    room = room;
    fits = omega arith;
    rest = λ i h. refl;
    beyond = λ i h. refl;
    floor = refl;
    field = refl;
    start = refl;
    moves = counted_none sweep.told.moves;
    driven = counted_none (G.moves sweep.rover);
  };
  room = room;
  idle = λ e. (refl, record { place = refl; driven = refl; looked = refl; floor = refl; field = refl; chart = refl; start = refl; marks = refl; moves = refl; looks = refl; megacells = refl; home = refl });
  law = λ origin asked st. nothing_told refl st;
  chart = λ origin asked st ch. ch;
}

-- slots from 4,096 on stay, whether a move is made or refused
pub move_leaves_beyond : {R A : Type 0} {G : Ghosts R A} {sweep after : Sweep R A} {slots slots_after : List (Slot A)} {h : Heading} {q : Place} → Steps G sweep slots after slots_after h q → SameBeyond slots slots_after
move_leaves_beyond {A = A} {G = G} {sweep = sweep} {slots = slots} {q = q} m i k =
    let ne : i ≢ slot_of q = omega arith in
    ap (λ (x : List (Slot A)). get_or x i None) m.charted ∙ get_or-set_other slots (slot_of q) i (Some (G.field sweep.rover q)) None ne

pub refusal_leaves_beyond : {R A : Type 0} {G : Ghosts R A} {sweep after : Sweep R A} {slots slots_after : List (Slot A)} → Still G sweep slots after slots_after → SameBeyond slots slots_after
refusal_leaves_beyond {A = A} s i k = ap (λ (x : List (Slot A)). get_or x i None) s.chart

module _ {R A : Type 0} {G : Ghosts R A} (laws : (r : R) → Lawful (G.floor r)) {sweep : Sweep R A} {slots : List (Slot A)} {before : List ℕ} {after : Sweep R A} {slots_after : List (Slot A)} {bytes : List ℕ} {letters : ℕ}
    (run : Running G sweep slots before after slots_after bytes letters) where
  -- one more move
  pub run_of_one_more : {later : Sweep R A} {slots_later : List (Slot A)} {h : Heading} {q : Place} {byte : ℕ} →
      (4096 ≤ length slots_after) × (after.told.home ≡ false) × Steps G after slots_after later slots_later h q →
      ((origin : R) (asked : ℕ) → 4096 ≤ length slots_after → Journey G origin asked after → Journey G origin (asked + 1) later × ((after.told.home ≡ false) × NextMove (G.floor origin) (G.place origin) after.told.moves h q)) →
      ((origin : R) (asked : ℕ) → Journey G origin asked after → Charts G origin after slots_after → Charts G origin later slots_later) →
      byte ≡ letter h → letters < length before → length bytes ≡ length before → 4096 ≤ length slots_later →
      Running G sweep slots before later slots_later (set bytes letters byte) (letters + 1)
  run_of_one_more {later = later} {slots_later = slots_later} {h = h} {q = q} {byte = byte} done law chart is fits long room =
      let m = done.2 in
      record {
        runs = record {
          room = run.runs.room;
          fits = omega arith;
          rest = λ i k. let ne : i ≢ letters = omega arith in get_or-set_other bytes letters i byte 0 ne ∙ run.runs.rest i (omega arith);
          beyond = λ i k. move_leaves_beyond m i k ∙ run.runs.beyond i k;
          floor = m.floor ∙ run.runs.floor;
          field = m.field ∙ run.runs.field;
          start = m.start ∙ run.runs.start;
          moves = m.moves ∙ ap counted run.runs.moves ∙ counted_more letters sweep.told.moves;
          driven = m.driven ∙ ap counted run.runs.driven ∙ counted_more letters (G.moves sweep.rover);
        };
        room = room;
        idle = λ e. absurd (both_ways _ done.1 ((run.idle e).1.home ∙ e));
        law = λ origin asked st.
            let t = run.law origin asked st in
            let w = law origin (asked + letters) run.room t.journey in
            let next = w.1.1 in
            let one = one_move_more m (at_most_4096_moves (G.floor origin) (laws origin) (G.place origin) after.told.moves t.journey.workings.underway) in
            record {
              journey = subst (λ (k : ℕ). Journey G origin k later) (omega arith) w.0;
              moves = omega (arith, one, t.moves);
              writes = below_more _ _
                  (λ i k. let ne : i ≢ letters = omega arith in get_or-set_other bytes letters i byte 0 ne ∙ t.writes i k)
                  (get_or-set_same bytes letters byte 0 (omega arith)
                  ∙ is ∙ ap letter (next.heading ∙ ap (λ (k : ℕ). (move_after (G.floor origin) (G.place origin) k).heading) t.moves));
              fills = fills_on t.fills (move_fills next one (m.charted ∙ ap (λ (f : Place → A). set slots_after (slot_of q) (Some (f q))) t.journey.field));
            };
        chart = λ origin asked st ch. chart origin (asked + letters) (run.law origin asked st).journey (run.chart origin asked st ch);
      }

  -- the run ends with a full buffer, or home
  pub run_is_done : {count : ℕ} → count ≡ letters → (letters ≡ length before) ⊎ (after.told.home ≡ true) → (origin : R) (asked : ℕ) → 4096 ≤ length slots → Journey G origin asked sweep →
      Journey G origin (asked + length before) after
      × ((after.told.moves ≡ sweep.told.moves + count) × Letters (G.floor origin) (G.place origin) sweep.told.moves count bytes × Filled (G.floor origin) (G.field origin) (G.place origin) sweep.told.moves after.told.moves slots slots_after)
  run_is_done e why origin asked _ st =
      let t = run.law origin asked st in (
        elim why [
          | inl full ↦ subst (λ (k : ℕ). Journey G origin (asked + k) after) full t.journey
          | inr homed ↦ journey_idles_at_home G origin (laws origin) (asked + letters) after t.journey (asked + length before) homed (omega (arith, run.runs.fits, t.journey.workings.most))
        ],
        (t.moves ∙ omega arith, λ i h. t.writes i (omega arith), t.fills),
      )

  -- after a refused step the run stands as it stood
  refusal_keeps_run : {later : Sweep R A} {slots_later : List (Slot A)} → Still G after slots_after later slots_later → Runs G sweep slots before later slots_later bytes letters
  refusal_keeps_run s = record {
    room = run.runs.room;
    fits = run.runs.fits;
    rest = run.runs.rest;
    beyond = λ i k. refusal_leaves_beyond s i k ∙ run.runs.beyond i k;
    floor = s.floor ∙ run.runs.floor;
    field = s.field ∙ run.runs.field;
    start = s.start ∙ run.runs.start;
    moves = s.moves ∙ run.runs.moves;
    driven = s.driven ∙ run.runs.driven;
  }

  refusal_stays_barred : {later : Sweep R A} {slots_later : List (Slot A)} {h : Heading} {e : SweepFault} → Still G after slots_after later slots_later → Barred G after h e → Barred G later h e
  refusal_stays_barred {later = later} {h = h} s b = record {
    blocked = λ q p. b.blocked q (subst (λ (x : Place). Passes (G.floor after.rover) x h q) s.place (subst (λ (f : Floor). Passes f (G.place later.rover) h q) s.floor p));
    is = b.is ∙ ap (λ (x : Place). Rover (Closed (slot_of x) h)) (sym s.place);
    tells = b.tells ∙ ap (λ (x : Place). refused 15 RoverLayer (slot_of x)) (sym s.place);
  }

  -- once the slots are enough, a run is refused for no reason but the rover's
  pub run_refused_by_rover : {later : Sweep R A} {slots_later : List (Slot A)} (e : SweepFault) → letters < length before → after.told.home ≡ false → Refuses G after (length slots_after) e → Still G after slots_after later slots_later →
      RunRefuses G sweep slots before later slots_later bytes e
  run_refused_by_rover (Chart e) fits far w s = absurd (omega (arith, w.0, run.room))
  run_refused_by_rover Home fits far w s = both_ways _ far w.1
  run_refused_by_rover (Rover e) fits far w s = ((letters, fits, refusal_keeps_run s), s.home ∙ far, (w.2.0, refusal_stays_barred s w.2.1))
