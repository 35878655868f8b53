-- How the calls of a list add their letters to one buffer.
use Rattle.std.proofs.Common.{◌≡◌, ℕ, zero, suc, ◌+◌, ◌-◌, ◌<◌, ◌≤◌, min, true, List, [], ◌∷◌, ◌++◌, length, get_or, take, drop, sym, refl, ap, ◌∙◌, subst, inl, inr, arith, rules}
use borrow.Rule.Slice.PartMut.{put_mid, put_same}
use Rattle.std.proofs.Math.Seq.{take-suc}
use Rattle.std.proofs.lemmas.List.{places}
use Rattle.std.proofs.lemmas.Bool.{cases_Bool, cases_lt}
use Rattle.board.specs.declared.heading.Heading.{Heading}
use Rattle.board.specs.Squares.{Place}
use Rattle.board.specs.Headings.{letter}
use Rattle.board.specs.Floors.{Floor, Lawful}
use Rattle.tour.specs.Tour.{tour, letters, visited, move_after, Whole}
use Rattle.rover.specs.declared.meaning.Rover.{Ghosts}
use Rattle.chart.specs.Charts.{Slot, Blank, SameBeyond}
use Rattle.sweep.specs.declared.sweep.Sweep.{Sweep}
use Rattle.sweep.specs.declared.faults.SweepFault.{SweepFault}
use Rattle.sweep.specs.declared.faults.SweepFault.TheVariants.{Chart, Home, Rover}
use Rattle.sweep.specs.Promise.{filled, Filled, Letters, SameFrom}
use Rattle.sweep.specs.Journey.{Journey, Charts, Wrote}
use Rattle.sweep.specs.Single.{Begun, Still, Runs, RunRefuses}
use Rattle.sweep.specs.Calls.{Told, Makes}
use Rattle.sweep.proofs.Telling.{journey_idles_at_home}
use Rattle.sweep.proofs.Running.{fills_none, fills_on, nothing_told, refusal_leaves_beyond, Running}

-- A part of a buffer, written over: what stands before it and in it.

put_before : (a k i : ℕ) (xs ys : List ℕ) → i < a → a ≤ length xs → get_or (put_mid a k xs ys) i 0 ≡ get_or xs i 0
put_before a k i xs ys h l = search (rules, places)

put_inside : (a k i j : ℕ) (xs ys : List ℕ) → i ≡ a + j → a ≤ length xs → j < length ys → get_or (put_mid a k xs ys) i 0 ≡ get_or ys j 0
put_inside a k i j xs ys e l h = search (rules, places)

put_after : (a k i : ℕ) (xs ys : List ℕ) → a + k ≤ i → a + k ≤ length xs → length ys ≡ k → get_or (put_mid a k xs ys) i 0 ≡ get_or xs i 0
put_after a k i xs ys h l e = search (rules, places)

part_length : (a k : ℕ) (xs : List ℕ) → a + k ≤ length xs → length (take k (drop a xs)) ≡ k
part_length a k xs l = search (rules, places)

part_at : (a k i j : ℕ) (xs : List ℕ) → i ≡ a + j → j < k → get_or (take k (drop a xs)) j 0 ≡ get_or xs i 0
part_at a k i j xs e h = search (rules, places)

-- a part of which only the first bytes were written keeps the rest, and so does the buffer
put_keeps_rest : (a k n m : ℕ) (xs ys : List ℕ) → m ≡ a + n → a + k ≤ length xs → length ys ≡ k → SameFrom n (take k (drop a xs)) ys → SameFrom m xs (put_mid a k xs ys)
put_keeps_rest a k n m xs ys e fit full same i h = elim (cases_lt i (a + k)) [
  | inl l ↦ put_inside a k i (i - a) xs ys (omega arith) (omega arith) (omega arith) ∙ same (i - a) (omega arith) ∙ part_at a k i (i - a) xs (omega arith) (omega arith)
  | inr l ↦ put_after a k i xs ys l fit full
]

-- a refused run left what lies beyond the chart, and where the slots are too few it left all
refused_run_leaves : {R A : Type 0} (G : Ghosts R A) (sweep after : Sweep R A) (slots slots_after : List (Slot A)) (bytes bytes_after : List ℕ) (e : SweepFault) → RunRefuses G sweep slots bytes after slots_after bytes_after e →
    SameBeyond slots slots_after × (length slots < 4096 → (slots_after ≡ slots) × (bytes_after ≡ bytes))
refused_run_leaves G sweep after slots slots_after bytes bytes_after (Chart e) w = (refusal_leaves_beyond w.1, λ lack. (w.1.chart, w.2))
refused_run_leaves G sweep after slots slots_after bytes bytes_after Home w = absurd w
refused_run_leaves G sweep after slots slots_after bytes bytes_after (Rover e) w = (w.0.2.beyond, λ lack. absurd (omega (arith, lack, w.0.2.room)))

-- What one call makes.

-- no call at all, where no move is wanted or no byte is left
pub no_call_makes : {R A : Type 0} {G : Ghosts R A} {sweep : Sweep R A} {slots : List (Slot A)} {bytes : List ℕ} {wanted : ℕ} → min wanted (length bytes) ≡ 0 → Makes G sweep slots bytes sweep slots bytes 0 wanted
no_call_makes none = record {
  fits = omega arith;
  beyond = λ i h. refl;
  law = λ origin asked room st. nothing_told none st;
  rest = λ origin asked room st i h. refl;
  chart = λ origin asked st ch. ch;
  short = λ few. (refl, refl, refl, λ origin asked st. st);
}

-- as many moves as are wanted and have a byte
pub moves_make : {R A : Type 0} {G : Ghosts R A} {sweep after : Sweep R A} {slots slots_after : List (Slot A)} {bytes bytes_after : List ℕ} {made wanted : ℕ} → Running G sweep slots bytes after slots_after bytes_after made → min wanted (length bytes) ≡ made →
    Makes G sweep slots bytes after slots_after bytes_after made wanted
moves_make {G = G} {sweep = sweep} {after = after} {slots = slots} {slots_after = slots_after} {bytes_after = bytes_after} {made = made} run e = record {
  fits = run.runs.fits;
  beyond = run.runs.beyond;
  law = λ origin asked _ st. subst (λ (k : ℕ). Told G sweep after slots slots_after bytes_after k made origin asked) (sym e) (run.law origin asked st);
  rest = λ origin asked _ st. run.runs.rest;
  chart = run.chart;
  short = λ few. absurd (omega (arith, few, run.runs.room));
}

-- an advance that is refused: the slots are too few, or the sweep is home
pub refused_advance_makes : {R A X : Type 0} {G : Ghosts R A} {sweep after : Sweep R A} {slots slots_after : List (Slot A)} {bytes : List ℕ} → 0 < length bytes → Still G sweep slots after slots_after →
    ((origin : R) (asked : ℕ) → 4096 ≤ length slots → Journey G origin asked sweep → Journey G origin (asked + 1) after × X) →
    ((origin : R) (asked : ℕ) → Journey G origin asked sweep → Charts G origin sweep slots → Charts G origin after slots_after) →
    ((origin : R) (asked : ℕ) → length slots < 4096 → Journey G origin asked sweep → Journey G origin asked after) →
    Makes G sweep slots bytes after slots_after bytes 0 1
unfolding filled
refused_advance_makes {G = G} {after = after} {bytes = bytes} left s law chart short = record {
  fits = omega arith;
  beyond = refusal_leaves_beyond s;
  law = λ origin asked room st. record {
    journey = subst (λ (k : ℕ). Journey G origin (asked + k) after) (omega arith) (law origin asked room st).0;
    moves = s.moves ∙ omega arith;
    writes = λ i h. absurd (omega arith);
    fills = record { places = []; enters = ap (visited (G.floor origin) (G.place origin)) s.moves; fills = s.chart };
  };
  rest = λ origin asked room st i h. refl;
  chart = chart;
  short = λ few. (refl, s.chart, refl, λ origin asked st. short origin asked few st);
}

module _ {R A : Type 0} {G : Ghosts R A} {sweep after : Sweep R A} {slots slots_after : List (Slot A)} {bytes : List ℕ} (out : List ℕ) {part wanted : ℕ} (has : part ≡ min wanted (length bytes)) (full : length out ≡ part) where
  -- a run
  pub run_makes : {made : ℕ} → Runs G sweep slots (take part (drop 0 bytes)) after slots_after out made →
      ((origin : R) (asked : ℕ) → 4096 ≤ length slots → Journey G origin asked sweep → Journey G origin (asked + length (take part (drop 0 bytes))) after
      × ((after.told.moves ≡ sweep.told.moves + made) × Letters (G.floor origin) (G.place origin) sweep.told.moves made out × Filled (G.floor origin) (G.field origin) (G.place origin) sweep.told.moves after.told.moves slots slots_after)) →
      ((origin : R) (asked : ℕ) → Journey G origin asked sweep → Charts G origin sweep slots → Charts G origin after slots_after) →
      Makes G sweep slots bytes after slots_after (put_mid 0 part bytes out) made wanted
  run_makes {made = made} runs law chart =
      let size : length (take part (drop 0 bytes)) ≡ part = part_length 0 part bytes (omega arith) in
      let few : made ≤ part = omega (arith, runs.fits, size) in
      record {
        fits = omega arith;
        beyond = runs.beyond;
        law = λ origin asked room st.
            let t = law origin asked room st in
            record {
              journey = subst (λ (k : ℕ). Journey G origin (asked + k) after) (size ∙ has) t.0;
              moves = t.1.0;
              writes = λ i h. put_inside 0 part i i bytes out (omega arith) (omega arith) (omega arith) ∙ t.1.1 i h;
              fills = t.1.2;
            };
        rest = λ origin asked room st. put_keeps_rest 0 part made made bytes out (omega arith) (omega arith) full runs.rest;
        chart = chart;
        short = λ lack. absurd (omega (arith, lack, runs.room));
      }

  -- a run that is refused: the slots are too few
  pub refused_run_makes : (e : SweepFault) → RunRefuses G sweep slots (take part (drop 0 bytes)) after slots_after out e →
      ((origin : R) (asked : ℕ) → 4096 ≤ length slots → Journey G origin asked sweep → Journey G origin (asked + length (take part (drop 0 bytes))) after × ⊥) →
      ((origin : R) (asked : ℕ) → Journey G origin asked sweep → Charts G origin sweep slots → Charts G origin after slots_after) →
      ((origin : R) (asked : ℕ) → length slots < 4096 → Journey G origin asked sweep → Journey G origin asked after) →
      Makes G sweep slots bytes after slots_after (put_mid 0 part bytes out) 0 wanted
  refused_run_makes e why law chart short =
      let left = refused_run_leaves G sweep after slots slots_after _ out e why in
      record {
        fits = omega arith;
        beyond = left.0;
        law = λ origin asked room st. absurd (law origin asked room st).1;
        rest = λ origin asked room st. absurd (law origin asked room st).1;
        chart = chart;
        short = λ lack. (refl, (left.1 lack).0, ap (put_mid 0 part bytes) (left.1 lack).1 ∙ put_same 0 part bytes, λ origin asked st. short origin asked lack st);
      }

-- The letters, byte by byte, as a list.

letters_more : (ms : List Heading) (h : Heading) → letters (ms ++ (h ∷ [])) ≡ letters ms ++ (letter h ∷ [])
unfolding letters
letters_more [] h = refl
letters_more (m ∷ ms) h = ap (λ (x : List ℕ). letter m ∷ x) (letters_more ms h)

pub letters_listed : (floor : Floor) (s : Place) (n : ℕ) (bytes : List ℕ) → n ≤ length bytes → ((i : ℕ) → i < n → get_or bytes i 0 ≡ letter (move_after floor s i).heading) → take n bytes ≡ letters (tour floor s n)
unfolding tour letters
letters_listed floor s zero bytes fits w = refl
letters_listed floor s (suc n) bytes fits w =
    take-suc bytes n 0 (omega arith)
    ∙ ap (λ (x : List ℕ). x ++ (get_or bytes n 0 ∷ [])) (letters_listed floor s n bytes (omega arith) (λ i h. w i (omega arith)))
    ∙ ap (λ (b : ℕ). letters (tour floor s n) ++ (b ∷ [])) (w n (omega arith))
    ∙ sym (letters_more (tour floor s n) (move_after floor s n).heading)

-- What calls from a new sweep on make.

-- where the slots are enough: all of the promise but the chart
pub record Moved {R A : Type 0} (G : Ghosts R A) (rover : R) (slots : List (Slot A)) (sweep : Sweep R A) (slots_after : List (Slot A)) (bytes_after : List ℕ) (written asked : ℕ) : Type 0 where
  pub journey : Journey G rover asked sweep
  pub moves : sweep.told.moves ≡ written
  pub wrote : Letters (G.floor rover) (G.place rover) 0 written bytes_after
  pub fills : Filled (G.floor rover) (G.field rover) (G.place rover) 0 sweep.told.moves slots slots_after

-- the invariant of the loop: so many letters are written, and the calls so far want so many moves
pub record Gathered {R A : Type 0} (G : Ghosts R A) (rover : R) (slots : List (Slot A)) (bytes : List ℕ) (sweep : Sweep R A) (slots_after : List (Slot A)) (bytes_after : List ℕ) (written wanted : ℕ) : Type 0 where
  pub fits : written ≤ length bytes
  pub beyond : SameBeyond slots slots_after
  pub moved : 4096 ≤ length slots → Moved G rover slots sweep slots_after bytes_after written (min (length bytes) wanted)
  pub rest : 4096 ≤ length slots → SameFrom written bytes bytes_after
  pub chart : Blank slots → Charts G rover sweep slots_after
  pub short : length slots < 4096 → Journey G rover 0 sweep × (slots_after ≡ slots) × (bytes_after ≡ bytes)

-- before the first call
pub gathered_none : {R A : Type 0} {G : Ghosts R A} {rover : R} {sweep : Sweep R A} {slots : List (Slot A)} {bytes : List ℕ} → Begun G rover sweep → Journey G rover 0 sweep → ((free : List (Slot A)) → Blank free → Charts G rover sweep free) →
    Gathered G rover slots bytes sweep slots bytes 0 0
gathered_none {G = G} {rover = rover} {sweep = sweep} {slots = slots} begun started chart = record {
  fits = omega arith;
  beyond = λ i h. refl;
  moved = λ room. record {
    journey = subst (λ (k : ℕ). Journey G rover k sweep) (omega arith) started;
    moves = begun.moves;
    wrote = λ i h. absurd (omega arith);
    fills = subst (λ (n : ℕ). Filled (G.floor rover) (G.field rover) (G.place rover) n sweep.told.moves slots slots) begun.moves (fills_none (G.floor rover) (G.field rover) (G.place rover) sweep.told.moves slots);
  };
  rest = λ room i h. refl;
  chart = chart slots;
  short = λ lack. (started, refl, refl);
}

-- a sweep that is home stays there, however many moves are asked for
home_stays : {R A : Type 0} {G : Ghosts R A} {origin : R} {asked more : ℕ} {sweep after : Sweep R A} → sweep.told.home ≡ true → asked ≤ more → Journey G origin asked sweep → Journey G origin more after → (after.told.moves ≡ sweep.told.moves) × (after.told.home ≡ true)
home_stays {G = G} {origin = origin} {sweep = sweep} {after = after} e h st on =
    let k = st.promise.ground in
    let same : after.told.moves ≡ sweep.told.moves = omega (arith, st.promise.four e k.0 k.1, st.workings.most, on.promise.made k.0 k.1) in
    (same, on.promise.ends (subst (λ (n : ℕ). Whole (G.floor origin) (G.place origin) n) (sym same) (st.promise.whole e)))

module _ {R A : Type 0} {G : Ghosts R A} (laws : (r : R) → Lawful (G.floor r)) {rover : R} {slots : List (Slot A)} {bytes : List ℕ} {sweep : Sweep R A} {slots_mid : List (Slot A)} {bytes_mid : List ℕ} {written wanted : ℕ}
    (so_far : Gathered G rover slots bytes sweep slots_mid bytes_mid written wanted) where
  -- one call more
  pub gathered_more : {after : Sweep R A} {slots_after : List (Slot A)} {out : List ℕ} {made more : ℕ} → length slots_mid ≡ length slots → length bytes_mid ≡ length bytes → length out ≡ length bytes_mid - written →
      Makes G sweep slots_mid (take (length bytes_mid - written) (drop written bytes_mid)) after slots_after out made more →
      Gathered G rover slots bytes after slots_after (put_mid written (length bytes_mid - written) bytes_mid out) (written + made) (wanted + more)
  gathered_more {after = after} {out = out} {made = made} {more = more} same long full call =
      let left : length (take (length bytes_mid - written) (drop written bytes_mid)) ≡ length bytes_mid - written = part_length written _ bytes_mid (omega (arith, so_far.fits)) in
      let fits : written + made ≤ length bytes = omega (arith, so_far.fits, call.fits) in
      record {
        fits = fits;
        beyond = λ i h. call.beyond i h ∙ so_far.beyond i h;
        moved = λ room.
            let m = so_far.moved room in
            let t = call.law rover _ (omega arith) m.journey in
            record {
              journey = elim (cases_Bool sweep.told.home) [
                | inl e ↦
                    let stays = home_stays e (omega arith) m.journey t.journey in
                    journey_idles_at_home G rover (laws rover) _ after t.journey _ stays.1 (omega (arith, stays.0, m.journey.workings.most))
                | inr e ↦ subst (λ (x : ℕ). Journey G rover x after) (omega (arith, left, m.journey.workings.due e, m.moves)) t.journey
              ];
              moves = t.moves ∙ omega (arith, m.moves);
              wrote = λ i h. elim (cases_lt i written) [
                | inl k ↦ put_before written _ i bytes_mid out k (omega (arith, so_far.fits)) ∙ m.wrote i k
                | inr k ↦
                    put_inside written _ i (i - written) bytes_mid out (omega arith) (omega (arith, so_far.fits)) (omega (arith, call.fits, left))
                    ∙ t.writes (i - written) (omega arith) ∙ ap (λ (x : ℕ). letter (move_after (G.floor rover) (G.place rover) x).heading) (omega (arith, m.moves))
              ];
              fills = fills_on m.fills t.fills;
            };
        rest = λ room i h. put_keeps_rest written _ made _ bytes_mid out refl (omega (arith, so_far.fits)) full (call.rest rover _ (omega arith) (so_far.moved room).journey) i h ∙ so_far.rest room i (omega arith);
        chart = λ blank. call.chart rover _ (so_far.moved blank.room).journey (so_far.chart blank);
        short = λ lack.
            let a = so_far.short lack in
            let b = call.short (omega arith) in
            (b.3 rover 0 a.0, b.1 ∙ a.1, ap (put_mid written (length bytes_mid - written) bytes_mid) b.2 ∙ put_same written _ bytes_mid ∙ a.2);
      }

-- after the last call
module _ {R A : Type 0} {G : Ghosts R A} {rover : R} {slots : List (Slot A)} {bytes : List ℕ} {sweep : Sweep R A} {slots_after : List (Slot A)} {bytes_after : List ℕ} {written wanted : ℕ}
    (all : Gathered G rover slots bytes sweep slots_after bytes_after written wanted) where
  pub calls_anyway : length bytes_after ≡ length bytes → 4096 ≤ length slots → Journey G rover (min (length bytes) wanted) sweep × Wrote G rover sweep bytes_after × Filled (G.floor rover) (G.field rover) (G.place rover) 0 sweep.told.moves slots slots_after
  calls_anyway long room =
      let m = all.moved room in
      (m.journey, letters_listed (G.floor rover) (G.place rover) sweep.told.moves bytes_after (omega (arith, all.fits, m.moves)) (λ i h. m.wrote i (omega (arith, m.moves)) ∙ ap (λ (x : ℕ). letter (move_after (G.floor rover) (G.place rover) x).heading) (omega arith)), m.fills)

  pub calls_rest : SameFrom sweep.told.moves bytes bytes_after
  calls_rest i h = elim (cases_lt (length slots) 4096) [
    | inl lack ↦ ap (λ (x : List ℕ). get_or x i 0) (all.short lack).2
    | inr room ↦ all.rest room i (omega (arith, h, (all.moved room).moves))
  ]
