-- What one call does to a sweep, its rover, its chart and the tour buffer, whatever the sweep did before.
use Rattle.std.specs.Prelude.{◌≡◌, ℕ, ◌<◌, ◌≤◌, Bool, true, false, List, [], length, Option, slice_set, Some}
use Rattle.fault.specs.declared.layer.Layer.TheVariants.{Sweep as SweepLayer, Rover as RoverLayer}
use Rattle.fault.specs.Refusals.{refused}
use Rattle.rover.specs.declared.meaning.Rover.{Ghosts}
use Rattle.rover.specs.declared.faults.RoverFault.TheVariants.{Closed}
use Rattle.rover.specs.Drive.{counted, Blocked}
use Rattle.board.specs.declared.heading.Heading.{Heading}
use Rattle.board.specs.Squares.{Megacell, Place, number_of, same_square}
use Rattle.board.specs.Places.{megacell_of, slot_of}
use Rattle.board.specs.Corners.{exit}
use Rattle.board.specs.Floors.{Passes}
use Rattle.tour.specs.Rules.{Move}
use Rattle.chart.specs.Charts.{Slot, SameBeyond, TooFew}
use Rattle.sweep.specs.declared.mark.Mark.TheVariants.{Under}
use Rattle.sweep.specs.declared.choice.Choice.{Choice}
use Rattle.sweep.specs.declared.faults.SweepFault.{SweepFault}
use Rattle.sweep.specs.declared.faults.SweepFault.TheVariants.{Chart, Home, Rover}
use Rattle.sweep.specs.declared.sweep.Sweep.{Sweep}
use Rattle.sweep.specs.Promise.{SameFrom}
use Rattle.sweep.specs.Journey.{counted_by}
use Rattle.sweep.specs.Faults.{told}
use Rattle.sweep.specs.Table.{choice, decided, found, is_found, marked, mark_at, Says}

-- a new sweep of a rover
pub record Begun {R A : Type 0} (G : Ghosts R A) (rover : R) (sweep : Sweep R A) : Type 0 where
  pub owns : sweep.rover ≡ rover
  pub start : sweep.start ≡ G.place rover
  pub tells : (m : Megacell) → Says (G.place rover) [] m (mark_at sweep.marks.table.entries m)
  pub moves : sweep.told.moves ≡ 0
  pub looks : sweep.told.looks ≡ 0
  pub megacells : sweep.told.megacells ≡ 1
  pub home : sweep.told.home ≡ false

-- one step, made and charted: by the heading h to the place q, whose slot alone is written
pub record Steps {R A : Type 0} (G : Ghosts R A) (sweep : Sweep R A) (slots : List (Slot A)) (after : Sweep R A) (slots_after : List (Slot A)) (h : Heading) (q : Place) : Type 0 where
  pub passes : Passes (G.floor sweep.rover) (G.place sweep.rover) h q
  pub place : G.place after.rover ≡ q
  pub driven : G.moves after.rover ≡ counted (G.moves sweep.rover)
  pub floor : G.floor after.rover ≡ G.floor sweep.rover
  pub field : G.field after.rover ≡ G.field sweep.rover
  pub charted : slots_after ≡ slice_set slots (slot_of q) (Some (G.field sweep.rover q))
  pub moves : after.told.moves ≡ counted sweep.told.moves
  pub home : after.told.home ≡ same_square q sweep.start
  pub start : after.start ≡ sweep.start

-- nothing changed: the five things that the rover means, the sweep and the chart
pub record Still {R A : Type 0} (G : Ghosts R A) (sweep : Sweep R A) (slots : List (Slot A)) (after : Sweep R A) (slots_after : List (Slot A)) : Type 0 where
  pub place : G.place after.rover ≡ G.place sweep.rover
  pub driven : G.moves after.rover ≡ G.moves sweep.rover
  pub looked : G.looks after.rover ≡ G.looks sweep.rover
  pub floor : G.floor after.rover ≡ G.floor sweep.rover
  pub field : G.field after.rover ≡ G.field sweep.rover
  pub chart : slots_after ≡ slots
  pub start : after.start ≡ sweep.start
  pub marks : after.marks ≡ sweep.marks
  pub moves : after.told.moves ≡ sweep.told.moves
  pub looks : after.told.looks ≡ sweep.told.looks
  pub megacells : after.told.megacells ≡ sweep.told.megacells
  pub home : after.told.home ≡ sweep.told.home

-- the rover refuses the step at this heading
pub record Barred {R A : Type 0} (G : Ghosts R A) (sweep : Sweep R A) (h : Heading) (e : SweepFault) : Type 0 where
  pub blocked : Blocked (G.floor sweep.rover) (G.place sweep.rover) h
  pub is : e ≡ Rover (Closed (slot_of (G.place sweep.rover)) h)
  pub tells : told e ≡ refused 15 RoverLayer (slot_of (G.place sweep.rover))

-- why an advance is refused: 13, the slots, so many, are too few; else 14, the sweep is home; else 15, the rover refuses its step
abbrev pub Refuses : {R A : Type 0} → Ghosts R A → Sweep R A → ℕ → SweepFault → Type 0
Refuses G sweep slots (Chart e) = TooFew slots e
Refuses G sweep slots Home = (4096 ≤ slots) × (sweep.told.home ≡ true) × (told Home ≡ refused 14 SweepLayer 0)
Refuses G sweep slots (Rover e) = (4096 ≤ slots) × (sweep.told.home ≡ false) × ((h : Heading) × Barred G sweep h (Rover e))

-- a run of n moves: each counted once, and no byte of the buffer written but the first n
pub record Runs {R A : Type 0} (G : Ghosts R A) (sweep : Sweep R A) (slots : List (Slot A)) (tour : List ℕ) (after : Sweep R A) (slots_after : List (Slot A)) (tour_after : List ℕ) (n : ℕ) : Type 0 where
  pub room : 4096 ≤ length slots
  pub fits : n ≤ length tour
  pub rest : SameFrom n tour tour_after
  pub beyond : SameBeyond slots slots_after
  pub floor : G.floor after.rover ≡ G.floor sweep.rover
  pub field : G.field after.rover ≡ G.field sweep.rover
  pub start : after.start ≡ sweep.start
  pub moves : after.told.moves ≡ counted_by n sweep.told.moves
  pub driven : G.moves after.rover ≡ counted_by n (G.moves sweep.rover)

-- why a run is refused: 13, the slots are too few, and nothing changed; or the rover refuses a step after some moves, which it never does in a sweep that was started
abbrev pub RunRefuses : {R A : Type 0} → Ghosts R A → Sweep R A → List (Slot A) → List ℕ → Sweep R A → List (Slot A) → List ℕ → SweepFault → Type 0
RunRefuses G sweep slots tour after slots_after tour_after (Chart e) = TooFew (length slots) e × Still G sweep slots after slots_after × (tour_after ≡ tour)
RunRefuses G sweep slots tour after slots_after tour_after Home = ⊥
RunRefuses G sweep slots tour after slots_after tour_after (Rover e) = ((n : ℕ) × (n < length tour) × Runs G sweep slots tour after slots_after tour_after n)
    × (after.told.home ≡ false) × ((h : Heading) × Barred G after h (Rover e))

-- The rest of this file is about the private table, for the proof.

abbrev pub counted_if : Bool → ℕ → ℕ
counted_if true n = counted n
counted_if false n = n

-- what a step leaves of the sweep besides
pub record Aside {R A : Type 0} (G : Ghosts R A) (sweep after : Sweep R A) : Type 0 where
  pub looked : G.looks after.rover ≡ G.looks sweep.rover
  pub marks : after.marks ≡ sweep.marks
  pub looks : after.told.looks ≡ sweep.told.looks
  pub megacells : after.told.megacells ≡ sweep.told.megacells

-- a look at a heading, made by the rover and counted by the sweep
pub record Looks {R A : Type 0} (G : Ghosts R A) (sweep after : Sweep R A) : Type 0 where
  pub looked : G.looks after.rover ≡ counted (G.looks sweep.rover)
  pub looks : after.told.looks ≡ counted sweep.told.looks
  pub place : G.place after.rover ≡ G.place sweep.rover
  pub driven : G.moves after.rover ≡ G.moves sweep.rover
  pub floor : G.floor after.rover ≡ G.floor sweep.rover
  pub field : G.field after.rover ≡ G.field sweep.rover
  pub start : after.start ≡ sweep.start
  pub marks : after.marks ≡ sweep.marks
  pub moves : after.told.moves ≡ sweep.told.moves
  pub megacells : after.told.megacells ≡ sweep.told.megacells
  pub home : after.told.home ≡ sweep.told.home

-- a megacell becomes old, its parent in this heading
pub record Finds {R A : Type 0} (sweep : Sweep R A) (y : Megacell) (back : Heading) (after : Sweep R A) : Type 0 where
  pub marks : after.marks.table.entries ≡ slice_set sweep.marks.table.entries (number_of y) (Under back)
  pub megacells : after.told.megacells ≡ counted sweep.told.megacells
  pub rover : after.rover ≡ sweep.rover
  pub start : after.start ≡ sweep.start
  pub moves : after.told.moves ≡ sweep.told.moves
  pub looks : after.told.looks ≡ sweep.told.looks
  pub home : after.told.home ≡ sweep.told.home

abbrev pub chosen : {R A : Type 0} → Ghosts R A → Sweep R A → Choice
chosen G sweep = choice sweep.marks.table.entries (G.place sweep.rover)

-- whether the side at the rover's exit is open
abbrev pub opens : {R A : Type 0} → Ghosts R A → Sweep R A → Bool
opens G sweep = G.floor sweep.rover (megacell_of (G.place sweep.rover)) (exit (G.place sweep.rover))

abbrev pub decided_for : {R A : Type 0} → Ghosts R A → Sweep R A → Move
decided_for G sweep = decided (chosen G sweep) (exit (G.place sweep.rover)) (opens G sweep)

abbrev pub found_for : {R A : Type 0} → Ghosts R A → Sweep R A → Option Megacell
found_for G sweep = found (chosen G sweep) (opens G sweep)

-- an advance by the table: its move, its look and the megacell that it found
pub record ByTable {R A : Type 0} (G : Ghosts R A) (sweep after : Sweep R A) (h : Heading) : Type 0 where
  pub heading : h ≡ (decided_for G sweep).heading
  pub looked : G.looks after.rover ≡ counted_if (decided_for G sweep).looked (G.looks sweep.rover)
  pub looks : after.told.looks ≡ counted_if (decided_for G sweep).looked sweep.told.looks
  pub marks : after.marks.table.entries ≡ marked (found_for G sweep) (exit (G.place sweep.rover)) sweep.marks.table.entries
  pub megacells : after.told.megacells ≡ counted_if (is_found (found_for G sweep)) sweep.told.megacells
