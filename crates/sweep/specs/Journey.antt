-- A sweep from its start on: the law that every call keeps.
use Rattle.std.specs.Prelude.{◌≡◌, ℕ, zero, suc, ◌+◌, ◌≤◌, Bool, false, List, take}
use Rattle.rover.specs.declared.meaning.Rover.{Ghosts}
use Rattle.rover.specs.Drive.{counted}
use Rattle.board.specs.Squares.{Megacell, Place}
use Rattle.board.specs.Floors.{Floor}
use Rattle.tour.specs.Tour.{tour, letters, visited, home_after, Underway}
use Rattle.chart.specs.Charts.{Slot}
use Rattle.sweep.specs.declared.mark.Mark.{Mark}
use Rattle.sweep.specs.declared.sweep.Sweep.{Sweep}
use Rattle.sweep.specs.declared.sweep.Record.{Record}
use Rattle.sweep.specs.Table.{mark_at, Says}
use Rattle.sweep.specs.Promise.{Promise, OnChart}

-- counted n times
unfoldable pub counted_by : ℕ → ℕ → ℕ
counted_by zero count = count
counted_by (suc n) count = counted (counted_by n count)

-- honest counts: a counter of the rover was counted up as often as the sweep tells; if it began at 4,000,000,000 or less, it gained just that
pub record Counts (began ends told : ℕ) : Type 0 where
  pub exact : ends ≡ counted_by told began
  pub gained : began ≤ 4000000000 → ends ≡ began + told

-- what is kept besides, for the proof: the sweep's private fields, and how the calls so far went
pub record Workings (floor : Floor) (s : Place) (asked n : ℕ) (is_home : Bool) (start : Place) (marks : List Mark) : Type 0 where
  pub begun : start ≡ s
  pub tells : (m : Megacell) → Says s (visited floor s n) m (mark_at marks m)
  pub homed : is_home ≡ home_after floor s n
  pub underway : Underway floor s n
  pub due : is_home ≡ false → n ≡ asked
  pub most : n ≤ asked

-- The sweep was started with the rover as it was in `origin`, and the calls so far asked for so many moves.
pub record Journey {R A : Type 0} (G : Ghosts R A) (origin : R) (asked : ℕ) (sweep : Sweep R A) : Type 0 where
  pub promise : Promise (G.floor origin) (G.place origin) asked (G.place sweep.rover) sweep.told.moves sweep.told.looks sweep.told.megacells sweep.told.home
  pub moves : Counts (G.moves origin) (G.moves sweep.rover) sweep.told.moves
  pub looks : Counts (G.looks origin) (G.looks sweep.rover) sweep.told.looks
  -- the rover has its floor and its field still
  pub floor : G.floor sweep.rover ≡ G.floor origin
  pub field : G.field sweep.rover ≡ G.field origin
  pub workings : Workings (G.floor origin) (G.place origin) asked sweep.told.moves sweep.told.home sweep.start sweep.marks.table.entries

-- the chart has what the sweep's moves put into it
abbrev pub Charts : {R A : Type 0} → Ghosts R A → R → Sweep R A → List (Slot A) → Type 0
Charts G origin sweep slots = OnChart (G.floor origin) (G.field origin) (G.place origin) sweep.told.moves slots

-- the promise when the sweep has ended, over the rover given back and the record
pub record Ended {R A : Type 0} (G : Ghosts R A) (origin : R) (asked : ℕ) (rover : R) (told : Record) : Type 0 where
  pub promise : Promise (G.floor origin) (G.place origin) asked (G.place rover) told.moves told.looks told.megacells told.home
  pub moves : Counts (G.moves origin) (G.moves rover) told.moves
  pub looks : Counts (G.looks origin) (G.looks rover) told.looks
  pub floor : G.floor rover ≡ G.floor origin
  pub field : G.field rover ≡ G.field origin

-- the letters in a buffer from byte 0 on are those of the sweep's moves, which are the tour's, in order
abbrev pub Wrote : {R A : Type 0} → Ghosts R A → R → Sweep R A → List ℕ → Type 0
Wrote G origin sweep bytes = take sweep.told.moves bytes ≡ letters (tour (G.floor origin) (G.place origin) sweep.told.moves)

-- the whole promise: of a sweep, of the chart on which all its calls were made, and of the buffer in which all its letters stand
pub record Story {R A : Type 0} (G : Ghosts R A) (origin : R) (asked : ℕ) (sweep : Sweep R A) (slots : List (Slot A)) (bytes : List ℕ) : Type 0 where
  pub journey : Journey G origin asked sweep
  pub chart : Charts G origin sweep slots
  pub wrote : Wrote G origin sweep bytes
