-- What a list of calls asks for, and what it leaves where all its letters go into one buffer.
use Rattle.std.specs.Prelude.{◌≡◌, ℕ, ◌+◌, ◌<◌, ◌≤◌, min, List, length}
use Rattle.std.specs.List.{sum_by}
use Rattle.rover.specs.declared.meaning.Rover.{Ghosts}
use Rattle.chart.specs.Charts.{Slot, SameBeyond}
use Rattle.sweep.specs.declared.call.Call.{Call}
use Rattle.sweep.specs.declared.call.Call.TheVariants.{Advance, Run, Ask}
use Rattle.sweep.specs.declared.sweep.Sweep.{Sweep}
use Rattle.sweep.specs.Promise.{Letters, SameFrom, Filled}
use Rattle.sweep.specs.Journey.{Journey, Charts}

-- the moves that a call asks for: one for an advance, as many as its buffer has bytes for a run, none for the questions
abbrev pub wants : Call → ℕ
wants Advance = 1
wants (Run n) = n
wants Ask = 0

-- the moves that a list of calls asks for in all
abbrev pub wants_all : List Call → ℕ
wants_all cs = sum_by wants cs

-- the same where all letters go into one buffer of so many bytes: a move that no byte is left for is not asked for.
-- No tour has more than 4,096 moves, so that in a buffer of as many bytes every call is made as it stands
abbrev pub asking : List Call → ℕ → ℕ
asking cs bytes = min bytes (wants_all cs)

-- The rest of this file is for the proof: what one call does.

-- what moves do to every journey: so many were asked for, and so many made, whose letters stand first in the buffer
pub record Told {R A : Type 0} (G : Ghosts R A) (sweep after : Sweep R A) (slots slots_after : List (Slot A)) (bytes_after : List ℕ) (wanted made : ℕ) (origin : R) (asked : ℕ) : Type 0 where
  pub journey : Journey G origin (asked + wanted) after
  pub moves : after.told.moves ≡ sweep.told.moves + made
  pub writes : Letters (G.floor origin) (G.place origin) sweep.told.moves made bytes_after
  pub fills : Filled (G.floor origin) (G.field origin) (G.place origin) sweep.told.moves after.told.moves slots slots_after

-- what a call that wants so many moves makes, where it has these bytes for its letters
pub record Makes {R A : Type 0} (G : Ghosts R A) (sweep : Sweep R A) (slots : List (Slot A)) (bytes : List ℕ) (after : Sweep R A) (slots_after : List (Slot A)) (bytes_after : List ℕ) (made wanted : ℕ) : Type 0 where
  pub fits : made ≤ length bytes
  pub beyond : SameBeyond slots slots_after
  pub law : (origin : R) (asked : ℕ) → 4096 ≤ length slots → Journey G origin asked sweep → Told G sweep after slots slots_after bytes_after (min wanted (length bytes)) made origin asked
  pub rest : (origin : R) (asked : ℕ) → 4096 ≤ length slots → Journey G origin asked sweep → SameFrom made bytes bytes_after
  pub chart : (origin : R) (asked : ℕ) → Journey G origin asked sweep → Charts G origin sweep slots → Charts G origin after slots_after
  pub short : length slots < 4096 → (made ≡ 0) × (slots_after ≡ slots) × (bytes_after ≡ bytes) × ((origin : R) (asked : ℕ) → Journey G origin asked sweep → Journey G origin asked after)
