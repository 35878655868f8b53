-- What a chart holds. Place (r, c) has slot 64r + c; slots from 4,096 on are not the chart's.
use Rattle.std.specs.Prelude.{◌≡◌, ℕ, ◌<◌, ◌≤◌, List, length, None, Option, slice_index_or}
use Rattle.fault.specs.declared.layer.Layer.TheVariants.{Chart}
use Rattle.fault.specs.declared.refusal.Refusal.{Refusal}
use Rattle.fault.specs.Refusals.{refused}
use Rattle.board.specs.Squares.{Place}
use Rattle.board.specs.Places.{slot_of}
use Rattle.chart.specs.declared.faults.ChartFault.{ChartFault}
use Rattle.chart.specs.declared.faults.ChartFault.TheVariants.{Short}

-- what a slot holds: a reading, or nothing yet
abbrev pub Slot : Type 0 → Type 0
Slot A = Option A

-- what a chart holds for a place
abbrev pub slot_at : {A : Type 0} → List (Slot A) → Place → Slot A
slot_at slots p = slice_index_or slots (slot_of p) None

-- the chart is there and empty: the first 4,096 slots
pub record Blank {A : Type 0} (slots : List (Slot A)) : Type 0 where
  pub room : 4096 ≤ length slots
  pub clear : (i : ℕ) → i < 4096 → slice_index_or slots i None ≡ None

-- the slots from 4,096 on are the same
abbrev pub SameBeyond : {A : Type 0} → List (Slot A) → List (Slot A) → Type 0
SameBeyond before after = (i : ℕ) → 4096 ≤ i → slice_index_or after i None ≡ slice_index_or before i None

-- what a refusal of a chart tells: how many slots there are
abbrev pub told : ChartFault → Refusal
told (Short slots) = refused 13 Chart slots

-- so many slots are too few for a chart, and this is the refusal
abbrev pub TooFew : ℕ → ChartFault → Type 0
TooFew slots e = (slots < 4096) × (e ≡ Short slots) × (told e ≡ refused 13 Chart slots)
