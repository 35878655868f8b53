-- What a survey answers and leaves.
use Rattle.std.specs.Prelude.{◌≡◌, ℕ, ◌<◌, ◌≤◌, true, List, ◌++◌, length, drop, Ok, Err, Result, None, Some}
use Rattle.fault.specs.declared.layer.Layer.TheVariants.{Sheet as SheetLayer}
use Rattle.fault.specs.Refusals.{refused}
use Rattle.board.specs.Squares.{Place}
use Rattle.board.specs.Floors.{Floor}
use Rattle.board.specs.Places.{megacell_of}
use Rattle.chart.specs.Charts.{Slot, slot_at, SameBeyond, TooFew}
use Rattle.tour.specs.Ground.{Ground}
use Rattle.tour.specs.Tour.{tour, letters, home_after}
use Rattle.sweep.specs.Promise.{OnChart}
use Rattle.sheet.specs.declared.faults.SheetFault.TheVariants.{Short}
use Rattle.sheet.specs.Writing.{written}
use Rattle.survey.specs.declared.faults.SurveyFault.{SurveyFault}
use Rattle.survey.specs.declared.faults.SurveyFault.TheVariants.{Frame, Map, Log, Chart, Rover, Sweep, Sheet}
use Rattle.survey.specs.Course.{moves_in, sheet_after}
use Rattle.survey.specs.Faults.{told}

-- What one run over an emptied chart leaves: in the chart the field's reading at each place entered and nothing else, in the
-- tour buffer the letters of the moves; slots and bytes behind them are as they were.
pub record Driven {A : Type 0} (floor : Floor) (field : Place → A) (s : Place) (n : ℕ) (slots : List (Slot A)) (bytes : List ℕ) (slots_after : List (Slot A)) (bytes_after : List ℕ) : Type 0 where
  pub chart : OnChart floor field s n slots_after
  pub beyond : SameBeyond slots slots_after
  pub tour : bytes_after ≡ letters (tour floor s n) ++ drop n bytes
  -- and where the run ended home, the chart has each subcell of the ground and nothing else
  pub ground : home_after floor s n ≡ true → (p : Place) → Ground floor s (megacell_of p) → slot_at slots_after p ≡ Some (field p)
  pub elsewhere : (p : Place) → (Ground floor s (megacell_of p) → ⊥) → slot_at slots_after p ≡ None

-- the three buffers that a survey is lent
pub record Lent (A : Type 0) : Type 0 where
  pub slots : List (Slot A)
  pub bytes : List ℕ
  pub text : List ℕ

abbrev pub lent : {A : Type 0} → List (Slot A) → List ℕ → List ℕ → Lent A
lent slots bytes text = record { slots = slots; bytes = bytes; text = text }

-- A survey from s on this floor: refused with 13 where the slots are too few, and then nothing is altered; else driven,
-- with the sheet written at the front of its buffer, or refused with 17 where that is too short.
abbrev pub Surveys : {A : Type 0} → Floor → (Place → A) → Place → Lent A → Lent A → Result ℕ SurveyFault → Type 0
Surveys floor field s before after (Ok length') =
    (4096 ≤ length before.slots)
    × Driven floor field s (moves_in floor s (length before.bytes)) before.slots before.bytes after.slots after.bytes
    × (length (sheet_after floor s (moves_in floor s (length before.bytes))) ≤ length before.text)
    × (length' ≡ length (sheet_after floor s (moves_in floor s (length before.bytes))))
    × (after.text ≡ written before.text (sheet_after floor s (moves_in floor s (length before.bytes))))
Surveys floor field s before after (Err (Chart e)) = TooFew (length before.slots) e × (after ≡ before)
Surveys floor field s before after (Err (Sheet e)) =
    (4096 ≤ length before.slots)
    × Driven floor field s (moves_in floor s (length before.bytes)) before.slots before.bytes after.slots after.bytes
    × (length before.text < length (sheet_after floor s (moves_in floor s (length before.bytes))))
    × (e ≡ Short (length (sheet_after floor s (moves_in floor s (length before.bytes)))))
    × (told (Sheet e) ≡ refused 17 SheetLayer (length (sheet_after floor s (moves_in floor s (length before.bytes)))))
    × (after.text ≡ before.text)
Surveys floor field s before after (Err (Frame e)) = ⊥
Surveys floor field s before after (Err (Map e)) = ⊥
Surveys floor field s before after (Err (Log e)) = ⊥
Surveys floor field s before after (Err (Rover e)) = ⊥
Surveys floor field s before after (Err (Sweep e)) = ⊥
