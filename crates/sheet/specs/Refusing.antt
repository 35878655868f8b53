-- What is refused to be laid out: first a tour with a byte that is no letter, and then a buffer that is too short.
use Rattle.std.specs.Prelude.{◌≡◌, ℕ, Bool, cond, not, ◌||◌, List, length, Some, None, Ok, Err, Option, Result, ◌==◌, nat_lt, slice_index}
use Rattle.firsts.specs.First.{first}
use Rattle.fault.specs.declared.layer.Layer.TheVariants.{Sheet}
use Rattle.fault.specs.declared.refusal.Refusal.{Refusal}
use Rattle.fault.specs.Refusals.{refused}
use Rattle.sheet.specs.declared.faults.SheetFault.{SheetFault}
use Rattle.sheet.specs.declared.faults.SheetFault.TheVariants.{NoLetter, Short}
use Rattle.sheet.specs.Writing.{written}

-- what a refusal of the sheet tells
abbrev pub told : SheetFault → Refusal
told (NoLetter offset) = refused 16 Sheet offset
told (Short needed) = refused 17 Sheet needed

-- N, E, S, W
abbrev pub is_letter : ℕ → Bool
is_letter b = b == 78 || (b == 69 || (b == 83 || b == 87))

abbrev pub no_letter : List ℕ → ℕ → Bool
no_letter tour i = not (is_letter (slice_index tour i))

-- the refusal of a text for want of room
abbrev pub short_for : ℕ → List ℕ → Option SheetFault
short_for room text = cond (nat_lt room (length text)) (Some (Short (length text))) None

abbrev pub letter_or : Option ℕ → Option SheetFault → Option SheetFault
letter_or (Some offset) other = Some (NoLetter offset)
letter_or None other = other

-- the refusal of a tour, and then of its sheet's text
abbrev pub sheet_fault : ℕ → List ℕ → List ℕ → Option SheetFault
sheet_fault room tour text = letter_or (first (no_letter tour) (length tour)) (short_for room text)

-- What laying a text out answers and leaves: where nothing is refused its length, with the text at the front of the
-- buffer and the bytes behind it kept; else the refusal, with every byte kept.
abbrev pub LaidOut : Option SheetFault → List ℕ → List ℕ → List ℕ → Result ℕ SheetFault → Type 0
LaidOut fault text before after (Ok n) = (fault ≡ None) × (n ≡ length text) × (after ≡ written before text)
LaidOut fault text before after (Err e) = (fault ≡ Some e) × (after ≡ before)
