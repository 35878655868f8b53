-- The answer to a map: its refusals, their order, and the drawing of an accepted one.
use Rattle.std.specs.Prelude.{ℕ, ◌+◌, ◌/◌, ◌%◌, cond, ◌&&◌, List, length, Some, None, Ok, Err, Option, Result, nat_le, nat_lt}
use Rattle.firsts.specs.First.{first}
use Rattle.map_format.specs.declared.drawing.Drawing.{Drawing}
use Rattle.map_format.specs.declared.faults.MapFault.{MapFault}
use Rattle.map_format.specs.declared.faults.MapFault.TheVariants.{Length, ForbiddenByte, BadRow, ExtraRow, NoStart, SecondStart}
use Rattle.map_format.specs.Bytes.{forbidden, first_from}
use Rattle.map_format.specs.Rows.{or_at, width, row_at, bad_row}
use Rattle.map_format.specs.Cells.{cells_of, megacell_at}

abbrev pub mapped : (ℕ → MapFault) → Option ℕ → Option MapFault
mapped f (Some k) = Some (f k)
mapped f None = None

-- the one, or if it is none the other
infixr 20 ◌or_if◌
abbrev pub ◌or_if◌ : Option MapFault → Option MapFault → Option MapFault
◌or_if◌ (Some fault) other = Some fault
◌or_if◌ None other = other

abbrev pub length_fault : List ℕ → Option MapFault
length_fault m = cond (nat_le 1 (length m) && nat_le (length m) 1056) None (Some (Length (length m)))

abbrev pub byte_fault : List ℕ → Option MapFault
byte_fault m = mapped ForbiddenByte (first (forbidden m) (length m))

abbrev pub row_fault : List ℕ → Option MapFault
row_fault m = mapped (λ k. BadRow (row_at m k)) (first (bad_row m) (length m))

-- a row after rows 0 to 31
abbrev pub extra_fault : List ℕ → Option MapFault
extra_fault m = cond (nat_lt (row_at m 32) (length m)) (Some (ExtraRow (row_at m 32))) None

-- the first S
abbrev pub first_start : List ℕ → Option ℕ
first_start m = first_from m 83 0

abbrev pub start_fault : List ℕ → Option ℕ → Option MapFault
start_fault m None = Some (NoStart (length m))
start_fault m (Some s) = mapped SecondStart (first_from m 83 (s + 1))

-- the first of the refusals, in checking order
abbrev pub refusal : List ℕ → Option MapFault
refusal m = length_fault m or_if byte_fault m or_if row_fault m or_if extra_fault m or_if start_fault m (first_start m)

-- what an accepted map draws whose S stands at offset s
abbrev pub drawn : List ℕ → ℕ → Drawing
drawn m s = record { cells = record { entries = cells_of m (width m) }; start = megacell_at (s / (width m + 1)) (s % (width m + 1)) }

abbrev pub answered : List ℕ → Option MapFault → Result Drawing MapFault
answered m (Some fault) = Err fault
answered m None = Ok (drawn m (or_at (first_start m) 0))

-- the answer to a map
abbrev pub answer : List ℕ → Result Drawing MapFault
answer m = answered m (refusal m)
