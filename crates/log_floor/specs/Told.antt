-- The floor and the field that a log tells of, given the record of each megacell that has one.
use Rattle.std.specs.Prelude.{ℕ, Bool, false, ◌&&◌, List, Some, None, Option}
use Rattle.board.specs.declared.corner.Corner.{Corner}
use Rattle.board.specs.declared.heading.Heading.{Heading}
use Rattle.board.specs.Squares.{Megacell, Place}
use Rattle.board.specs.Corners.{corner_of}
use Rattle.board.specs.Floors.{Floor}
use Rattle.board.specs.Headings.{opposite}
use Rattle.board.specs.Places.{megacell_of}
use Rattle.board.specs.Steps.{beside}
use Rattle.log_record.specs.declared.record.Record.{Record}
use Rattle.log_record.specs.Tells.{opens, count_at}
use Rattle.log_format.specs.Log.{record_of}

-- a megacell's record, if there is one, tells the side at a heading open
abbrev pub told_open : Option Record → Heading → Bool
told_open (Some r) h = opens r h
told_open None h = false

-- the neighbour at a heading, if there is one, tells the side between them open
abbrev pub told_beside : (Megacell → Option Record) → Option Megacell → Heading → Bool
told_beside told (Some n) h = told_open (told n) (opposite h)
told_beside told None h = false

-- a side is open if the records on both sides of it say so; where one is missing, or says otherwise, it is closed
unfoldable pub floor_of : (Megacell → Option Record) → Floor
floor_of told m h = told_open (told m) h && told_beside told (beside m h) h

abbrev pub count_or0 : Option Record → Corner → ℕ
count_or0 (Some r) k = count_at r k
count_or0 None k = 0

-- the reading at a place is the count of its subcell, in quarters of a lux; 0 where no record tells of its megacell
unfoldable pub field_of : (Megacell → Option Record) → Place → ℕ
field_of told p = count_or0 (told (megacell_of p)) (corner_of p)

-- the floor and the field of a log, as functions of its bytes
abbrev pub floor_of_log : List ℕ → Floor
floor_of_log b = floor_of (record_of b)

abbrev pub field_of_log : List ℕ → Place → ℕ
field_of_log b = field_of (record_of b)
