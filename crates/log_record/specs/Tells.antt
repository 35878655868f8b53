-- What a record tells.
use Rattle.std.specs.Prelude.{ℕ, ◌/◌, ◌%◌, ◌^◌, Bool, ◌==◌}
use Rattle.board.specs.declared.heading.Heading.{Heading}
use Rattle.board.specs.declared.corner.Corner.{Corner}
use Rattle.board.specs.declared.corner.Corner.TheVariants.{NorthWest, NorthEast, SouthEast, SouthWest}
use Rattle.board.specs.Headings.{heading_number}
use Rattle.log_record.specs.declared.record.Record.{Record}

-- the side at a heading is told open: its bit is set in the sides, bit 0 for north up to bit 3 for west
unfoldable pub opens : Record → Heading → Bool
opens r h = r.sides / 2 ^ heading_number h % 2 == 1

-- the count of a subcell
unfoldable pub count_at : Record → Corner → ℕ
count_at r NorthWest = r.north_west
count_at r NorthEast = r.north_east
count_at r SouthEast = r.south_east
count_at r SouthWest = r.south_west
