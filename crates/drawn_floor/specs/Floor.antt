-- The floor and the field of a drawing.
use Rattle.std.specs.Prelude.{Bool, true, false, ◌&&◌, Some, None, Option}
use Rattle.board.specs.Squares.{Megacell, Place}
use Rattle.board.specs.Floors.{Floor}
use Rattle.board.specs.Places.{megacell_of}
use Rattle.board.specs.Steps.{beside}
use Rattle.map_format.specs.declared.cell.Cell.{Cell}
use Rattle.map_format.specs.declared.cell.Cell.TheVariants.{Blocked, Free, Lamp}
use Rattle.map_format.specs.declared.drawing.Drawing.{Drawing}
use Rattle.map_format.specs.Cells.{cell_at}
use Rattle.drawn_floor.specs.declared.light.Light.{Light}
use Rattle.drawn_floor.specs.Lights.{light_of}

abbrev pub free : Cell → Bool
free Blocked = false
free Free = true
free (Lamp digit) = true

-- a megacell is free; outside the map the drawing has it blocked
abbrev pub free_at : Drawing → Megacell → Bool
free_at d m = free (cell_at d m)

-- there is a megacell, and it is free
abbrev pub there_free : Drawing → Option Megacell → Bool
there_free d None = false
there_free d (Some m) = free_at d m

-- a side is open between two free megacells, and closed elsewhere
unfoldable pub floor_of : Drawing → Floor
floor_of d m h = free_at d m && there_free d (beside m h)

-- all four subcells of a megacell read what stands over it
unfoldable pub field_of : Drawing → Place → Light
field_of d p = light_of (cell_at d (megacell_of p))
