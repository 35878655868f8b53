-- A floor and a field, seen through a frame. They are given by the frame's inverse.
use Rattle.board.specs.declared.heading.Heading.{Heading}
use Rattle.board.specs.declared.heading.Heading.TheVariants.{North}
use Rattle.board.specs.Squares.{Megacell, Place}
use Rattle.board.specs.Places.{megacell_of}
use Rattle.board.specs.Corners.{subcell}
use Rattle.board.specs.Floors.{Floor}

-- the megacell below: that of any of its subcells, since a frame keeps the subcells of a megacell together
unfoldable pub megacell_below : (Place → Place) → Megacell → Megacell
megacell_below returned m = megacell_of (returned (subcell m North))

-- a side is open where the side below is
abbrev pub seen_floor : (Place → Place) → (Heading → Heading) → Floor → Floor
seen_floor returned restored floor m h = floor (megacell_below returned m) (restored h)

-- the reading at a place is that at the place below
abbrev pub seen_field : {A : Type 0} → (Place → Place) → (Place → A) → Place → A
seen_field returned field p = field (returned p)
