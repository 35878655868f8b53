-- The private table of marks that a sweep keeps, and what it does by it. None of this is needed to read the promise.
use Rattle.std.specs.Prelude.{◌≡◌, Bool, true, false, cond, List, Some, None, Option, slice_index_or, slice_set}
use Rattle.board.specs.declared.heading.Heading.{Heading}
use Rattle.board.specs.Squares.{Megacell, Place, number_of}
use Rattle.board.specs.Headings.{left, opposite, same_heading}
use Rattle.board.specs.Places.{megacell_of}
use Rattle.board.specs.Corners.{exit}
use Rattle.board.specs.Steps.{beside}
use Rattle.tour.specs.History.{old, parent}
use Rattle.tour.specs.Rules.{Move}
use Rattle.sweep.specs.declared.mark.Mark.{Mark}
use Rattle.sweep.specs.declared.mark.Mark.TheVariants.{New, Root, Under}
use Rattle.sweep.specs.declared.choice.Choice.{Choice}
use Rattle.sweep.specs.declared.choice.Choice.TheVariants.{Cross, Turn, Look}

-- the mark of a megacell
abbrev pub mark_at : List Mark → Megacell → Mark
mark_at marks m = slice_index_or marks (number_of m) New

-- what a mark says of a megacell, over the start and the places entered: it is new; or it is old without a parent; or it is old and its parent, old too, lies in this heading
abbrev pub Says : Place → List Place → Megacell → Mark → Type 0
Says s ps m New = old s ps m ≡ false
Says s ps m Root = (old s ps m ≡ true) × (parent s ps m ≡ None)
Says s ps m (Under k) = (old s ps m ≡ true) × ((z : Megacell) × (parent s ps m ≡ Some z) × (beside m k ≡ Some z) × (old s ps z ≡ true))

-- whether the parent lies in this heading
abbrev pub leads : Mark → Heading → Bool
leads New e = false
leads Root e = false
leads (Under k) e = same_heading e k

abbrev pub look_if_new : Mark → Megacell → Choice
look_if_new New y = Look y
look_if_new Root y = Turn
look_if_new (Under k) y = Turn

abbrev pub choice_by : List Mark → Megacell → Heading → Option Megacell → Choice
choice_by marks x e None = Turn
choice_by marks x e (Some y) = cond (leads (mark_at marks x) e) Cross (look_if_new (mark_at marks y) y)

-- what to do at a place, before any look
abbrev pub choice : List Mark → Place → Choice
choice marks p = choice_by marks (megacell_of p) (exit p) (beside (megacell_of p) (exit p))

-- the move that follows, by the exit and whether its side is open
abbrev pub decided : Choice → Heading → Bool → Move
decided Cross e f = record { heading = e; looked = false }
decided Turn e f = record { heading = left e; looked = false }
decided (Look y) e true = record { heading = e; looked = true }
decided (Look y) e false = record { heading = left e; looked = true }

-- the megacell that becomes old
abbrev pub found : Choice → Bool → Option Megacell
found Cross f = None
found Turn f = None
found (Look y) true = Some y
found (Look y) false = None

abbrev pub is_found : Option Megacell → Bool
is_found None = false
is_found (Some y) = true

-- it is marked with the heading back
abbrev pub marked : Option Megacell → Heading → List Mark → List Mark
marked None e marks = marks
marked (Some y) e marks = slice_set marks (number_of y) (Under (opposite e))
