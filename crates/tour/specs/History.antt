-- What a rover did so far, its history: the place `s` where it began, and the places `ps` that its moves entered, the last of them first.
use Rattle.std.specs.Prelude.{ℕ, ◌≤◌, Bool, false, cond, ◌||◌, List, [], ◌∷◌, Some, None, Option}
use Rattle.board.specs.declared.heading.Heading.{Heading}
use Rattle.board.specs.Squares.{Megacell, Place, same_square}
use Rattle.board.specs.Places.{megacell_of}
use Rattle.board.specs.Steps.{step}
use Rattle.board.specs.Counting.{many}

-- how often a place was entered
abbrev pub times : Place → List Place → ℕ
times p ps = many (same_square p) ps

-- a place was entered
abbrev pub Has : List Place → Place → Type 0
Has ps p = 1 ≤ times p ps

-- where the rover stands: the last place entered, or the start before any
unfoldable pub here : Place → List Place → Place
here s [] = s
here s (p ∷ ps) = p

-- a megacell is old if it is the start's or has an entered place; every other is new
unfoldable pub old : Place → List Place → Megacell → Bool
old s [] m = same_square (megacell_of s) m
old s (p ∷ ps) m = same_square (megacell_of p) m || old s ps m

-- the parent of a megacell: the one that the rover left by the move that first entered it; the start's megacell has none
unfoldable pub parent : Place → List Place → Megacell → Option Megacell
parent s [] m = None
parent s (p ∷ ps) m = cond (old s ps m) (parent s ps m) (cond (same_square (megacell_of p) m) (Some (megacell_of (here s ps))) None)

-- home: the last move entered the start
unfoldable pub home : Place → List Place → Bool
home s [] = false
home s (p ∷ ps) = same_square p s

-- Moves are headings, first to last. Each enters the next place at its heading.

-- the history `ps`, and then some moves more
unfoldable pub walk : Place → List Place → List Heading → List Place
walk s ps [] = ps
walk s ps (h ∷ hs) = walk s (step h (here s ps) ∷ ps) hs

-- the places that the moves enter from the start, the last first
unfoldable pub entered : Place → List Heading → List Place
entered s ms = walk s [] ms

-- the same places in the order in which they are entered
unfoldable pub enters : Place → List Heading → List Place
enters s [] = []
enters s (h ∷ hs) = step h s ∷ enters (step h s) hs

-- the place that the moves lead to
unfoldable pub at : Place → List Heading → Place
at s [] = s
at s (h ∷ hs) = at (step h s) hs
