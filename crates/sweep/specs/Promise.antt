-- What a sweep promises, over its history: it began at the place s on this floor, and made the first n moves of the tour that the rules give from there.
use Rattle.std.specs.Prelude.{◌≡◌, ℕ, ◌+◌, ◌*◌, ◌<◌, ◌≤◌, min, Bool, true, List, [], ◌∷◌, ◌++◌, length, slice_index, slice_set, None, Some}
use Rattle.board.specs.declared.heading.Heading.{Heading}
use Rattle.board.specs.Squares.{Place}
use Rattle.board.specs.Headings.{letter}
use Rattle.board.specs.Places.{megacell_of, slot_of}
use Rattle.board.specs.Floors.{Floor}
use Rattle.tour.specs.History.{times, Has, here, old}
use Rattle.tour.specs.Ground.{Ground, Number}
use Rattle.tour.specs.Tour.{visited, move_after, tour_looks, Whole}
use Rattle.chart.specs.Charts.{Slot, slot_at}

-- The calls so far asked for so many moves in all: an advance for one, a run for as many as its buffer has bytes.
-- The rover stands at `place`; the sweep tells n moves, so many looks and megacells, and whether it is home.
pub record Promise (floor : Floor) (s : Place) (asked : ℕ) (place : Place) (n looked olds : ℕ) (is_home : Bool) : Type 0 where
  -- once: no subcell was entered twice, and the megacell of every entered one is in the ground
  pub once : (p : Place) → times p (visited floor s n) ≤ 1
  pub inside : (p : Place) → Has (visited floor s n) p → Ground floor s (megacell_of p)
  -- standing: the rover is at the last place entered, or at the start before any
  pub standing : place ≡ here s (visited floor s n)
  -- home: exactly when every subcell of the ground was entered
  pub whole : is_home ≡ true → Whole floor s n
  pub ends : Whole floor s n → is_home ≡ true
  -- returned: then the rover is at its start, after four moves for each megacell of the ground
  pub back : is_home ≡ true → place ≡ s
  pub four : is_home ≡ true → (k : ℕ) → Number (Ground floor s) k → n ≡ 4 * k
  -- by the rules, and lively: as many moves of the tour were made as were asked for, until home; the looks are the tour's
  pub made : (k : ℕ) → Number (Ground floor s) k → n ≡ min asked (4 * k)
  pub ground : (k : ℕ) × Number (Ground floor s) k
  pub looks : looked ≡ tour_looks floor s n
  -- the megacells told are the old ones: the start's and those with an entered subcell
  pub cells : Number (λ m. old s (visited floor s n) m ≡ true) olds
  -- few looks
  pub few : looked ≤ 3 * olds + 1

-- charted: the slot of each entered place holds the field's reading there, and every other slot of the chart is empty
pub record OnChart {A : Type 0} (floor : Floor) (field : Place → A) (s : Place) (n : ℕ) (slots : List (Slot A)) : Type 0 where
  pub room : 4096 ≤ length slots
  pub charted : (p : Place) → Has (visited floor s n) p → slot_at slots p ≡ Some (field p)
  pub blank : (p : Place) → times p (visited floor s n) ≡ 0 → slot_at slots p ≡ None

-- the slots after some places were entered, the last of them first: each got its reading, and no other slot was written
unfoldable pub filled : {A : Type 0} → (Place → A) → List Place → List (Slot A) → List (Slot A)
filled field [] slots = slots
filled field (p ∷ ps) slots = slice_set (filled field ps slots) (slot_of p) (Some (field p))

-- what the moves from the first n on, up to the first m, did to the slots, whatever these held
pub record Filled {A : Type 0} (floor : Floor) (field : Place → A) (s : Place) (n m : ℕ) (slots after : List (Slot A)) : Type 0 where
  pub places : List Place
  pub enters : visited floor s m ≡ places ++ visited floor s n
  pub fills : after ≡ filled field places slots

-- the move that comes after the first n: its heading, and the place that it enters
pub record NextMove (floor : Floor) (s : Place) (n : ℕ) (h : Heading) (q : Place) : Type 0 where
  pub heading : h ≡ (move_after floor s n).heading
  pub place : q ≡ here s (visited floor s (n + 1))

-- the first bytes of a buffer are the letters of so many moves of the tour, those after the first n
abbrev pub Letters : Floor → Place → ℕ → ℕ → List ℕ → Type 0
Letters floor s n count bytes = (i : ℕ) → i < count → slice_index bytes i ≡ letter (move_after floor s (n + i)).heading

-- a buffer is the same from a byte on
abbrev pub SameFrom : ℕ → List ℕ → List ℕ → Type 0
SameFrom from before after = (i : ℕ) → from ≤ i → slice_index after i ≡ slice_index before i
