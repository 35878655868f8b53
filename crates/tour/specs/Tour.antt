-- The tour that the rules give, and what holds of it on every lawful floor, from every start.
use Rattle.std.specs.Prelude.{◌≡◌, ℕ, zero, suc, ◌+◌, ◌*◌, ◌<◌, ◌≤◌, Bool, true, false, List, [], ◌∷◌, ◌++◌, reverse, length}
use Rattle.board.specs.declared.heading.Heading.{Heading}
use Rattle.board.specs.Squares.{Place}
use Rattle.board.specs.Headings.{letter}
use Rattle.board.specs.Places.{megacell_of}
use Rattle.board.specs.Steps.{step}
use Rattle.board.specs.Counting.{bit}
use Rattle.board.specs.Floors.{Floor, Lawful, Passes}
use Rattle.tour.specs.History.{times, Has, here, old, home, entered, enters, at}
use Rattle.tour.specs.Rules.{Move, Allows, next_move}
use Rattle.tour.specs.Ground.{Ground, Number}

-- the first n moves by the rules (a sweep makes only those until it is home)
unfoldable pub tour : Floor → Place → ℕ → List Heading
tour floor s zero = []
tour floor s (suc n) = tour floor s n ++ ((next_move floor s (entered s (tour floor s n))).heading ∷ [])

-- the letters of some moves
unfoldable pub letters : List Heading → List ℕ
letters [] = []
letters (h ∷ hs) = letter h ∷ letters hs

-- the places that the first n moves enter, the last first
abbrev pub visited : Floor → Place → ℕ → List Place
visited floor s n = entered s (tour floor s n)

-- the move that comes after the first n
abbrev pub move_after : Floor → Place → ℕ → Move
move_after floor s n = next_move floor s (visited floor s n)

-- the looks made for the first n
unfoldable pub tour_looks : Floor → Place → ℕ → ℕ
tour_looks floor s zero = 0
tour_looks floor s (suc n) = tour_looks floor s n + bit (move_after floor s n).looked

-- whether the first n end home
abbrev pub home_after : Floor → Place → ℕ → Bool
home_after floor s n = home s (visited floor s n)

-- none of the first n was made at home
abbrev pub Underway : Floor → Place → ℕ → Type 0
Underway floor s n = (k : ℕ) → k < n → home_after floor s k ≡ false

-- every subcell of the ground was entered
abbrev pub Whole : Floor → Place → ℕ → Type 0
Whole floor s n = (p : Place) → Ground floor s (megacell_of p) → Has (visited floor s n) p

-- What holds after the first n moves, if none was made at home.
pub record Swept (floor : Floor) (s : Place) (n : ℕ) : Type 0 where
  -- no subcell was entered twice
  pub once : (p : Place) → times p (visited floor s n) ≤ 1
  -- every entered subcell's megacell is in the ground
  pub inside : (p : Place) → Has (visited floor s n) p → Ground floor s (megacell_of p)
  -- the moves lead to the last place entered
  pub stands : at s (tour floor s n) ≡ here s (visited floor s n)
  pub order : visited floor s n ≡ reverse (enters s (tour floor s n))
  -- home exactly when every subcell of the ground was entered
  pub whole : home_after floor s n ≡ true → Whole floor s n
  pub ends : Whole floor s n → home_after floor s n ≡ true
  -- home, the rover is at its start, after four moves for each megacell of the ground
  pub back : home_after floor s n ≡ true → here s (visited floor s n) ≡ s
  pub four : home_after floor s n ≡ true → (k : ℕ) × Number (Ground floor s) k × (length (tour floor s n) ≡ 4 * k)
  -- not home, the step that the rules ask for may be made
  pub accepted : home_after floor s n ≡ false → Passes floor (here s (visited floor s n)) (move_after floor s n).heading (step (move_after floor s n).heading (here s (visited floor s n)))
  -- the looks are at most three for each old megacell, and one
  pub few : (k : ℕ) × Number (λ m. old s (visited floor s n) m ≡ true) k × (tour_looks floor s n ≤ 3 * k + 1)

-- the coverage theorem
abbrev pub Covers : Type 0
Covers = (floor : Floor) → Lawful floor → (s : Place) (n : ℕ) → Underway floor s n → Swept floor s n

-- the theorem that every tour comes home, by 4,096 moves
abbrev pub ComesHome : Type 0
ComesHome = (floor : Floor) → Lawful floor → (s : Place) → (n : ℕ) × (n ≤ 4096) × (home_after floor s n ≡ true) × Underway floor s n

-- each of the moves is one that the rules allow after those before it, and none was made at home
pub record ByRules (floor : Floor) (s : Place) (ms : List Heading) : Type 0 where
  pub allowed : (done : List Heading) (h : Heading) (later : List Heading) → ms ≡ done ++ (h ∷ later) → (b : Bool) × Allows floor s (entered s done) (record { heading = h; looked = b })
  pub before : (done : List Heading) (h : Heading) (later : List Heading) → ms ≡ done ++ (h ∷ later) → home s (entered s done) ≡ false

-- the theorem that such moves are the first ones of the tour, so that coverage is theirs
abbrev pub RulesMake : Type 0
RulesMake = (floor : Floor) (s : Place) (ms : List Heading) → ByRules floor s ms → (ms ≡ tour floor s (length ms)) × Underway floor s (length ms)
