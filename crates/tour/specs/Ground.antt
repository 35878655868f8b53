-- The ground, and how many megacells there are.
use Rattle.std.specs.Prelude.{◌≡◌, ℕ, ◌≤◌, Bool, true, List, length, Some}
use Rattle.board.specs.declared.heading.Heading.{Heading}
use Rattle.board.specs.Squares.{Megacell, Place, same_square}
use Rattle.board.specs.Places.{megacell_of}
use Rattle.board.specs.Steps.{beside}
use Rattle.board.specs.Counting.{many}
use Rattle.board.specs.Floors.{Floor}

-- the ground of a start: its own megacell, and with each megacell those behind its open sides
pub data Ground (floor : Floor) (s : Place) : Megacell → Type 0 where
  begin : Ground floor s (megacell_of s)
  across : (m n : Megacell) (h : Heading) → Ground floor s m → floor m h ≡ true → beside m h ≡ Some n → Ground floor s n

-- how often a megacell stands in a list
abbrev pub listed : Megacell → List Megacell → ℕ
listed m ms = many (same_square m) ms

-- k megacells have the property P: they stand in a list of that length, each once, and no other stands there
pub record Number (P : Megacell → Type 0) (k : ℕ) : Type 0 where
  pub list : List Megacell
  pub size : length list ≡ k
  pub once : (m : Megacell) → listed m list ≤ 1
  pub only : (m : Megacell) → 1 ≤ listed m list → P m
  pub each : (m : Megacell) → P m → 1 ≤ listed m list

-- the theorem: there is one such number and no other, of the ground and of the megacells that pass a test
pub record OneNumber : Type 0 where
  pub ground : (floor : Floor) (s : Place) (j k : ℕ) → Number (Ground floor s) j → Number (Ground floor s) k → j ≡ k
  pub tested : (test : Megacell → Bool) (j k : ℕ) → Number (λ m. test m ≡ true) j → Number (λ m. test m ≡ true) k → j ≡ k
