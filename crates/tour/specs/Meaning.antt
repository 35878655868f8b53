-- `old` and `parent`, which are computed along a history, are what the two words say.
use Rattle.std.specs.Prelude.{◌≡◌, true, false, ◌⊎◌, List, ◌∷◌, ◌++◌, Some}
use Rattle.board.specs.Squares.{Megacell, Place}
use Rattle.board.specs.Places.{megacell_of}
use Rattle.tour.specs.History.{Has, here, old, parent}

-- a megacell is the start's, or a place of it was entered
abbrev pub BegunOrEntered : Place → List Place → Megacell → Type 0
BegunOrEntered s ps m = (megacell_of s ≡ m) ⊎ ((p : Place) × Has ps p × (megacell_of p ≡ m))

-- some move of the history was the first to enter the megacell m, and it left the megacell z
pub record FirstEntry (s : Place) (ps : List Place) (m z : Megacell) : Type 0 where
  pub later : List Place
  pub place : Place
  pub before : List Place
  pub split : ps ≡ later ++ (place ∷ before)
  pub into : megacell_of place ≡ m
  pub new : old s before m ≡ false
  pub from : z ≡ megacell_of (here s before)

-- the theorem: of every history, both ways round
pub record Meaning : Type 0 where
  pub old_is : (s : Place) (ps : List Place) (m : Megacell) → old s ps m ≡ true → BegunOrEntered s ps m
  pub is_old : (s : Place) (ps : List Place) (m : Megacell) → BegunOrEntered s ps m → old s ps m ≡ true
  pub parent_is : (s : Place) (ps : List Place) (m z : Megacell) → parent s ps m ≡ Some z → FirstEntry s ps m z
  pub is_the_parent : (s : Place) (ps : List Place) (m z : Megacell) → FirstEntry s ps m z → parent s ps m ≡ Some z
