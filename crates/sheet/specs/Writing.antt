-- A text written at the front of a buffer.
use Rattle.std.specs.Prelude.{◌≡◌, ℕ, ◌≤◌, List, ◌++◌, length, drop}

-- what the buffer holds then: the text, and behind it what it held before
abbrev pub written : List ℕ → List ℕ → List ℕ
written out text = text ++ drop (length text) out

-- the text has room
abbrev pub Room : List ℕ → List ℕ → Type 0
Room out text = length text ≤ length out

-- the text was written, and this is its length
pub record Put (before text after : List ℕ) (n : ℕ) : Type 0 where
  pub holds : after ≡ written before text
  pub ends : n ≡ length text
