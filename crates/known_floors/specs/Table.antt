-- Worked floors, as a table: what is given, and what the rules must make of it.
use Rattle.std.specs.Prelude.{◌≡◌, ℕ, List, [], ◌∷◌, ◌++◌, codes}
use Rattle.std.specs.List.{flat_map}
use Rattle.std.specs.Option.{option_map}
use Rattle.board.specs.Squares.{placed}
use Rattle.frame.specs.Numbered.{frame_of, place_seen}
use Rattle.known_floors.specs.Outcomes.{Outcome, Sheet, Refused, surveyed_map, surveyed_log}

-- A row of the table.
pub data Row : Type 0 where
  -- a map, the number of the frame that it is seen through, and what its survey gives
  map : (bytes : List ℕ) (frame : ℕ) → Outcome → Row
  -- a log, likewise
  log : (bytes : List ℕ) (frame : ℕ) → Outcome → Row
  -- a place, by its row and column, and where the frame of a number takes it
  place : (frame row column : ℕ) (seen_row seen_column : ℕ) → Row

-- the rules give a row
abbrev pub Given : Row → Type 0
Given (map bytes f expected) = surveyed_map bytes f ≡ expected
Given (log bytes f expected) = surveyed_log bytes f ≡ expected
Given (place f row column row' column') = option_map (place_seen (frame_of f)) (placed row column) ≡ placed row' column'

-- the rules give each row of a table
abbrev pub EachGiven : List Row → Type 0
EachGiven [] = Unit
EachGiven (row ∷ rows) = Given row × EachGiven rows

-- a line of text, ended by LF
abbrev pub line : List ℕ → List ℕ
line text = text ++ (10 ∷ [])

abbrev pub lines : List (List ℕ) → List ℕ
lines texts = flat_map line texts

-- A log of one good record, that of megacell (0, 0), in which the start (1, 1) lies: the record names a next one, tells no side
-- open, and has counts of 0.
abbrev pub one_record : ℕ → List ℕ
one_record next =
    0 ∷ 1 ∷ 0 ∷ 1 ∷ 1 ∷ 1 ∷ 0 ∷ 0
    ∷ 0 ∷ next ∷ 0 ∷ 0 ∷ 0 ∷ 0 ∷ 0 ∷ 0 ∷ 0 ∷ 0 ∷ 0 ∷ 0 ∷ 0 ∷ 0 ∷ 0 ∷ 0 ∷ []

-- one free megacell, two, and three around a corner
abbrev pub single : List ℕ
single = lines (codes "S" ∷ [])

abbrev pub double : List ℕ
double = lines (codes "S." ∷ [])

abbrev pub corner : List ℕ
corner = lines (codes "S." ∷ codes ".#" ∷ [])

-- The table. Frame 0 alters nothing, frame 1 is one quarter turn, and frame 4 is the mirror.
abbrev pub table : List Row
table =
    map single 0 (Sheet (lines (codes "START 1 1" ∷ codes "NWSE" ∷ codes "HOME 4 2 1" ∷ [])))
    ∷ map single 4 (Sheet (lines (codes "START 1 62" ∷ codes "ENWS" ∷ codes "HOME 4 2 1" ∷ [])))
    ∷ map double 0 (Sheet (lines (codes "START 1 1" ∷ codes "EENWWWSE" ∷ codes "HOME 8 4 2" ∷ [])))
    ∷ map corner 0 (Sheet (lines (codes "START 1 1" ∷ codes "EENWWWSSSENN" ∷ codes "HOME 12 6 3" ∷ [])))
    ∷ place 1 1 1 1 62
    ∷ place 4 5 40 5 23
    -- two starts, and none
    ∷ map (lines (codes ".S" ∷ codes "S." ∷ [])) 0 (Refused 6 3)
    ∷ map (lines (codes "#" ∷ [])) 0 (Refused 6 2)
    -- a row without its LF, and one of another width than the first
    ∷ map (codes "S") 0 (Refused 4 0)
    ∷ map (lines (codes "S.." ∷ codes ".." ∷ [])) 0 (Refused 4 4)
    -- no record; a first index, and none to follow it to; a record that names itself
    ∷ log (0 ∷ 0 ∷ 0 ∷ 0 ∷ 0 ∷ 0 ∷ 0 ∷ 0 ∷ []) 0 (Refused 12 0)
    ∷ log (0 ∷ 0 ∷ 0 ∷ 1 ∷ 0 ∷ 0 ∷ 0 ∷ 0 ∷ []) 0 (Refused 9 0)
    ∷ log (one_record 1) 0 (Refused 11 1)
    ∷ []
