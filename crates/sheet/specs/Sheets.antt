-- The sheet of a sweep: its start, its letters, and how it ended, as text.
use Rattle.std.specs.Prelude.{ℕ, ◌+◌, Bool, true, false, cond, List, [], ◌∷◌, ◌++◌, codes, decimal, ◌==◌}
use Rattle.std.specs.List.{flat_map}
use Rattle.board.specs.Squares.{Place}
use Rattle.sweep.specs.declared.sweep.Record.{Record}

-- a space and a number, in decimal digits without leading zeros
abbrev pub spaced : ℕ → List ℕ
spaced n = (32 ∷ []) ++ decimal n

-- a line of a word and numbers
abbrev pub worded : List ℕ → List ℕ → List ℕ
worded word numbers = word ++ flat_map spaced numbers ++ (10 ∷ [])

-- the first line: START, row and column of the start
abbrev pub start_line : Place → List ℕ
start_line p = worded (codes "START") (p.row ∷ (p.column ∷ []))

-- Letters in lines of 64, each ended by LF, the last one too. `column` letters stand on the line already.
unfoldable pub lined : ℕ → List ℕ → List ℕ
lined column [] = cond (column == 0) [] (10 ∷ [])
lined column (letter ∷ letters) = cond (column == 63) (letter ∷ (10 ∷ lined 0 letters)) (letter ∷ lined (column + 1) letters)

abbrev pub letter_lines : List ℕ → List ℕ
letter_lines letters = lined 0 letters

-- the first word of the last line
abbrev pub ended : Bool → List ℕ
ended true = codes "HOME"
ended false = codes "STOPPED"

-- the last line: whether home, and how many moves, looks and megacells
abbrev pub last_line : Record → List ℕ
last_line r = worded (ended r.home) (r.moves ∷ (r.looks ∷ (r.megacells ∷ [])))

-- the whole sheet
abbrev pub sheet : Place → List ℕ → Record → List ℕ
sheet start letters ending = start_line start ++ letter_lines letters ++ last_line ending

-- the line that a refusal leaves: its number and its place
abbrev pub refusal_line : ℕ → ℕ → List ℕ
refusal_line number place = worded (codes "REFUSED") (number ∷ (place ∷ []))
