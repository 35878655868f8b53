-- How far one run drives, and what it leaves, as functions of the floor, the start and the length of the tour buffer.
use Rattle.std.specs.Prelude.{ℕ, ◌+◌, not, List, [], ◌∷◌, Some, None, Option}
use Rattle.firsts.specs.First.{first}
use Rattle.board.specs.Squares.{Place}
use Rattle.board.specs.Counting.{bit}
use Rattle.board.specs.Floors.{Floor}
use Rattle.board.specs.Places.{megacell_of}
use Rattle.tour.specs.History.{old}
use Rattle.tour.specs.Tour.{tour, letters, visited, tour_looks, home_after}
use Rattle.sweep.specs.declared.sweep.Record.{Record}
use Rattle.sheet.specs.Sheets.{sheet}

abbrev pub or_else : Option ℕ → ℕ → ℕ
or_else (Some k) n = k
or_else None n = n

-- the moves that a tour buffer takes: the first number of moves that ends home, or else one a byte
unfoldable pub moves_in : Floor → Place → ℕ → ℕ
moves_in floor s bytes = or_else (first (home_after floor s) bytes) bytes

-- how many megacells are old: the start's, and one more with each place entered in a new one
unfoldable pub old_count : Place → List Place → ℕ
old_count s [] = 1
old_count s (p ∷ ps) = old_count s ps + bit (not (old s ps (megacell_of p)))

-- what a sweep tells after its first n moves
abbrev pub record_after : Floor → Place → ℕ → Record
record_after floor s n = record { moves = n; looks = tour_looks floor s n; megacells = old_count s (visited floor s n); home = home_after floor s n }

-- the sheet after the first n moves
abbrev pub sheet_after : Floor → Place → ℕ → List ℕ
sheet_after floor s n = sheet s (letters (tour floor s n)) (record_after floor s n)
