-- A square of a board: a row and a column below the board's side. Megacells and places are the squares of two boards.
use Rattle.std.specs.Prelude.{ℕ, ◌+◌, ◌*◌, ◌<◌, Bool, true, false, ◌&&◌, T, Some, None, Option, ◌==◌, nat_lt}
use Rattle.std.proofs.Common.{ltb→lt}
use Rattle.board.specs.declared.square.Square.{Square}

-- a square of two by two subcells: a row and a column below 32
abbrev pub Megacell : Type 0
Megacell = Square 32

-- a subcell: a row and a column below 64
abbrev pub Place : Type 0
Place = Square 64

abbrev pub squared_by : {side : ℕ} (row column : ℕ) (a b : Bool) → (T a → row < side) → (T b → column < side) → Option (Square side)
squared_by row column true true h k = Some (record { row = row; column = column; rows = h tt; columns = k tt })
squared_by row column true false h k = None
squared_by row column false b h k = None

-- the square at two numbers; none where either is not below the side
unfoldable pub squared : (side : ℕ) → ℕ → ℕ → Option (Square side)
squared side row column = squared_by row column (nat_lt row side) (nat_lt column side) (ltb→lt row side) (ltb→lt column side)

-- the place and the megacell at two numbers
abbrev pub placed : ℕ → ℕ → Option Place
placed = squared 64

abbrev pub celled : ℕ → ℕ → Option Megacell
celled = squared 32

-- the number of a square among all of its board, row by row
abbrev pub number_of : {side : ℕ} → Square side → ℕ
number_of {side} s = side * s.row + s.column

unfoldable pub same_square : {side : ℕ} → Square side → Square side → Bool
same_square s t = s.row == t.row && s.column == t.column
