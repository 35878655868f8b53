-- Where the rows of a map lie. Each row ends with LF, which is no part of its width.
use Rattle.std.specs.Prelude.{ℕ, ◌+◌, ◌*◌, Bool, false, not, ◌&&◌, List, length, Some, None, Option, ◌==◌, nat_le, nat_lt}
use Rattle.map_format.specs.Bytes.{first_from}

-- the offset of the LF that ends the row which begins at an offset
abbrev pub row_end : List ℕ → ℕ → Option ℕ
row_end m o = first_from m 10 o

abbrev pub or_at : Option ℕ → ℕ → ℕ
or_at (Some e) n = e
or_at None n = n

-- the width of the first row: the bytes before its LF
abbrev pub width : List ℕ → ℕ
width m = or_at (row_end m 0) (length m)

-- where row k begins, as long as each row before it has the first row's width and its LF (Layout.antt says that this is so)
abbrev pub row_at : List ℕ → ℕ → ℕ
row_at m k = k * (width m + 1)

abbrev pub is_at : Option ℕ → ℕ → Bool
is_at (Some e) o = e == o
is_at None o = false

-- the row that begins at offset o has the width w, which is 1 to 32, and its LF
abbrev pub good_row : List ℕ → ℕ → ℕ → Bool
good_row m w o = nat_le 1 w && (nat_le w 32 && is_at (row_end m o) (o + w))

-- the map goes on at row k, and what follows is no row of the first row's width, 1 to 32, with its LF
abbrev pub bad_row : List ℕ → ℕ → Bool
bad_row m k = nat_lt (row_at m k) (length m) && not (good_row m (width m) (row_at m k))
