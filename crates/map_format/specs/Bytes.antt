-- The bytes of a map: LF is 10, # is 35, . is 46, S is 83, the digits are 48 to 57.
use Rattle.std.specs.Prelude.{ℕ, Bool, not, ◌&&◌, ◌||◌, List, length, Option, ◌==◌, nat_le, slice_index}
use Rattle.firsts.specs.First.{first}

abbrev pub is_digit : ℕ → Bool
is_digit b = nat_le 48 b && nat_le b 57

abbrev pub permitted : ℕ → Bool
permitted b = b == 10 || (b == 35 || (b == 46 || (b == 83 || is_digit b)))

-- the byte at an offset is one that no map has
abbrev pub forbidden : List ℕ → ℕ → Bool
forbidden m o = not (permitted (slice_index m o))

-- a byte stands at an offset that is not before `from`
abbrev pub stands : List ℕ → ℕ → ℕ → ℕ → Bool
stands m byte from o = nat_le from o && slice_index m o == byte

-- the offset of the first such byte from an offset on
abbrev pub first_from : List ℕ → ℕ → ℕ → Option ℕ
first_from m byte from = first (stands m byte from) (length m)
