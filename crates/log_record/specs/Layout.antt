-- The layout of a log, byte by byte: a header of 8 bytes, and records of 16, numbered from 1.
use Rattle.std.specs.Prelude.{ℕ, zero, suc, ◌+◌, ◌*◌, Bool, true, false, cond, ◌&&◌, List, length, take, drop, Some, None, Ok, Err, Option, Result, ◌==◌, nat_le, slice_index}
use Rattle.board.specs.Squares.{Megacell, Place, placed, celled}
use Rattle.log_record.specs.declared.faults.LogFault.{LogFault}
use Rattle.log_record.specs.declared.faults.LogFault.TheVariants.{WrongLength, BadHeader}
use Rattle.log_record.specs.declared.header.Header.{Header}
use Rattle.log_record.specs.declared.record.Record.{Record}

-- the number in the two bytes at an offset, the high byte first
abbrev pub two : List ℕ → ℕ → ℕ
two b o = slice_index b o * 256 + slice_index b (o + 1)

-- The header: bytes 0 and 1 the number n of records, 2 and 3 the index of the first of the chain,
-- 4 and 5 row and column of the start, 6 and 7 zero.

-- at least 8 bytes, at most 1,024 records, and the length that they have
abbrev pub whole : List ℕ → Bool
whole b = nat_le 8 (length b) && (nat_le (two b 0) 1024 && length b == 8 + 16 * two b 0)

-- the place where the rover starts; none where its row or column is over 63, or byte 6 or 7 is not zero
abbrev pub start_of : List ℕ → Option Place
start_of b = cond (slice_index b 6 == 0 && slice_index b 7 == 0) (placed (slice_index b 4) (slice_index b 5)) None

abbrev pub header_by : List ℕ → Option Place → Result Header LogFault
header_by b (Some place) = Ok (record { count = two b 0; first = two b 2; start = place })
header_by b None = Err BadHeader

-- the header, or the first refusal of it
unfoldable pub header_of : List ℕ → Result Header LogFault
header_of b = cond (whole b) (header_by b (start_of b)) (Err WrongLength)

-- A record: bytes 0 and 1 the index of the next, 2 and 3 row and column of its megacell, 4 the sides, 5 to 7 zero,
-- 8 to 15 the counts of the north-west, north-east, south-west and south-east subcells.

abbrev pub record_by : List ℕ → Bool → Option Megacell → Option Record
record_by b true (Some m) = Some (record {
  next = two b 0;
  megacell = m;
  sides = slice_index b 4;
  north_west = two b 8;
  north_east = two b 10;
  south_west = two b 12;
  south_east = two b 14;
})
record_by b true None = None
record_by b false m = None

-- the record in 16 bytes; none where its row or column is over 31, its sides are over 15, or one of its bytes 5 to 7 is not zero
abbrev pub recorded : List ℕ → Option Record
recorded b =
    record_by b
    (length b == 16 && (nat_le (slice_index b 4) 15 && (slice_index b 5 == 0 && (slice_index b 6 == 0 && slice_index b 7 == 0))))
    (celled (slice_index b 2) (slice_index b 3))

-- record k of a log: the 16 bytes from 8 + 16 (k - 1) on
unfoldable pub record_at : List ℕ → ℕ → Option Record
record_at b zero = None
record_at b (suc k) = recorded (take 16 (drop (8 + 16 * k) b))
