-- A worked log, and the floor and the field that it tells of.
use Rattle.std.specs.Prelude.{◌≡◌, ℕ, true, false, T, List, [], ◌∷◌, nat_lt}
use Rattle.std.proofs.Common.{ltb→lt}
use Rattle.board.specs.declared.heading.Heading.TheVariants.{North, East, South, West}
use Rattle.board.specs.Squares.{Megacell, Place}
use Rattle.log_floor.specs.Told.{floor_of_log, field_of_log}

abbrev pub cell : (row column : ℕ) → T (nat_lt row 32) → T (nat_lt column 32) → Megacell
cell row column h k = record { row = row; column = column; rows = ltb→lt row 32 h; columns = ltb→lt column 32 k }

abbrev pub at : (row column : ℕ) → T (nat_lt row 64) → T (nat_lt column 64) → Place
at row column h k = record { row = row; column = column; rows = ltb→lt row 64 h; columns = ltb→lt column 64 k }

-- Two records, start (1, 1): the first of megacell (0, 0), with the sides given and the counts 4, 8, 12 and 16,
-- the second of megacell (0, 1), which tells its north and west sides open.
abbrev pub two_records : ℕ → List ℕ
two_records sides =
    0 ∷ 2 ∷ 0 ∷ 1 ∷ 1 ∷ 1 ∷ 0 ∷ 0
    ∷ 0 ∷ 2 ∷ 0 ∷ 0 ∷ sides ∷ 0 ∷ 0 ∷ 0 ∷ 0 ∷ 4 ∷ 0 ∷ 8 ∷ 0 ∷ 12 ∷ 0 ∷ 16
    ∷ 0 ∷ 0 ∷ 0 ∷ 1 ∷ 9 ∷ 0 ∷ 0 ∷ 0 ∷ 1 ∷ 0 ∷ 0 ∷ 0 ∷ 0 ∷ 0 ∷ 255 ∷ 255 ∷ []

pub record Known : Type 0 where
  -- east is 2 of the sides, west 8: told from both
  pub told_open : floor_of_log (two_records 2) (cell 0 0 tt tt) East ≡ true
  pub told_back : floor_of_log (two_records 2) (cell 0 1 tt tt) West ≡ true
  -- told from (0, 1) alone
  pub one_word : floor_of_log (two_records 13) (cell 0 0 tt tt) East ≡ false
  pub one_word_back : floor_of_log (two_records 13) (cell 0 1 tt tt) West ≡ false
  -- told open towards the edge, and towards a megacell without a record
  pub edge : floor_of_log (two_records 15) (cell 0 1 tt tt) North ≡ false
  pub untold : floor_of_log (two_records 15) (cell 0 0 tt tt) South ≡ false
  pub north_west : field_of_log (two_records 2) (at 0 0 tt tt) ≡ 4
  pub north_east : field_of_log (two_records 2) (at 0 1 tt tt) ≡ 8
  pub south_west : field_of_log (two_records 2) (at 1 0 tt tt) ≡ 12
  pub south_east : field_of_log (two_records 2) (at 1 1 tt tt) ≡ 16
  -- the high byte counts 256
  pub high_byte : field_of_log (two_records 2) (at 0 2 tt tt) ≡ 256
  pub most : field_of_log (two_records 2) (at 1 3 tt tt) ≡ 65535
  pub no_record : field_of_log (two_records 2) (at 2 2 tt tt) ≡ 0
