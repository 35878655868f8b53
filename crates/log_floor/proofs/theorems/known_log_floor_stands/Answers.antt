use Rattle.std.proofs.Common.{refl}
use Rattle.board.specs.Corners.{corner_of, corner_by}
use Rattle.board.specs.Headings.{opposite, heading_number}
use Rattle.board.specs.Squares.{same_square, squared}
use Rattle.board.specs.Places.{megacell_of}
use Rattle.board.specs.Steps.{beside}
use Rattle.firsts.specs.First.{first}
use Rattle.log_record.specs.Layout.{header_of, record_at}
use Rattle.log_record.specs.Tells.{opens, count_at}
use Rattle.log_format.specs.Chain.{step_of, stop}
use Rattle.log_format.specs.Log.{record_of}
use Rattle.log_floor.specs.Told.{floor_of, field_of}
use Rattle.log_floor.proofs.theorems.known_log_floor_stands.Goals as goal

pub returns : goal.returns
unfolding corner_of corner_by opposite heading_number squared megacell_of same_square beside first header_of record_at opens count_at step_of stop record_of floor_of field_of
returns c =
    record {
      told_open = refl;
      told_back = refl;
      one_word = refl;
      one_word_back = refl;
      edge = refl;
      untold = refl;
      north_west = refl;
      north_east = refl;
      south_west = refl;
      south_east = refl;
      high_byte = refl;
      most = refl;
      no_record = refl;
    }
