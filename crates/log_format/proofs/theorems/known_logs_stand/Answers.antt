use Rattle.std.proofs.Common.{refl}
use Rattle.board.specs.Squares.{same_square, squared}
use Rattle.board.specs.Places.{megacell_of}
use Rattle.firsts.specs.First.{first}
use Rattle.log_record.specs.Layout.{header_of, record_at}
use Rattle.log_format.specs.Chain.{step_of, stop}
use Rattle.log_format.specs.Log.{refusal}
use Rattle.log_format.proofs.theorems.known_logs_stand.Goals as goal

pub returns : goal.returns
unfolding squared megacell_of same_square first header_of record_at step_of stop refusal
returns c =
    record {
      eight_zero_bytes = refl;
      first_index_one = refl;
      next_is_itself = refl;
      no_byte = refl;
      start_off_the_board = refl;
      next_past_the_last = refl;
      sides_sixteen = refl;
      sides_before_next = refl;
      good = refl;
      good_pair = refl;
      ring_of_two = refl;
      back_to_the_first = refl;
    }
