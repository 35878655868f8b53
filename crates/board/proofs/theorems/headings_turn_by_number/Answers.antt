use Rattle.board.proofs.Turning.{turns_by_number}
use Rattle.board.proofs.theorems.headings_turn_by_number.Goals as goal

pub returns : goal.returns
returns c = turns_by_number
