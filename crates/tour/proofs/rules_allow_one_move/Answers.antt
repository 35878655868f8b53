use Rattle.tour.proofs.rules_allow_one_move.Goals as goal
use Rattle.tour.proofs.Rules.{one_next}

pub returns : goal.returns
returns c = one_next
