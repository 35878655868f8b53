use Rattle.tour.proofs.megacells_have_one_number.Goals as goal
use Rattle.tour.proofs.Numbers.{one_number}

pub returns : goal.returns
returns c = one_number
