use Rattle.tour.proofs.laws_can_be_met.Goals as goal
use Rattle.tour.proofs.Examples.{laws_met}

pub returns : goal.returns
returns c = laws_met
