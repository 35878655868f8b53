use Rattle.tour.proofs.worked_floors_stand.Goals as goal
use Rattle.tour.proofs.Examples.{worked_floors}

pub returns : goal.returns
returns c = worked_floors
