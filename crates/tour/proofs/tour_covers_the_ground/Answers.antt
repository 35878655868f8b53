use Rattle.tour.proofs.tour_covers_the_ground.Goals as goal
use Rattle.tour.proofs.Coverage.{covers}

pub returns : goal.returns
returns c = covers
