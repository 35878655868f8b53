use Rattle.tour.proofs.old_and_parent_mean_what_they_say.Goals as goal
use Rattle.tour.proofs.Means.{meaning}

pub returns : goal.returns
returns c = meaning
