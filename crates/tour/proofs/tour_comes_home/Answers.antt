use Rattle.tour.proofs.tour_comes_home.Goals as goal
use Rattle.tour.proofs.Home.{comes_home}

pub returns : goal.returns
returns c = comes_home
