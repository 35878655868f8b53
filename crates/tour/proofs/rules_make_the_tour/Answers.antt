use Rattle.tour.proofs.rules_make_the_tour.Goals as goal
use Rattle.tour.proofs.Rules.{rules_make}

pub returns : goal.returns
returns c = rules_make
