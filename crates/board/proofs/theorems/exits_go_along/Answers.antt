use Rattle.board.proofs.Turning.{exits_go_along}
use Rattle.board.proofs.theorems.exits_go_along.Goals as goal

pub returns : goal.returns
returns c = exits_go_along
