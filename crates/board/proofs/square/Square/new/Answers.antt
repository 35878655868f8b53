use Rattle.std.proofs.Common.{sym}
use Rattle.board.proofs.Geometry.{squared_in}
use Rattle.board.proofs.square.Square.new.Goals as goal

pub returns-then-column : goal.returns-then-column
returns-then-column g c = sym (squared_in _)
