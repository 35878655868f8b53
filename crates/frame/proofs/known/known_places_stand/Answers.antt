use Rattle.std.proofs.Common.{sym, refl}
use Rattle.board.specs.Squares.{squared}
use Rattle.board.proofs.Geometry.{squared_at}
use Rattle.frame.specs.Frames.{mirrored, quarter}
use Rattle.frame.proofs.known.known_places_stand.Goals as goal

pub returns : goal.returns
unfolding squared quarter mirrored
returns c = record { turned = sym (squared_at 1 62 _ refl refl); mirror = sym (squared_at 5 23 _ refl refl) }
