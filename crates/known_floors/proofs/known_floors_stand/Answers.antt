use Rattle.std.proofs.Common.{length, refl, ap}
use Rattle.known_floors.specs.Outcomes.{bytes_of}
use Rattle.known_floors.proofs.Rows.{each_given}
use Rattle.known_floors.proofs.known_floors_stand.Goals as goal

pub returns : goal.returns
returns c = record { each = each_given; rows = refl; bytes = ap (λ o. length (bytes_of o)) each_given.1.1.1.0 }
