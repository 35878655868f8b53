use Rattle.std.proofs.Common.{refl, false}
use Rattle.sweep.specs.Single.{Begun}
use Rattle.sweep.proofs.Telling.{lawful, journey_at_start, chart_at_start}
use Rattle.sweep.proofs.sweep.Sweep.start.Goals as goal

pub returns : goal.returns
returns g c =
    let b : Begun g.R.Rover c.args.rover (record { rover = c.args.rover; start = c.place-start.result; marks = c.fresh.result; told = record { moves = 0; looks = 0; megacells = 1; home = false } }) =
    record { owns = refl; start = c.place-start.ensures; tells = rw c.place-start.ensures at c.fresh.ensures; moves = refl; looks = refl; megacells = refl; home = refl } in
    record {
      begun = b;
      law = journey_at_start (lawful g.met.R.Rover.sides g.met.R.Rover.edge c.args.rover) b;
      chart = chart_at_start b;
    }
