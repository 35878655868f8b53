use Rattle.std.proofs.Common.{rules}
use Rattle.framed.specs.Through.{pass_seen, block_seen}
use Rattle.framed.proofs.Mapping.{mapped}
use Rattle.framed.proofs.FramedRover.step.Goals as goal

pub returns-clause-done : goal.returns-clause-done
returns-clause-done g c =
    let f = c.args.self.now.frame in
    let keeps = g.met.F.Frame.keeps f in
    let floor = g.R.Rover.floor c.args.self.now.below in
    let place = g.R.Rover.place c.args.self.now.below in
    let below = c.heading_below-below in
    mapped c.step.result c.map_err.result c.step.ensures.done c.map_err.ensures.cases
    (λ x p. (pass_seen (g.F.Frame.taken f) (g.F.Frame.returned f) (g.F.Frame.turned f) (g.F.Frame.restored f) keeps floor place (g.R.Rover.place c.step.new.self) c.args.heading below.result below.ensures p.0, p.1))
    (λ e d q is.
    let blocked = block_seen (g.F.Frame.taken f) (g.F.Frame.returned f) (g.F.Frame.turned f) (g.F.Frame.restored f) keeps floor place c.args.heading below.result below.ensures q.0 in
    search rules)
