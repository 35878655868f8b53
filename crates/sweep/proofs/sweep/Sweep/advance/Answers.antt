use Rattle.std.proofs.Common.{◌+◌, arith, rules}
use Rattle.sweep.proofs.Telling.{lawful, journey_idles_at_home, advance_keeps_journey, advance_keeps_chart}
use Rattle.sweep.proofs.sweep.Sweep.advance.Goals as goal

-- home already: nothing changes
pub returns-in_err-need_underway-clause-law : goal.returns-in_err-need_underway-clause-law
returns-in_err-need_underway-clause-law g c = λ origin asked _ st. (
  journey_idles_at_home g.R.Rover origin (lawful g.met.R.Rover.sides g.met.R.Rover.edge origin) asked c.args.self.now st (asked + 1) c.in_err-need_underway.ensures.0 (omega (arith, st.workings.most)),
  search rules,
)

-- a move; a step refused by the rover does not come in a sweep that was started
pub returns-clause-law : goal.returns-clause-law
returns-clause-law g c = λ origin asked room st. advance_keeps_journey g.R.Rover (lawful g.met.R.Rover.sides g.met.R.Rover.edge) c.args.self.now c.args.slots.now _ _ (search rules) c.make_move.result c.make_move.ensures origin asked st

pub returns-clause-chart : goal.returns-clause-chart
returns-clause-chart g c = advance_keeps_chart g.R.Rover (lawful g.met.R.Rover.sides g.met.R.Rover.edge) c.args.self.now c.args.slots.now _ _ (search rules) c.make_move.result c.make_move.ensures
