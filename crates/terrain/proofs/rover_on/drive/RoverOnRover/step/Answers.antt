use Rattle.std.proofs.Common.{sym, ◌∙◌, rules}
use Rattle.rover.proofs.Passing.{pass, block}
use Rattle.terrain.proofs.rover_on.drive.RoverOnRover.step.Goals as goal

pub returns-in-Some-clause-done : goal.returns-in-Some-clause-done
returns-in-Some-clause-done g c =
    let k = pass (g.T.Terrain.floor c.args.self.now.terrain) c.args.self.now.place c.in-Some.next c.args.heading (sym c.beside.ensures ∙ c.in-Some.is) (sym c.is_passable.ensures ∙ c.if-is_passable.true) in
    search rules

pub returns-in_default-clause-done : goal.returns-in_default-clause-done
returns-in_default-clause-done g c =
    let k = block (g.T.Terrain.floor c.args.self.now.terrain) c.args.self.now.place c.in-Some.next c.args.heading (sym c.beside.ensures ∙ c.in-Some.is) (sym c.is_passable.ensures ∙ c.if-is_passable.false) in
    search rules
