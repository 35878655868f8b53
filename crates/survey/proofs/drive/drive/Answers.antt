use Rattle.std.proofs.Common.{◌≡◌, ℕ, ◌+◌, length, ap, ◌∙◌, subst, zero-add, arith}
use Rattle.sweep.specs.declared.sweep.Record.{Record}
use Rattle.sweep.specs.Promise.{Letters}
use Rattle.survey.specs.Course.{moves_in, record_after}
use Rattle.survey.specs.Surveys.{Driven}
use Rattle.survey.proofs.Driving.{made_are, record_is, driven_by}
use Rattle.survey.proofs.drive.drive.Goals as goal

pub unreachable-requires : goal.unreachable-requires
unreachable-requires g c = (c.in-Err.ensures.law c.args.rover 0 c.requires.room c.start-sweep.ensures.law).1

pub returns : goal.returns
returns g c =
    let rover = c.args.rover in
    let n = c.in-Ok.field-0.letters in
    let after = c.run.new.self in
    let told = c.in-Ok.ensures.law rover 0 c.requires.room c.start-sweep.ensures.law in
    let runs = c.in-Ok.ensures.done.0 in
    let none : c.start-sweep.result.told.moves ≡ 0 = c.start-sweep.ensures.begun.moves in
    let e : after.told.moves ≡ n = told.1.0 ∙ ap (λ (k : ℕ). k + n) none ∙ zero-add n in
    let wrote : Letters (g.R.Rover.floor rover) (g.R.Rover.place rover) 0 n c.run.new.tour = subst (λ (k : ℕ). Letters (g.R.Rover.floor rover) (g.R.Rover.place rover) k n c.run.new.tour) none told.1.1 in
    let chart = c.in-Ok.ensures.chart rover 0 c.start-sweep.ensures.law (c.start-sweep.ensures.chart c.args.chart.now c.requires) in
    let all : n ≡ moves_in (g.R.Rover.floor rover) (g.R.Rover.place rover) (length c.args.tour.now) = made_are g.R.Rover rover after c.args.chart.now c.run.new.slots c.args.tour.now c.run.new.tour n told.0 e in
    let end = c.end-rover.ensures.is in
    record {
      fits = omega (arith, runs.fits, e, ap (λ (r : Record). r.moves) end.1);
      ending = record_is g.R.Rover rover after c.args.chart.now c.run.new.slots c.args.tour.now c.run.new.tour n c.end-rover.result.1 (0 + length c.args.tour.now) told.0 e end.1
          ∙ ap (record_after (g.R.Rover.floor rover) (g.R.Rover.place rover)) all;
      driven = subst (λ (k : ℕ). Driven (g.R.Rover.floor rover) (g.R.Rover.field rover) (g.R.Rover.place rover) k c.args.chart.now c.args.tour.now c.run.new.slots c.run.new.tour) all
          (driven_by g.R.Rover rover after c.args.chart.now c.run.new.slots c.args.tour.now c.run.new.tour n (0 + length c.args.tour.now) told.0 chart e runs.fits c.run.auto.tour wrote runs.rest runs.beyond);
    }
