use Rattle.std.proofs.Common.{◌≡◌, ℕ, ◌+◌, Err, refl, inl, inr, arith, rules}
use Rattle.std.proofs.lemmas.Bool.{both_ways}
use Rattle.std.proofs.lemmas.List.{set-get_or}
use Rattle.sweep.specs.Journey.{Journey}
use Rattle.sweep.proofs.Telling.{lawful}
use Rattle.sweep.proofs.Running.{run_of_no_move, run_of_one_more, run_is_done, run_refused_by_rover}
use Rattle.sweep.proofs.sweep.Sweep.run.Goals as goal

pub loop-letters-init : goal.loop-letters-init
loop-letters-init g c = run_of_no_move (search rules)

-- home already
pub returns-then-self-clause-law : goal.returns-then-self-clause-law
returns-then-self-clause-law g c = rw set-get_or (run_is_done (lawful g.met.R.Rover.sides g.met.R.Rover.edge) c.loop-letters.invariant refl (inr c.if-self.true))

-- a refused step does not come in a sweep that was started
pub returns-in_err-moved : goal.returns-in_err-moved
returns-in_err-moved g c =
    let run = c.loop-letters.invariant in
    let w = c.in_err-moved.ensures in
    let never : (origin : g.row.R.Denot) (asked : ℕ) → Journey g.R.Rover origin asked c.args.self.now → ⊥ = λ origin asked st. both_ways _ c.if-self.false (w.law origin (asked + c.loop-letters.letters) run.room (run.law origin asked st).journey).1.0 in
    let is : c.from_residual-in_err-moved.result ≡ Err c.in_err-moved.field-0.0 = search rules in
    record {
      done = rw (is, set-get_or) (run_refused_by_rover (lawful g.met.R.Rover.sides g.met.R.Rover.edge) run c.in_err-moved.field-0.0 (omega arith) c.if-self.false w.done.0 w.done.1);
      law = λ origin asked room st. absurd (never origin asked st);
      chart = λ origin asked st ch. absurd (never origin asked st);
      short = λ origin asked few st. absurd (never origin asked st);
    }

pub loop-letters-preserved : goal.loop-letters-preserved
loop-letters-preserved g c =
    let w = c.in_ok-moved.ensures in
    run_of_one_more (lawful g.met.R.Rover.sides g.met.R.Rover.edge) c.loop-letters.invariant w.done w.law w.chart (search rules) (omega arith) (omega arith) (omega (arith, c.loop-letters.invariant.room))

-- the buffer is full
pub returns-clause-law : goal.returns-clause-law
returns-clause-law g c = run_is_done (lawful g.met.R.Rover.sides g.met.R.Rover.edge) c.loop-letters.invariant (omega (arith, c.loop-letters.invariant.runs.fits)) (inl (omega (arith, c.loop-letters.invariant.runs.fits)))
