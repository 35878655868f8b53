use Rattle.std.proofs.Common.{arith, rules, take_all}
use Rattle.std.proofs.lemmas.List.{places}
use Rattle.std.proofs.lemmas.List.Sums.{sum_by_more}
use Rattle.sweep.specs.declared.call.Call.TheVariants.{Advance}
use Rattle.sweep.specs.Calls.{wants}
use Rattle.sweep.proofs.Telling.{lawful}
use Rattle.sweep.proofs.Gathering.{gathered_none, gathered_more, calls_anyway, calls_rest}
use Rattle.sweep.proofs.calls.make_calls.Goals as goal

-- before the first call
pub loop-call-init : goal.loop-call-init
loop-call-init g c = gathered_none c.start-sweep.ensures.begun c.start-sweep.ensures.law c.start-sweep.ensures.chart

-- one call more
pub loop-call-preserved : goal.loop-call-preserved
loop-call-preserved g c =
    rw (sum_by_more wants c.args.calls.now c.loop-call.call-index Advance c.loop-call-test.true)
    (gathered_more (lawful g.met.R.Rover.sides g.met.R.Rover.edge) c.loop-call.invariant (omega arith) (omega arith) (search (rules, places)) (search rules))

-- after the last call
pub returns : goal.returns
returns g c =
    let all = rw (take_all c.loop-call.call-index c.args.calls.now c.loop-call-test.false) at c.loop-call.invariant in
    let anyway = calls_anyway all (omega arith) in
    record {
      promise = λ blank. record { journey = (anyway blank.room).0; chart = all.chart blank; wrote = (anyway blank.room).1 };
      anyway = anyway;
      short = all.short;
      rest = calls_rest all;
      beyond = all.beyond;
    }
