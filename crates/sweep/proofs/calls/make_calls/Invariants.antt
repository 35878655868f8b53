use Rattle.std.proofs.Common.{take}
use Rattle.sweep.specs.Calls.{wants_all}
use Rattle.sweep.proofs.Gathering.{Gathered}
use Rattle.sweep.proofs.calls.make_calls.Given as goal

abbrev pub invariant-loop-call : goal.invariant-loop-call
invariant-loop-call g l = Gathered g.R.Rover l.fn.rover l.initial.slots l.initial.tour l.sweep l.slots l.tour l.written (wants_all (take l.call-index l.calls))
