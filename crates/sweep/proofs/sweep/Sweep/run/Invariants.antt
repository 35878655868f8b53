use Rattle.sweep.proofs.Running.{Running}
use Rattle.sweep.proofs.sweep.Sweep.run.Given as goal

abbrev pub invariant-loop-letters : goal.invariant-loop-letters
invariant-loop-letters g l = Running g.R.Rover l.initial.self l.initial.slots l.initial.tour l.self l.slots l.tour l.letters
