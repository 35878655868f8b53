use Rattle.std.proofs.Common.{rules}
use Rattle.std.proofs.lemmas.List.{places}
use Rattle.sweep.proofs.Gathering.{run_makes, refused_run_makes}
use Rattle.sweep.proofs.calls.run_into.Goals as goal

pub returns-in-Ok : goal.returns-in-Ok
returns-in-Ok g c = let w = c.in-Ok.ensures in run_makes c.run.new.tour (search rules) (search (rules, places)) w.done.0 w.law w.chart

pub returns-in-Err : goal.returns-in-Err
returns-in-Err g c = let w = c.in-Err.ensures in refused_run_makes c.run.new.tour (search rules) (search (rules, places)) _ w.done w.law w.chart w.short
