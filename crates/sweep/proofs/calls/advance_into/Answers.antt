use Rattle.std.proofs.Common.{refl, arith, rules}
use Rattle.sweep.proofs.Telling.{lawful}
use Rattle.sweep.proofs.Running.{run_of_no_move, run_of_one_more}
use Rattle.sweep.proofs.Gathering.{no_call_makes, moves_make, refused_advance_makes}
use Rattle.sweep.proofs.calls.advance_into.Goals as goal

-- no byte is left
pub returns-then-is_empty : goal.returns-then-is_empty
returns-then-is_empty g c = no_call_makes (search rules)

pub returns-in-Ok : goal.returns-in-Ok
returns-in-Ok g c =
    let w = c.in-Ok.ensures in
    moves_make (run_of_one_more (lawful g.met.R.Rover.sides g.met.R.Rover.edge) (run_of_no_move w.done.0) w.done w.law w.chart (search rules) (search rules) refl (omega (arith, w.done.0))) (search rules)

pub returns-in-Err : goal.returns-in-Err
returns-in-Err g c =
    let w = c.in-Err.ensures in
    refused_advance_makes (search rules) w.done.1 w.law w.chart w.short
