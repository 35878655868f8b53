use Rattle.std.proofs.Common.{arith}
use Rattle.sweep.proofs.Gathering.{no_call_makes}
use Rattle.sweep.proofs.calls.make_call.Goals as goal

-- the questions alter nothing
pub returns-in-Ask : goal.returns-in-Ask
returns-in-Ask g c = no_call_makes (rw c.in-Ask.is (omega arith))
