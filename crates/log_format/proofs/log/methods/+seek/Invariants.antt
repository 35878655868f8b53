use Rattle.std.proofs.Common.{◌-◌}
use Rattle.log_format.specs.Chain.{stop}
use Rattle.log_format.proofs.Following.{step_at}
use Rattle.log_format.proofs.log.methods.+seek.Given as goal

-- the steps that are left of the chain
abbrev pub decreases-seek : goal.decreases-seek
decreases-seek l = stop l.log.now - step_at l.log.now l.index
