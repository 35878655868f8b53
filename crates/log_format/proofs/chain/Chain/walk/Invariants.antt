use Rattle.std.proofs.Common.{not, count_by}
use Rattle.log_format.proofs.Walking.{Walking}
use Rattle.log_format.proofs.chain.Chain.walk.Given as goal

abbrev pub invariant-loop-index : goal.invariant-loop-index
invariant-loop-index l = Walking l.self.bytes.now l.holder l.index l.told.seen.entries

-- the megacells not marked yet
abbrev pub decreases-loop-index : goal.decreases-loop-index
decreases-loop-index l = count_by not l.told.seen.entries
