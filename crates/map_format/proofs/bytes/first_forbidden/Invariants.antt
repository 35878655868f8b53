use Rattle.std.proofs.Common.{◌≡◌, None}
use Rattle.firsts.specs.First.{first}
use Rattle.map_format.specs.Bytes.{forbidden}
use Rattle.map_format.proofs.bytes.first_forbidden.Given as goal

abbrev pub invariant-loop-offset : goal.invariant-loop-offset
invariant-loop-offset l = first (forbidden l.map) l.offset ≡ None
