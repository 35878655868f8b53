-- What the tests say of a log.
use Rattle.std.specs.Prelude.{ℕ, Some, None, Option}
use Rattle.log_record.specs.declared.faults.LogFault.{LogFault}
use Rattle.log_record.specs.Faults.{told}

-- a refusal's number and place; none of an accepted log
abbrev pub said_of : Option LogFault → Option (ℕ × ℕ)
said_of (Some e) = Some ((told e).number, (told e).place)
said_of None = None
