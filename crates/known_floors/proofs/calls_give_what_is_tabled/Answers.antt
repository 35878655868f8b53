use Rattle.known_floors.proofs.Calling.{map_calls_give, log_calls_give}
use Rattle.known_floors.proofs.calls_give_what_is_tabled.Goals as goal

pub returns : goal.returns
returns c = record { maps = map_calls_give; logs = log_calls_give }
