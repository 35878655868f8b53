use Rattle.log_format.proofs.Meaning.{accepted_exactly, tells_of_chain}
use Rattle.log_format.proofs.theorems.log_meaning_stands.Goals as goal

pub returns : goal.returns
returns c = record { accepted = accepted_exactly; tells = tells_of_chain }
