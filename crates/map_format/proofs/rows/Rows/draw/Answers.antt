use Rattle.std.proofs.Common.{rules}
use Rattle.map_format.proofs.Tables.{tabled_calls}
use Rattle.map_format.proofs.rows.Rows.draw.Goals as goal

pub returns : goal.returns
returns c = tabled_calls _ _ _ _ 1024 c.from_fn.ensures.items (λ i y q k. search rules)
