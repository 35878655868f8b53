use Rattle.std.proofs.Common.{None, rules}
use Rattle.chart.proofs.Filling.{all_filled, emptied}
use Rattle.chart.proofs.slots.empty.Goals as goal

pub returns : goal.returns
returns g c = emptied c.args.slots.now c.fill_with.new.self c.fill_with.ensures.len c.in_ok-need.ensures (all_filled _ None (λ p x q k. search rules) _ _ _ c.fill_with.ensures.ran.1)
