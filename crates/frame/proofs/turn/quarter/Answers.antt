use Rattle.std.proofs.Common.{ℕ, ◌-◌, ap}
use Rattle.frame.specs.Frames.{quarter}
use Rattle.board.proofs.Making.{made, there}
use Rattle.frame.proofs.turn.quarter.Goals as goal

pub unwrap-requires : goal.unwrap-requires
unfolding quarter
unwrap-requires c = there (quarter c.args.place) _ _ _ c.new.ensures c.column.ensures (ap (λ (n : ℕ). 63 - n) c.row.ensures)

pub returns : goal.returns
unfolding quarter
returns c = made (quarter c.args.place) _ _ _ _ c.new.ensures c.column.ensures (ap (λ (n : ℕ). 63 - n) c.row.ensures) c.unwrap.ensures
