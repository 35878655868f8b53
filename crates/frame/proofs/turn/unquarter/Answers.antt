use Rattle.std.proofs.Common.{ℕ, ◌-◌, ap}
use Rattle.frame.specs.Frames.{unquarter}
use Rattle.board.proofs.Making.{made, there}
use Rattle.frame.proofs.turn.unquarter.Goals as goal

pub unwrap-requires : goal.unwrap-requires
unfolding unquarter
unwrap-requires c = there (unquarter c.args.place) _ _ _ c.new.ensures (ap (λ (n : ℕ). 63 - n) c.column.ensures) c.row.ensures

pub returns : goal.returns
unfolding unquarter
returns c = made (unquarter c.args.place) _ _ _ _ c.new.ensures (ap (λ (n : ℕ). 63 - n) c.column.ensures) c.row.ensures c.unwrap.ensures
