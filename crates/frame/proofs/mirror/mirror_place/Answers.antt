use Rattle.std.proofs.Common.{ℕ, ◌-◌, ap}
use Rattle.frame.specs.Frames.{mirrored}
use Rattle.board.proofs.Making.{made, there}
use Rattle.frame.proofs.mirror.mirror_place.Goals as goal

pub unwrap-requires : goal.unwrap-requires
unfolding mirrored
unwrap-requires c = there (mirrored c.args.place) _ _ _ c.new.ensures c.row.ensures (ap (λ (n : ℕ). 63 - n) c.column.ensures)

pub returns : goal.returns
unfolding mirrored
returns c = made (mirrored c.args.place) _ _ _ _ c.new.ensures c.row.ensures (ap (λ (n : ℕ). 63 - n) c.column.ensures) c.unwrap.ensures
