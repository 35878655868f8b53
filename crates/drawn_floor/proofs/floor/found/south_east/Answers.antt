use Rattle.std.proofs.Common.{ℕ, ◌+◌, ◌*◌, ap}
use Rattle.board.specs.declared.heading.Heading.TheVariants.{East}
use Rattle.board.specs.Corners.{subcell}
use Rattle.board.proofs.Making.{made, there}
use Rattle.drawn_floor.proofs.floor.found.south_east.Goals as goal

pub unwrap-requires : goal.unwrap-requires
unfolding subcell
unwrap-requires c = there (subcell c.args.megacell East) _ _ _ c.new.ensures (ap (λ (n : ℕ). 2 * n + 1) c.row.ensures) (ap (λ (n : ℕ). 2 * n + 1) c.column.ensures)

pub returns : goal.returns
unfolding subcell
returns c = made (subcell c.args.megacell East) _ _ _ _ c.new.ensures (ap (λ (n : ℕ). 2 * n + 1) c.row.ensures) (ap (λ (n : ℕ). 2 * n + 1) c.column.ensures) c.unwrap.ensures
