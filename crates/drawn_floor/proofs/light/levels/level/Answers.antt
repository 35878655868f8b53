use Rattle.drawn_floor.proofs.Lamps.{the_literal, exact_ten}
use Rattle.drawn_floor.proofs.light.levels.level.Goals as goal

pub returns : goal.returns
returns c =
    record {
      is = simp (the_literal, c.value.ensures);
      exact = simp (the_literal, c.value.ensures) (exact_ten c.args.digit.value c.args.digit.small);
    }
