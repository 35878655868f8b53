use Rattle.std.proofs.Common.{ap, ◌∙◌, rules}
use Rattle.board.specs.Places.{megacell_of}
use Rattle.framed.specs.Through.{side_seen}
use Rattle.framed.proofs.FramedRover.look.Goals as goal

pub returns : goal.returns
returns g c = record {
  answer =
      c.look.ensures.answer
      ∙ ap (g.R.Rover.floor c.args.self.now.below (megacell_of (g.R.Rover.place c.args.self.now.below))) c.heading_below-below.ensures
      ∙ side_seen (g.F.Frame.taken c.args.self.now.frame) (g.F.Frame.returned c.args.self.now.frame) (g.F.Frame.turned c.args.self.now.frame) (g.F.Frame.restored c.args.self.now.frame)
      (g.met.F.Frame.keeps c.args.self.now.frame)
      (g.R.Rover.floor c.args.self.now.below) (g.R.Rover.place c.args.self.now.below) c.args.heading;
  counts = search rules;
  stays = search rules;
}
