use Rattle.std.proofs.Common.{◌≡◌, Option, Result, ap, subst, arith}
use Rattle.board.specs.declared.heading.Heading.TheVariants.{East}
use Rattle.board.specs.Squares.{Place}
use Rattle.board.specs.Corners.{subcell}
use Rattle.frame.specs.declared.mirror.Mirror.{Mirror}
use Rattle.frame.specs.declared.pair.Pair.{Pair}
use Rattle.frame.specs.declared.turn.Turn.{Turn}
use Rattle.frame.specs.Numbered.{frame_of, place_seen, place_below, heading_below}
use Rattle.framed.specs.Seen.{seen_floor, seen_field}
use Rattle.map_format.specs.declared.drawing.Drawing.{Drawing}
use Rattle.map_format.specs.declared.faults.MapFault.{MapFault}
use Rattle.drawn_floor.specs.declared.floor.DrawnFloor.{DrawnFloor}
use Rattle.drawn_floor.specs.Floor.{floor_of, field_of}
use Rattle.survey.specs.Maps.{MapAnswered}
use Rattle.survey.specs.Surveys.{lent, Surveys}
use Rattle.survey.proofs.map.survey_map.Goals as goal

pub returns : goal.returns
returns c =
    let before = lent c.args.chart.now c.args.tour.now c.args.sheet.now in
    let after = lent c.survey_rover.new.chart c.survey_rover.new.tour c.survey_rover.new.sheet in
    let r = c.survey_rover.result in
    let rover = c.new-below.result in
    let d = c.in_ok-drawing.drawing in
    let Seen : Drawing → Place → Pair (Option Mirror) Turn → Type 0 =
    λ b p f. Surveys (seen_floor (place_below f) (heading_below f) (floor_of b)) (seen_field (place_below f) (field_of b)) (place_seen f p) before after r in
    let framed = c.in_ok-frame.ensures in
    let here = c.new-below.ensures.place in
    let start : rover.place ≡ subcell d.start East = cc in
    let drawn : rover.terrain.drawing ≡ d = ap (λ (t : DrawnFloor). t.drawing) c.new-below.ensures.terrain in
    record {
      unframed = λ h. absurd (omega (arith, framed.0));
      framed = λ h.
          subst (λ (a : Result Drawing MapFault). MapAnswered c.args.frame a before after r) c.in_ok-drawing.ensures.is
          (subst (λ p. Seen d p (frame_of c.args.frame)) start (subst (λ b. Seen b rover.place (frame_of c.args.frame)) drawn (subst (λ f. Seen rover.terrain.drawing rover.place f) framed.1 c.survey_rover.ensures)));
    }
