use Rattle.std.proofs.Common.{◌≡◌, ℕ, List, Option, sym, ap, ◌∙◌, subst, arith}
use Rattle.frame.specs.declared.mirror.Mirror.{Mirror}
use Rattle.frame.specs.declared.pair.Pair.{Pair}
use Rattle.frame.specs.declared.turn.Turn.{Turn}
use Rattle.frame.specs.Numbered.{frame_of, place_seen, place_below, heading_below}
use Rattle.framed.specs.Seen.{seen_floor, seen_field}
use Rattle.log_record.specs.declared.faults.LogFault.{LogFault}
use Rattle.log_record.specs.Layout.{start_of}
use Rattle.log_format.specs.declared.log.Log.{Log}
use Rattle.log_floor.specs.declared.floor.LogFloor.{LogFloor}
use Rattle.log_floor.specs.Told.{floor_of_log, field_of_log}
use Rattle.survey.specs.Logs.{LogAnswered}
use Rattle.survey.specs.Surveys.{lent, Surveys}
use Rattle.survey.proofs.log.survey_log.Goals as goal

pub returns : goal.returns
returns c =
    let before = lent c.args.chart.now c.args.tour.now c.args.sheet.now in
    let after = lent c.survey_rover.new.chart c.survey_rover.new.tour c.survey_rover.new.sheet in
    let r = c.survey_rover.result in
    let Seen : List ℕ → Pair (Option Mirror) Turn → Type 0 =
    λ b f. Surveys (seen_floor (place_below f) (heading_below f) (floor_of_log b)) (seen_field (place_below f) (field_of_log b)) (place_seen f c.new-below.result.place) before after r in
    let framed = c.in_ok-frame.ensures in
    let read = c.in_ok-log.ensures.is in
    let held : c.new-below.result.terrain.log.chain.bytes.now ≡ c.args.bytes.now = ap (λ (f : LogFloor Log). f.log.chain.bytes.now) c.new-below.ensures.terrain ∙ read.0 in
    record {
      unframed = λ h. absurd (omega (arith, framed.0));
      framed = λ h.
          subst (λ (o : Option LogFault). LogAnswered c.args.frame c.args.bytes.now o before after r) (sym read.1) (
            c.new-below.result.place,
            ap start_of (sym read.0) ∙ c.new-below.ensures.place,
            subst (λ b. Seen b (frame_of c.args.frame)) held (subst (λ f. Seen c.new-below.result.terrain.log.chain.bytes.now f) framed.1 c.survey_rover.ensures),
          );
    }
