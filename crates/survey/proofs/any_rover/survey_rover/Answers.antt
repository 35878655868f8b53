use Rattle.std.proofs.Common.{length, Err, sym, ap, ◌∙◌, subst, arith}
use Rattle.std.proofs.lemmas.Result.{err_from_is_err_and}
use Rattle.sweep.specs.declared.sweep.Record.{Record}
use Rattle.survey.specs.Course.{moves_in}
use Rattle.survey.specs.Faults.{told}
use Rattle.survey.specs.declared.faults.SurveyFault.TheVariants.{Sheet}
use Rattle.survey.specs.Surveys.{lent, Surveys}
use Rattle.survey.proofs.Surveying.{letters_front, driven_since, sheet_refused, sheet_laid}
use Rattle.survey.proofs.any_rover.survey_rover.Goals as goal

pub returns-in_err-length : goal.returns-in_err-length
returns-in_err-length g c =
    let floor = g.R.Rover.floor c.args.rover in
    let s = g.R.Rover.place c.args.rover in
    let n = moves_in floor s (length c.args.tour.now) in
    let emptied = c.in_ok-empty.ensures in
    let driven = driven_since floor (g.R.Rover.field c.args.rover) s n c.args.chart.now c.empty.new.slots c.drive-ending.new.chart c.args.tour.now c.drive-ending.new.tour emptied.1 c.drive-ending.ensures.driven in
    let front = letters_front floor (g.R.Rover.field c.args.rover) s n c.drive-ending.result.moves c.empty.new.slots c.drive-ending.new.chart c.args.tour.now c.drive-ending.new.tour (ap (λ (r : Record). r.moves) c.drive-ending.ensures.ending) c.drive-ending.ensures.driven in
    let out = c.in_err-length.ensures in
    let e = c.in_err-length.field-0.0 in
    let why = sheet_refused floor s c.place-start.result n _ c.drive-ending.result c.args.sheet.now c.lay_out.new.sheet e c.place-start.ensures front c.drive-ending.ensures.ending out.0 in
    let p = err_from_is_err_and c.from_residual-in_err-length.result c.from_residual-in_err-length.ensures.1 in
    subst (λ r. Surveys floor (g.R.Rover.field c.args.rover) s (lent c.args.chart.now c.args.tour.now c.args.sheet.now) (lent c.drive-ending.new.chart c.drive-ending.new.tour c.lay_out.new.sheet) r) (sym (p.1 ∙ ap Err p.2))
    (omega (arith, emptied.0.room, c.empty.auto.slots), driven, why.0, why.1, ap (λ x. told (Sheet x)) why.1, out.1)

pub returns : goal.returns
returns g c =
    let floor = g.R.Rover.floor c.args.rover in
    let s = g.R.Rover.place c.args.rover in
    let n = moves_in floor s (length c.args.tour.now) in
    let emptied = c.in_ok-empty.ensures in
    let driven = driven_since floor (g.R.Rover.field c.args.rover) s n c.args.chart.now c.empty.new.slots c.drive-ending.new.chart c.args.tour.now c.drive-ending.new.tour emptied.1 c.drive-ending.ensures.driven in
    let front = letters_front floor (g.R.Rover.field c.args.rover) s n c.drive-ending.result.moves c.empty.new.slots c.drive-ending.new.chart c.args.tour.now c.drive-ending.new.tour (ap (λ (r : Record). r.moves) c.drive-ending.ensures.ending) c.drive-ending.ensures.driven in
    let out = c.in_ok-length.ensures in
    let laid = sheet_laid floor s c.place-start.result n _ c.drive-ending.result c.args.sheet.now c.lay_out.new.sheet _ c.place-start.ensures front c.drive-ending.ensures.ending out.0 out.1 out.2 in
    (omega (arith, emptied.0.room, c.empty.auto.slots), driven, laid.0, laid.1, laid.2)
