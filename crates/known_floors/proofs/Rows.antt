-- The rows of the table, by computation.
use Rattle.std.proofs.Common.{◌≡◌, ℕ, ◌<◌, true, cond, ltb, List, None, Ok, sym, refl, ap, ◌∙◌, lit<}
use Rattle.std.specs.Fmt.{digits}
use Rattle.firsts.specs.First.{first}
use Rattle.firsts.proofs.Firsts.{first_here}
use Rattle.board.specs.Squares.{Place, same_square, squared}
use Rattle.board.specs.Counting.{bit, many}
use Rattle.board.specs.Corners.{exit_of, corner_by, corner_of, exit, subcell}
use Rattle.board.specs.Floors.{Floor}
use Rattle.board.specs.Headings.{left, opposite, letter}
use Rattle.board.specs.Places.{megacell_of}
use Rattle.board.specs.Steps.{beside, step}
use Rattle.board.proofs.Geometry.{squared_at}
use Rattle.frame.specs.declared.faults.FrameFault.TheVariants.{Unknown}
use Rattle.frame.specs.Frames.{mirrored, flipped, quarter, unquarter, times}
use Rattle.framed.specs.Seen.{megacell_below}
use Rattle.map_format.specs.Answer.{answer, drawn}
use Rattle.map_format.specs.Cells.{digit_of, tabled, megacell_at}
use Rattle.drawn_floor.specs.Floor.{floor_of}
use Rattle.log_record.specs.Layout.{header_of, record_at}
use Rattle.log_format.specs.Chain.{step_of, stop}
use Rattle.log_format.specs.Log.{refusal}
use Rattle.tour.specs.History.{here, old, parent, home, walk, entered}
use Rattle.tour.specs.Rules.{is_parent, absent_or_old, ruled, next_move}
use Rattle.tour.specs.Tour.{tour, letters, tour_looks, home_after}
use Rattle.sheet.specs.Sheets.{lined}
use Rattle.survey.specs.declared.faults.SurveyFault.TheVariants.{Frame}
use Rattle.survey.specs.Course.{or_else, moves_in, old_count, sheet_after}
use Rattle.survey.specs.Maps.{map_floor, map_start}
use Rattle.known_floors.specs.Outcomes.{Sheet, driven, in_frame, refused_by, drawn as outcome_of}
use Rattle.known_floors.specs.Table.{map, Given, EachGiven, single, double, corner, table}

-- a run that is home by its nth move, and not before, leaves the sheet after n moves
driven_home : (floor : Floor) (s : Place) (n : ℕ) (text : List ℕ) → first (home_after floor s) n ≡ None → home_after floor s n ≡ true → n < 4096 → sheet_after floor s n ≡ text → driven floor s ≡ Sheet text
unfolding moves_in
driven_home floor s n text before ends few e = ap (λ o. Sheet (sheet_after floor s (or_else o 4096))) (first_here (home_after floor s) n 4096 before ends few) ∙ ap (λ t. Sheet t) e

-- all that a survey of a map computes with, to be named on an `unfolding` line
unfoldable whole_survey : ℕ
unfolding left opposite letter squared same_square megacell_of exit_of corner_by corner_of exit subcell beside step bit many here old parent home walk entered is_parent absent_or_old ruled next_move tour tour_looks letters first mirrored flipped quarter unquarter times megacell_below digit_of tabled megacell_at floor_of old_count lined digits
whole_survey = 0

-- so does the survey of a map that begins with its S
map_home : (m : List ℕ) (f n : ℕ) (text : List ℕ) → answer m ≡ Ok (drawn m 0) → ltb f 8 ≡ true → first (home_after (map_floor f (drawn m 0)) (map_start f (drawn m 0))) n ≡ None → home_after (map_floor f (drawn m 0)) (map_start f (drawn m 0)) n ≡ true → n < 4096 → sheet_after (map_floor f (drawn m 0)) (map_start f (drawn m 0)) n ≡ text → Given (map m f (Sheet text))
map_home m f n text read framed before ends few e =
    ap (λ o. in_frame f (outcome_of f o)) read
    ∙ ap (λ b. cond b (driven (map_floor f (drawn m 0)) (map_start f (drawn m 0))) (refused_by (Frame (Unknown f)))) framed
    ∙ driven_home (map_floor f (drawn m 0)) (map_start f (drawn m 0)) n text before ends few e

-- the sheets, the places, and the refusals
pub each_given : EachGiven table
unfolding whole_survey header_of record_at step_of stop refusal
each_given =
    let one = map_home single 0 4 _ refl refl refl refl (lit< tt) refl in
    let seen = map_home single 4 4 _ refl refl refl refl (lit< tt) refl in
    let two = map_home double 0 8 _ refl refl refl refl (lit< tt) refl in
    let three = map_home corner 0 12 _ refl refl refl refl (lit< tt) refl in
    let turned = sym (squared_at 1 62 _ refl refl) in
    let mirror = sym (squared_at 5 23 _ refl refl) in
    (one, (seen, (two, (three, (turned, (mirror, (refl, (refl, (refl, (refl, (refl, (refl, (refl, tt)))))))))))))
