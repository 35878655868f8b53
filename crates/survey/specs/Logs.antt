-- The survey of a log: first its frame, then its bytes, then the survey of the floor that it tells of, seen through the frame.
use Rattle.std.specs.Prelude.{◌≡◌, ℕ, ◌<◌, ◌≤◌, List, Some, None, Err, Option, Result}
use Rattle.board.specs.Squares.{Place}
use Rattle.board.specs.Floors.{Floor}
use Rattle.frame.specs.declared.faults.FrameFault.{FrameFault}
use Rattle.frame.specs.Numbered.{frame_of, place_seen, place_below, heading_below, Refuses}
use Rattle.framed.specs.Seen.{seen_floor, seen_field}
use Rattle.log_record.specs.declared.faults.LogFault.{LogFault}
use Rattle.log_record.specs.Layout.{start_of}
use Rattle.log_format.specs.Log.{refusal}
use Rattle.log_floor.specs.Told.{floor_of_log, field_of_log}
use Rattle.survey.specs.declared.faults.SurveyFault.{SurveyFault}
use Rattle.survey.specs.declared.faults.SurveyFault.TheVariants.{Frame, Log}
use Rattle.survey.specs.Surveys.{Lent, Surveys}

-- a log's floor and field, seen through the frame of a number
abbrev pub floor_seen : ℕ → List ℕ → Floor
floor_seen f b = seen_floor (place_below (frame_of f)) (heading_below (frame_of f)) (floor_of_log b)

abbrev pub field_seen : ℕ → List ℕ → Place → ℕ
field_seen f b = seen_field (place_below (frame_of f)) (field_of_log b)

abbrev pub LogAnswered : ℕ → List ℕ → Option LogFault → Lent ℕ → Lent ℕ → Result ℕ SurveyFault → Type 0
LogAnswered f b (Some e) before after r = (r ≡ Err (Log e)) × (after ≡ before)
LogAnswered f b None before after r = (s : Place) × (start_of b ≡ Some s) × Surveys (floor_seen f b) (field_seen f b) (place_seen (frame_of f) s) before after r

pub record SurveysLog (log : List ℕ) (f : ℕ) (before after : Lent ℕ) (r : Result ℕ SurveyFault) : Type 0 where
  -- refused with 1
  pub unframed : 8 ≤ f → ((e : FrameFault) × Refuses f e × (r ≡ Err (Frame e))) × (after ≡ before)
  -- refused with 7 to 12, or surveyed
  pub framed : f < 8 → LogAnswered f log (refusal log) before after r
