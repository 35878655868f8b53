-- The survey of a map: first its frame, then its bytes, then the survey of the floor that it draws, seen through the frame.
use Rattle.std.specs.Prelude.{◌≡◌, ℕ, ◌<◌, ◌≤◌, List, Ok, Err, Result}
use Rattle.board.specs.declared.heading.Heading.TheVariants.{East}
use Rattle.board.specs.Squares.{Place}
use Rattle.board.specs.Corners.{subcell}
use Rattle.board.specs.Floors.{Floor}
use Rattle.frame.specs.Numbered.{frame_of, place_seen, place_below, heading_below, Refuses}
use Rattle.frame.specs.declared.faults.FrameFault.{FrameFault}
use Rattle.framed.specs.Seen.{seen_floor, seen_field}
use Rattle.map_format.specs.declared.drawing.Drawing.{Drawing}
use Rattle.map_format.specs.declared.faults.MapFault.{MapFault}
use Rattle.map_format.specs.Answer.{answer}
use Rattle.drawn_floor.specs.declared.light.Light.{Light}
use Rattle.drawn_floor.specs.Floor.{floor_of, field_of}
use Rattle.survey.specs.declared.faults.SurveyFault.{SurveyFault}
use Rattle.survey.specs.declared.faults.SurveyFault.TheVariants.{Frame, Map}
use Rattle.survey.specs.Surveys.{Lent, Surveys}

-- a drawing's floor, field and start, seen through the frame of a number
abbrev pub map_floor : ℕ → Drawing → Floor
map_floor f d = seen_floor (place_below (frame_of f)) (heading_below (frame_of f)) (floor_of d)

abbrev pub map_field : ℕ → Drawing → Place → Light
map_field f d = seen_field (place_below (frame_of f)) (field_of d)

-- the south-east subcell of the megacell of S, seen through it
abbrev pub map_start : ℕ → Drawing → Place
map_start f d = place_seen (frame_of f) (subcell d.start East)

abbrev pub MapAnswered : ℕ → Result Drawing MapFault → Lent Light → Lent Light → Result ℕ SurveyFault → Type 0
MapAnswered f (Err e) before after r = (r ≡ Err (Map e)) × (after ≡ before)
MapAnswered f (Ok d) before after r = Surveys (map_floor f d) (map_field f d) (map_start f d) before after r

pub record SurveysMap (map : List ℕ) (f : ℕ) (before after : Lent Light) (r : Result ℕ SurveyFault) : Type 0 where
  -- refused with 1
  pub unframed : 8 ≤ f → ((e : FrameFault) × Refuses f e × (r ≡ Err (Frame e))) × (after ≡ before)
  -- refused with 2 to 6, or surveyed
  pub framed : f < 8 → MapAnswered f (answer map) before after r
