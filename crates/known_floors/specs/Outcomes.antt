-- What the written rules make of a map or a log: one survey of it, as a function of its bytes.
use Rattle.std.specs.Prelude.{ℕ, cond, List, [], Some, None, Ok, Err, Option, Result, nat_lt}
use Rattle.board.specs.Squares.{Place}
use Rattle.board.specs.Floors.{Floor}
use Rattle.frame.specs.declared.faults.FrameFault.TheVariants.{Unknown}
use Rattle.frame.specs.Numbered.{frame_of, place_seen}
use Rattle.map_format.specs.declared.drawing.Drawing.{Drawing}
use Rattle.map_format.specs.declared.faults.MapFault.{MapFault}
use Rattle.map_format.specs.Answer.{answer}
use Rattle.log_record.specs.declared.faults.LogFault.{LogFault}
use Rattle.log_record.specs.declared.faults.LogFault.TheVariants.{BadHeader}
use Rattle.log_record.specs.Layout.{start_of}
use Rattle.log_format.specs.Log.{refusal}
use Rattle.survey.specs.declared.faults.SurveyFault.{SurveyFault}
use Rattle.survey.specs.declared.faults.SurveyFault.TheVariants.{Frame, Map, Log}
use Rattle.survey.specs.Course.{moves_in, sheet_after}
use Rattle.survey.specs.Faults.{told}
use Rattle.survey.specs.Maps.{map_floor, map_start}
use Rattle.survey.specs.Logs.{floor_seen}

-- what comes of a survey: the bytes of a sheet, or the number and the place of a refusal
pub data Outcome : Type 0 where
  Sheet : List ℕ → Outcome
  Refused : (number place : ℕ) → Outcome

-- the bytes of the sheet; a refusal leaves none
abbrev pub bytes_of : Outcome → List ℕ
bytes_of (Sheet text) = text
bytes_of (Refused number place) = []

-- what a fault tells
abbrev pub refused_by : SurveyFault → Outcome
refused_by e = Refused (told e).number (told e).place

-- one run from s, with a tour buffer of 4,096 bytes, and its sheet
abbrev pub driven : Floor → Place → Outcome
driven floor s = Sheet (sheet_after floor s (moves_in floor s 4096))

abbrev pub drawn : ℕ → Result Drawing MapFault → Outcome
drawn f (Ok d) = driven (map_floor f d) (map_start f d)
drawn f (Err e) = refused_by (Map e)

-- the number of the frame is checked first
abbrev pub in_frame : ℕ → Outcome → Outcome
in_frame f outcome = cond (nat_lt f 8) outcome (refused_by (Frame (Unknown f)))

-- the survey of a map, seen through the frame of a number
abbrev pub surveyed_map : List ℕ → ℕ → Outcome
surveyed_map m f = in_frame f (drawn f (answer m))

-- the run from a log's start (bytes without one are not accepted)
abbrev pub started_at : ℕ → List ℕ → Option Place → Outcome
started_at f b (Some s) = driven (floor_seen f b) (place_seen (frame_of f) s)
started_at f b None = refused_by (Log BadHeader)

abbrev pub logged : ℕ → List ℕ → Option LogFault → Outcome
logged f b (Some e) = refused_by (Log e)
logged f b None = started_at f b (start_of b)

-- the survey of a log
abbrev pub surveyed_log : List ℕ → ℕ → Outcome
surveyed_log b f = in_frame f (logged f b (refusal b))
