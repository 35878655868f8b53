-- That the calls of the library answer what is tabled: with long enough buffers, a call of `survey_map` or `survey_log` gives the
-- outcome that the rules make of its bytes.
use Rattle.std.specs.Prelude.{◌≡◌, ℕ, ◌≤◌, List, length, take, Ok, Err, Result}
use Rattle.drawn_floor.specs.declared.light.Light.{Light}
use Rattle.survey.specs.declared.faults.SurveyFault.{SurveyFault}
use Rattle.survey.specs.Surveys.{Lent}
use Rattle.survey.specs.Maps.{SurveysMap}
use Rattle.survey.specs.Logs.{SurveysLog}
use Rattle.known_floors.specs.Outcomes.{Outcome, Sheet, Refused, bytes_of, refused_by, surveyed_map, surveyed_log}

-- buffers for a survey of this outcome: a chart that is not too small, a tour buffer of so many bytes, and room for the sheet
pub record Ample {A : Type 0} (outcome : Outcome) (tour_bytes : ℕ) (lent : Lent A) : Type 0 where
  pub chart : 4096 ≤ length lent.slots
  pub tour : length lent.bytes ≡ tour_bytes
  pub room : length (bytes_of outcome) ≤ length lent.text

-- a call's answer, and the text that it left, are this outcome
abbrev pub Gives : Outcome → Result ℕ SurveyFault → List ℕ → Type 0
Gives (Sheet text) (Ok n) left = (n ≡ length text) × (take n left ≡ text)
Gives (Sheet text) (Err e) left = ⊥
Gives (Refused number place) (Ok n) left = ⊥
Gives (Refused number place) (Err e) left = refused_by e ≡ Refused number place

-- the promise of the call of maps, at every map and frame, gives the outcome
abbrev pub MapCallsGive : ℕ → Type 0
MapCallsGive tour_bytes =
    (m : List ℕ) (f : ℕ) (before after : Lent Light) (r : Result ℕ SurveyFault)
    → Ample (surveyed_map m f) tour_bytes before → SurveysMap m f before after r → Gives (surveyed_map m f) r after.text

-- so does that of the call of logs
abbrev pub LogCallsGive : ℕ → Type 0
LogCallsGive tour_bytes =
    (b : List ℕ) (f : ℕ) (before after : Lent ℕ) (r : Result ℕ SurveyFault)
    → Ample (surveyed_log b f) tour_bytes before → SurveysLog b f before after r → Gives (surveyed_log b f) r after.text
