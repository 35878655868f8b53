-- What the sheet's buffer holds when a survey's answer is written out.
use Rattle.std.specs.Prelude.{◌≡◌, ℕ, ◌<◌, ◌≤◌, List, length, Ok, Err, Result}
use Rattle.sheet.specs.Sheets.{refusal_line}
use Rattle.sheet.specs.Writing.{written}
use Rattle.survey.specs.declared.faults.SurveyFault.{SurveyFault}
use Rattle.survey.specs.Faults.{told}

abbrev pub line_of : SurveyFault → List ℕ
line_of e = refusal_line (told e).number (told e).place

-- a sheet stays; a refusal's line stands at the front, if there is room
abbrev pub Shown : Result ℕ SurveyFault → List ℕ → List ℕ → Type 0
Shown (Ok n) before after = after ≡ before
Shown (Err e) before after = (length (line_of e) ≤ length before → after ≡ written before (line_of e)) × (length before < length (line_of e) → after ≡ before)
