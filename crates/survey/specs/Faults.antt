-- What a refusal of a survey tells: the lower layer's refusal is whole inside, and tells for itself.
use Rattle.fault.specs.declared.refusal.Refusal.{Refusal}
use Rattle.frame.specs.Numbered.{told as told_by_frame}
use Rattle.map_format.specs.Faults.{told as told_by_map}
use Rattle.log_record.specs.Faults.{told as told_by_log}
use Rattle.chart.specs.Charts.{told as told_by_chart}
use Rattle.rover.specs.Drive.{told as told_by_rover}
use Rattle.sweep.specs.Faults.{told as told_by_sweep}
use Rattle.sheet.specs.Refusing.{told as told_by_sheet}
use Rattle.survey.specs.declared.faults.SurveyFault.{SurveyFault}
use Rattle.survey.specs.declared.faults.SurveyFault.TheVariants.{Frame, Map, Log, Chart, Rover, Sweep, Sheet}

abbrev pub told : SurveyFault → Refusal
told (Frame e) = told_by_frame e
told (Map e) = told_by_map e
told (Log e) = told_by_log e
told (Chart e) = told_by_chart e
told (Rover e) = told_by_rover e
told (Sweep e) = told_by_sweep e
told (Sheet e) = told_by_sheet e
