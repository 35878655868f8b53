-- What a refusal of a sweep tells.
use Rattle.fault.specs.declared.layer.Layer.TheVariants.{Sweep}
use Rattle.fault.specs.declared.refusal.Refusal.{Refusal}
use Rattle.fault.specs.Refusals.{refused}
use Rattle.chart.specs.Charts.{told as told_by_chart}
use Rattle.rover.specs.Drive.{told as told_by_rover}
use Rattle.sweep.specs.declared.faults.SweepFault.{SweepFault}
use Rattle.sweep.specs.declared.faults.SweepFault.TheVariants.{Chart, Home, Rover}

-- 13 where the chart has too few slots, 14 where the sweep is home already, 15 where the rover refuses the step; the lower fault tells for itself
abbrev pub told : SweepFault → Refusal
told (Chart e) = told_by_chart e
told Home = refused 14 Sweep 0
told (Rover e) = told_by_rover e
