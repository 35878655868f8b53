-- What each refusal of a log tells: its number, and its place, which is a record, 0 standing for the header or for none.
use Rattle.fault.specs.declared.layer.Layer.TheVariants.{Log}
use Rattle.fault.specs.declared.refusal.Refusal.{Refusal}
use Rattle.fault.specs.Refusals.{refused}
use Rattle.log_record.specs.declared.faults.LogFault.{LogFault}
use Rattle.log_record.specs.declared.faults.LogFault.TheVariants.{WrongLength, BadHeader, IndexBeyond, BadRecord, SecondRecord, StartUntold}

abbrev pub told : LogFault → Refusal
told WrongLength = refused 7 Log 0
told BadHeader = refused 8 Log 0
told (IndexBeyond holder) = refused 9 Log holder
told (BadRecord at) = refused 10 Log at
told (SecondRecord at) = refused 11 Log at
told StartUntold = refused 12 Log 0
