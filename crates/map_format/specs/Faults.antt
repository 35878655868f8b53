-- What a refused map tells: the number of the refusal, and its place.
use Rattle.fault.specs.declared.layer.Layer.TheVariants.{Map}
use Rattle.fault.specs.declared.refusal.Refusal.{Refusal}
use Rattle.fault.specs.Refusals.{refused}
use Rattle.map_format.specs.declared.faults.MapFault.{MapFault}
use Rattle.map_format.specs.declared.faults.MapFault.TheVariants.{Length, ForbiddenByte, BadRow, ExtraRow, NoStart, SecondStart}

abbrev pub told : MapFault → Refusal
told (Length bytes) = refused 2 Map 0
told (ForbiddenByte offset) = refused 3 Map offset
told (BadRow offset) = refused 4 Map offset
told (ExtraRow offset) = refused 5 Map offset
told (NoStart bytes) = refused 6 Map bytes
told (SecondStart offset) = refused 6 Map offset
