-- What a rover's calls do.
use Rattle.std.specs.Prelude.{ℕ, ◌+◌, min}
use Rattle.fault.specs.declared.layer.Layer.TheVariants.{Rover}
use Rattle.fault.specs.declared.refusal.Refusal.{Refusal}
use Rattle.fault.specs.Refusals.{refused}
use Rattle.board.specs.declared.heading.Heading.{Heading}
use Rattle.board.specs.Squares.{Place}
use Rattle.board.specs.Floors.{Floor, Passes}
use Rattle.rover.specs.declared.faults.RoverFault.{RoverFault}
use Rattle.rover.specs.declared.faults.RoverFault.TheVariants.{Closed}

-- one more, up to the largest number of 32 bits, where a count stays
abbrev pub counted : ℕ → ℕ
counted n = min (n + 1) 4294967295

-- no step at this heading may be made
abbrev pub Blocked : Floor → Place → Heading → Type 0
Blocked floor p h = (q : Place) → Passes floor p h q → ⊥

-- what a refused step tells: 64 times the row, and the column, of the rover called
abbrev pub told : RoverFault → Refusal
told (Closed slot heading) = refused 15 Rover slot
