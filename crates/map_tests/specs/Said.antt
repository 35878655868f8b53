-- What is said of a map, in numbers.
use Rattle.std.specs.Prelude.{ℕ, Ok, Err, Result}
use Rattle.board.specs.Squares.{number_of}
use Rattle.map_format.specs.declared.drawing.Drawing.{Drawing}
use Rattle.map_format.specs.declared.faults.MapFault.{MapFault}
use Rattle.map_format.specs.Faults.{told}

-- of an accepted map the number of the start's megacell; of a refused one the refusal's number and place
abbrev pub said_of : Result Drawing MapFault → Result ℕ (ℕ × ℕ)
said_of (Ok d) = Ok (number_of d.start)
said_of (Err fault) = Err ((told fault).number, (told fault).place)
