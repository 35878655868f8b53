-- What is written of a log, after its name.
use Rattle.std.specs.Prelude.{ℕ, List, ◌++◌, Some, None, codes, decimal, Option}
use Rattle.fault.specs.declared.refusal.Refusal.{Refusal}

abbrev pub refused_line : ℕ → ℕ → List ℕ
refused_line number place = codes ": " ++ (decimal number ++ (codes " " ++ decimal place))

abbrev pub said_of : Option Refusal → List ℕ
said_of (Some r) = refused_line r.number r.place
said_of None = codes ": accepted"
