-- Which bytes are a log, and what a log tells.
use Rattle.std.specs.Prelude.{◌≡◌, ℕ, ◌≤◌, Bool, true, false, cond, List, Some, None, Ok, Err, Option, Result}
use Rattle.board.specs.Squares.{Megacell}
use Rattle.board.specs.Places.{megacell_of}
use Rattle.firsts.specs.First.{first}
use Rattle.log_record.specs.declared.faults.LogFault.{LogFault}
use Rattle.log_record.specs.declared.faults.LogFault.TheVariants.{SecondRecord, StartUntold}
use Rattle.log_record.specs.declared.header.Header.{Header}
use Rattle.log_record.specs.declared.record.Record.{Record}
use Rattle.log_record.specs.Layout.{header_of, record_at}
use Rattle.log_format.specs.Chain.{index, comes_to, visited, step_of, stop}

-- What comes of the step j in which the chain stops: its refusal, or at the end one where no record tells of the start's megacell m.
-- (A record that comes after one for every megacell is a second one of its own.)
abbrev pub ended_in : List ℕ → Megacell → ℕ → Result (Option Record) LogFault → Option LogFault
ended_in b m j (Ok None) = cond (visited b m j) None (Some StartUntold)
ended_in b m j (Ok (Some r)) = Some (SecondRecord (index b j))
ended_in b m j (Err e) = Some e

abbrev pub after_header : List ℕ → Result Header LogFault → Option LogFault
after_header b (Ok h) = ended_in b (megacell_of h.start) (stop b) (step_of b (stop b))
after_header b (Err e) = Some e

-- the first refusal of a log in checking order; none where the log is accepted
unfoldable pub refusal : List ℕ → Option LogFault
refusal b = after_header b (header_of b)

abbrev pub is_none : Option LogFault → Bool
is_none (Some e) = false
is_none None = true

abbrev pub accepts : List ℕ → Bool
accepts b = is_none (refusal b)

abbrev pub record_in : List ℕ → Option ℕ → Option Record
record_in b (Some j) = record_at b (index b j)
record_in b None = None

-- the record of a megacell in an accepted log: the one that the chain comes to before it ends
unfoldable pub record_of : List ℕ → Megacell → Option Record
record_of b m = record_in b (first (comes_to b m) (stop b))

-- on the way along the chain of an accepted log, to an index, without having come to a megacell
pub record Reaching (b : List ℕ) (at : ℕ) (m : Megacell) : Type 0 where
  pub accepted : accepts b ≡ true
  pub step : ℕ
  pub near : step ≤ stop b
  pub goes : at ≡ index b step
  pub none : first (comes_to b m) step ≡ None
