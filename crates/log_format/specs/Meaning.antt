-- What it means that a log is accepted, without the order of the checks.
use Rattle.std.specs.Prelude.{◌≡◌, ℕ, ◌<◌, ◌≤◌, true, List, Some, Ok, ◌≢◌}
use Rattle.board.specs.Squares.{Megacell}
use Rattle.board.specs.Places.{megacell_of}
use Rattle.log_record.specs.declared.header.Header.{Header}
use Rattle.log_record.specs.declared.record.Record.{Record}
use Rattle.log_record.specs.Layout.{two, header_of, record_at}
use Rattle.log_format.specs.Chain.{index}
use Rattle.log_format.specs.Log.{accepts, record_of}

-- step j of the chain comes to this record
abbrev pub Comes : List ℕ → ℕ → Record → Type 0
Comes b j r = record_at b (index b j) ≡ Some r

-- the chain is of `long` records: each is one of the log's n, no two tell of one megacell, and then it ends
pub record Chain (b : List ℕ) (long : ℕ) : Type 0 where
  pub within : (j : ℕ) → j < long → index b j ≤ two b 0
  pub records : (j : ℕ) → j < long → (r : Record) × Comes b j r
  pub apart : (i j : ℕ) (r s : Record) → i < j → j < long → Comes b i r → Comes b j s → r.megacell ≢ s.megacell
  pub ends : index b long ≡ 0

-- one of its records tells of a megacell
abbrev pub TellsOf : List ℕ → ℕ → Megacell → Type 0
TellsOf b long m = (j : ℕ) × (j < long) × ((r : Record) × Comes b j r × (r.megacell ≡ m))

-- bytes that are a log: a header, a chain, and a record of the megacell in which the start lies
pub record IsLog (b : List ℕ) : Type 0 where
  pub header : Header
  pub read : header_of b ≡ Ok header
  pub long : ℕ
  pub chain : Chain b long
  pub start : TellsOf b long (megacell_of header.start)

abbrev pub AcceptedExactly : Type 0
AcceptedExactly = (b : List ℕ) → (accepts b ≡ true → IsLog b) × (IsLog b → accepts b ≡ true)

-- what an accepted log tells of a megacell is its one chained record
abbrev pub TellsOfChain : Type 0
TellsOfChain =
    (b : List ℕ) (l : IsLog b) (m : Megacell) (r : Record) →
    (record_of b m ≡ Some r → (j : ℕ) × (j < l.long) × Comes b j r × (r.megacell ≡ m))
    × ((j : ℕ) → j < l.long → Comes b j r → r.megacell ≡ m → record_of b m ≡ Some r)
