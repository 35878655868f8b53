-- The chain of a log: the records in the order in which each names the next, from the one that the header names.
use Rattle.std.specs.Prelude.{◌≡◌, ℕ, zero, suc, Bool, true, false, cond, not, List, is_some, Some, None, Ok, Err, Option, Result, ◌==◌, nat_lt}
use Rattle.board.specs.Squares.{Megacell, same_square}
use Rattle.firsts.specs.First.{first}
use Rattle.log_record.specs.declared.faults.LogFault.{LogFault}
use Rattle.log_record.specs.declared.faults.LogFault.TheVariants.{IndexBeyond, BadRecord, SecondRecord}
use Rattle.log_record.specs.declared.header.Header.{Header}
use Rattle.log_record.specs.declared.record.Record.{Record}
use Rattle.log_record.specs.Layout.{two, header_of, record_at}

abbrev pub next_of : Option Record → ℕ
next_of (Some r) = r.next
next_of None = 0

-- the index that record k holds; record 0 is the header, which holds that of the first
abbrev pub held : List ℕ → ℕ → ℕ
held b zero = two b 2
held b (suc k) = next_of (record_at b (suc k))

-- Step j follows one index: the record that holds it (the header in step 0), and the index itself.
abbrev pub holder : List ℕ → ℕ → ℕ
holder b zero = 0
holder b (suc j) = held b (holder b j)

abbrev pub index : List ℕ → ℕ → ℕ
index b j = held b (holder b j)

abbrev pub tells_of : Option Record → Megacell → Bool
tells_of (Some r) m = same_square r.megacell m
tells_of None m = false

-- step j comes to a record of a megacell
abbrev pub comes_to : List ℕ → Megacell → ℕ → Bool
comes_to b m j = tells_of (record_at b (index b j)) m

-- a step before step j does
abbrev pub visited : List ℕ → Megacell → ℕ → Bool
visited b m j = is_some (first (comes_to b m) j)

abbrev pub or_bad : ℕ → Option Record → Result Record LogFault
or_bad k (Some r) = Ok r
or_bad k None = Err (BadRecord k)

-- the record that an index leads to in a log of n records; refused, with the index's holder, over n, and then where it is no record
abbrev pub led : List ℕ → ℕ → ℕ → ℕ → Result Record LogFault
led b n from to = cond (nat_lt n to) (Err (IndexBeyond from)) (or_bad to (record_at b to))

abbrev pub unless_visited : List ℕ → ℕ → Result Record LogFault → Result (Option Record) LogFault
unless_visited b j (Ok r) = cond (visited b r.megacell j) (Err (SecondRecord (index b j))) (Ok (Some r))
unless_visited b j (Err e) = Err e

-- what step j gives: the record that it comes to, none at the chain's end, or a refusal
unfoldable pub step_of : List ℕ → ℕ → Result (Option Record) LogFault
step_of b j = cond (index b j == 0) (Ok None) (unless_visited b j (led b (two b 0) (holder b j) (index b j)))

abbrev pub goes_on : Result (Option Record) LogFault → Bool
goes_on (Ok (Some r)) = true
goes_on (Ok None) = false
goes_on (Err e) = false

-- step j ends the chain, or is refused
abbrev pub stops : List ℕ → ℕ → Bool
stops b j = not (goes_on (step_of b j))

abbrev pub or_at : Option ℕ → ℕ → ℕ
or_at (Some k) n = k
or_at None n = n

-- the first step that stops: 1,024 at the latest, since every step before it comes to another megacell
unfoldable pub stop : List ℕ → ℕ
stop b = or_at (first (stops b) 1024) 1024

-- it does stop there, in every log that has a header
abbrev pub EndsInTime : List ℕ → Type 0
EndsInTime b = (h : Header) → header_of b ≡ Ok h → stops b (stop b) ≡ true
