-- Worked logs, and what the rules say of each.
use Rattle.std.specs.Prelude.{◌≡◌, ℕ, List, [], ◌∷◌, Some, None, Option}
use Rattle.fault.specs.declared.layer.Layer.TheVariants.{Log}
use Rattle.fault.specs.declared.refusal.Refusal.{Refusal}
use Rattle.fault.specs.Refusals.{refused}
use Rattle.log_record.specs.declared.faults.LogFault.{LogFault}
use Rattle.log_record.specs.Faults.{told}
use Rattle.log_format.specs.Log.{refusal}

-- what the refusal of some bytes tells, if they are refused
abbrev pub told_of : Option LogFault → Option Refusal
told_of (Some e) = Some (told e)
told_of None = None

abbrev pub Refused : List ℕ → ℕ → ℕ → Type 0
Refused b number place = told_of (refusal b) ≡ Some (refused number Log place)

abbrev pub Accepted : List ℕ → Type 0
Accepted b = told_of (refusal b) ≡ None

-- a record of megacell (0, column) with a next index and sides, and counts of 4, 8, 12 and 16 quarters of a lux
abbrev pub record_bytes : ℕ → ℕ → ℕ → List ℕ → List ℕ
record_bytes next column sides rest = 0 ∷ next ∷ 0 ∷ column ∷ sides ∷ 0 ∷ 0 ∷ 0 ∷ 0 ∷ 4 ∷ 0 ∷ 8 ∷ 0 ∷ 12 ∷ 0 ∷ 16 ∷ rest

-- one record, of megacell (0, 0), in which the start lies
abbrev pub alone : ℕ → ℕ → List ℕ
alone next sides = 0 ∷ 1 ∷ 0 ∷ 1 ∷ 1 ∷ 1 ∷ 0 ∷ 0 ∷ record_bytes next 0 sides []

-- two records, chained from the second to the first, which names a next one
abbrev pub pair : ℕ → List ℕ
pair next = 0 ∷ 2 ∷ 0 ∷ 2 ∷ 1 ∷ 1 ∷ 0 ∷ 0 ∷ record_bytes next 0 2 (record_bytes 1 1 8 [])

pub record Known : Type 0 where
  pub eight_zero_bytes : Refused (0 ∷ 0 ∷ 0 ∷ 0 ∷ 0 ∷ 0 ∷ 0 ∷ 0 ∷ []) 12 0
  pub first_index_one : Refused (0 ∷ 0 ∷ 0 ∷ 1 ∷ 0 ∷ 0 ∷ 0 ∷ 0 ∷ []) 9 0
  pub next_is_itself : Refused (alone 1 0) 11 1
  pub no_byte : Refused [] 7 0
  pub start_off_the_board : Refused (0 ∷ 0 ∷ 0 ∷ 0 ∷ 64 ∷ 0 ∷ 0 ∷ 0 ∷ []) 8 0
  pub next_past_the_last : Refused (alone 2 0) 9 1
  pub sides_sixteen : Refused (alone 0 16) 10 1
  -- the sides come before the index
  pub sides_before_next : Refused (alone 2 16) 10 1
  pub good : Accepted (alone 0 15)
  pub good_pair : Accepted (pair 0)
  -- in a ring the record come to again is named: the second, where the chain began
  pub ring_of_two : Refused (pair 2) 11 2
  pub back_to_the_first : Refused (pair 1) 11 1
