-- The first byte that is no letter, from the position that a search tells.
use Rattle.std.proofs.Common.{◌≡◌, ℕ, Bool, cond, not, inl, inr, List, length, get_or, Some, None, Option, sym, ap, ◌∙◌, arith}
use Rattle.std.specs.List.{position, position_or_len}
use Rattle.std.proofs.lemmas.Bool.{cases_lt, lt-ltb, le-ltb}
use Rattle.std.proofs.lemmas.List.Sums.{fails_before_first, passes_at_first}
use Rattle.firsts.specs.First.{first}
use Rattle.firsts.proofs.Firsts.{first_none, first_here}
use Rattle.sheet.specs.Refusing.{is_letter, no_letter}

position_first : (p : ℕ → Bool) (xs : List ℕ) → position p xs ≡ first (λ i. p (get_or xs i 0)) (length xs)
position_first p xs =
    elim (cases_lt (position_or_len p xs) (length xs)) [
      | inl h ↦ ap (λ b. cond b (Some (position_or_len p xs)) None) (lt-ltb _ _ h)
          ∙ sym (first_here (λ i. p (get_or xs i 0)) (position_or_len p xs) (length xs) (first_none _ _ (λ k l. fails_before_first p xs k 0 l)) (passes_at_first p xs 0 h) h)
      | inr h ↦ ap (λ b. cond b (Some (position_or_len p xs)) None) (le-ltb _ _ h)
          ∙ sym (first_none (λ i. p (get_or xs i 0)) (length xs) (λ k l. fails_before_first p xs k 0 (omega arith)))
    ]

pub first_told : (tour : List ℕ) (r : Option ℕ) → r ≡ position (λ b. not (is_letter b)) tour → r ≡ first (no_letter tour) (length tour)
first_told tour r e = e ∙ position_first (λ b. not (is_letter b)) tour
