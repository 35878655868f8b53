-- What a loop that looks for the first number with a property has to show, and what its answer tells.
use Rattle.std.proofs.Common.{◌≡◌, ℕ, zero, suc, ◌+◌, ◌<◌, ◌≤◌, Bool, true, false, cond, Some, None, Option, sym, refl, subst, inl, inr, add-one, arith}
use Rattle.std.proofs.lemmas.Bool.{cases_lt}
use Rattle.std.specs.Option.{MatchOption}
use Rattle.firsts.specs.First.{first, or_else}

suc_more : (P : ℕ → Bool) (n : ℕ) → first P n ≡ None → P n ≡ false → first P (suc n) ≡ None
unfolding first
suc_more P n e f = simp (e, f)

suc_here : (P : ℕ → Bool) (n : ℕ) → first P n ≡ None → P n ≡ true → first P (suc n) ≡ Some n
unfolding first
suc_here P n e f = simp (e, f)

suc_kept : (P : ℕ → Bool) (n k : ℕ) → first P n ≡ Some k → first P (suc n) ≡ Some k
unfolding first
suc_kept P n k e = simp e

-- a loop's step, and its start
pub first_more : (P : ℕ → Bool) (n : ℕ) → first P n ≡ None → P n ≡ false → first P (n + 1) ≡ None
first_more P n e f = rw add-one (suc_more P n e f)

pub first_zero : (P : ℕ → Bool) → first P 0 ≡ None
unfolding first
first_zero P = refl

-- none before i, and i: the first
pub first_here : (P : ℕ → Bool) (i n : ℕ) → first P i ≡ None → P i ≡ true → i < n → first P n ≡ Some i
first_here P i zero e t h = absurd (omega arith)
first_here P i (suc n) e t h =
    elim (cases_lt i n) [ inl l ↦ suc_kept P n i (first_here P i n e t l) | inr l ↦ let s : i ≡ n = omega arith in subst (λ k. first P (suc k) ≡ Some i) s (suc_here P i e t) ]

-- what a loop needs that looks for the first number
pub ruleset looking = (first_zero, first_more, first_here)

-- no number from a to b passes
pub first_skip : (P : ℕ → Bool) (a b : ℕ) → first P a ≡ None → ((k : ℕ) → a ≤ k → k < b → P k ≡ false) → a ≤ b → first P b ≡ None
first_skip P a zero e f h = first_zero P
first_skip P a (suc b) e f h =
    elim (cases_lt a (suc b)) [ inl l ↦ suc_more P b (first_skip P a b e (λ k p q. f k p (omega arith)) (omega arith)) (f b (omega arith) (omega arith)) | inr l ↦ let s : a ≡ suc b = omega arith in subst (λ k. first P k ≡ None) s e ]

pub first_none : (P : ℕ → Bool) (n : ℕ) → ((k : ℕ) → k < n → P k ≡ false) → first P n ≡ None
first_none P n f = first_skip P 0 n (first_zero P) (λ k p q. f k q) (omega arith)

-- the answer of a search from a on, where no number before a passes
pub first_found : (P : ℕ → Bool) (a n : ℕ) (o : Option ℕ) → a ≤ n → ((k : ℕ) → k < a → P k ≡ false) → MatchOption o ((k : ℕ) → a ≤ k → k < n → P k ≡ false) (λ i. (a ≤ i) × (i < n) × (P i ≡ true) × ((k : ℕ) → a ≤ k → k < i → P k ≡ false)) → o ≡ first P n
first_found P a n None l f h = sym (first_skip P a n (first_none P a f) h l)
first_found P a n (Some i) l f h = sym (first_here P i n (first_skip P a i (first_none P a f) h.3 h.0) h.2 h.1)

abbrev Told : (ℕ → Bool) → ℕ → Option ℕ → Type 0
Told P n (Some k) = (k < n) × (P k ≡ true) × ((j : ℕ) → j < k → P j ≡ false)
Told P n None = (k : ℕ) → k < n → P k ≡ false

told_suc : (P : ℕ → Bool) (n : ℕ) (o : Option ℕ) (b : Bool) → P n ≡ b → Told P n o → Told P (suc n) (or_else o (cond b (Some n) None))
told_suc P n (Some k) b e h = (omega arith, h.1, h.2)
told_suc P n None true e h = (omega arith, e, h)
told_suc P n None false e h = λ k l. elim (cases_lt k n) [ inl q ↦ h k q | inr q ↦ let s : n ≡ k = omega arith in subst (λ j. P j ≡ false) s e ]

-- what the first number tells, and what it tells that there is none
pub told : (P : ℕ → Bool) (n : ℕ) → Told P n (first P n)
unfolding first
told P zero = λ k h. absurd (omega arith)
told P (suc n) = told_suc P n (first P n) (P n) refl (told P n)

pub first_some : (P : ℕ → Bool) (n k : ℕ) → first P n ≡ Some k → (k < n) × (P k ≡ true) × ((j : ℕ) → j < k → P j ≡ false)
first_some P n k e = subst (λ o. Told P n o) e (told P n)

pub first_none_at : (P : ℕ → Bool) (n k : ℕ) → first P n ≡ None → k < n → P k ≡ false
first_none_at P n k e h = subst (λ o. Told P n o) e (told P n) k h
