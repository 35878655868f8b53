-- What a search for a byte from an offset on finds.
use Rattle.std.proofs.Common.{◌≡◌, ℕ, ◌+◌, ◌-◌, ◌<◌, ◌≤◌, true, false, List, length, get_or, drop, Some, None, Option, subst, arith, get_or-drop, length-drop}
use Rattle.std.proofs.lemmas.Bool.Decides.{nat_tests}
use Rattle.std.specs.Option.{MatchOption, option_map}
use Rattle.std.specs.List.{AllWithin, HoldsAt}
use Rattle.firsts.proofs.Firsts.{first_found}
use Rattle.map_format.specs.Bytes.{stands, first_from}

stands_at : (m : List ℕ) (byte from k : ℕ) → from ≤ k → get_or m k 0 ≡ byte → stands m byte from k ≡ true
stands_at m byte from k l h = grind (arith, nat_tests)

stands_not : (m : List ℕ) (byte from k : ℕ) → from ≤ k → (get_or m k 0 ≡ byte → ⊥) → stands m byte from k ≡ false
stands_not m byte from k l h = grind (arith, nat_tests)

before : (m : List ℕ) (byte from k : ℕ) → k < from → stands m byte from k ≡ false
before m byte from k l = grind (arith, nat_tests)

not_there : (m : List ℕ) (byte from n : ℕ) → AllWithin (λ x. x ≡ byte → ⊥) (drop from m) 0 n → (k : ℕ) → from ≤ k → k < from + n → stands m byte from k ≡ false
not_there m byte from n h k l u =
    let at : from + (k - from) ≡ k = omega arith in
    stands_not m byte from k l (subst (λ j. get_or m j 0 ≡ byte → ⊥) at (subst (λ x. x ≡ byte → ⊥) (get_or-drop from m (k - from) 0) (h (k - from) 0 (omega arith) (omega arith))))

pub found_from : (m : List ℕ) (byte from : ℕ) (r : Option ℕ) → from ≤ length m → MatchOption r (AllWithin (λ x. x ≡ byte → ⊥) (drop from m) 0 (length (drop from m))) (λ i. (i < length (drop from m)) × HoldsAt (λ x. x ≡ byte) (drop from m) i × AllWithin (λ x. x ≡ byte → ⊥) (drop from m) 0 i) → option_map (λ i. from + i) r ≡ first_from m byte from
found_from m byte from None l h =
    let e = length-drop from m in
    first_found (stands m byte from) from (length m) None l (before m byte from) (λ k p q. not_there m byte from _ h k p (omega arith))
found_from m byte from (Some i) l h =
    let e = length-drop from m in
    first_found (stands m byte from) from (length m) (Some (from + i)) l (before m byte from) (omega arith, omega arith, stands_at m byte from (from + i) (omega arith) (subst (λ x. x ≡ byte) (get_or-drop from m i 0) (h.1 0)), λ k p q. not_there m byte from i h.2 k p q)
