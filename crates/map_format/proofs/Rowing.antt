-- Where the rows of a map end, and that the S of an accepted one is on the board.
use Rattle.std.proofs.Common.{◌≡◌, ℕ, ◌+◌, ◌*◌, ◌/◌, ◌%◌, ◌<◌, ◌≤◌, Bool, true, false, not, ◌&&◌, eqb, leb, List, length, get_or, Some, None, Option, sym, refl, subst, inl, inr, div-le_self, arith}
use Rattle.std.proofs.lemmas.Bool.{and_parts, and_cases, eqb-true, eqb-false, leb-true, le-leb, lt-ltb, both_ways}
use Rattle.std.proofs.lemmas.Nat.{div-add-mod', mod_below, div_below}
use Rattle.firsts.specs.First.{first}
use Rattle.map_format.specs.Bytes.{stands}
use Rattle.map_format.specs.Rows.{width, row_at, row_end, is_at, bad_row}
use Rattle.firsts.proofs.Firsts.{first_some, first_none_at}

-- a row that has the width ends there, and has no LF before
pub record Ends (m : List ℕ) (w o : ℕ) : Type 0 where
  pub end : get_or m (o + w) 0 ≡ 10
  pub clear : (i : ℕ) → o ≤ i → i < o + w → get_or m i 0 ≡ 10 → ⊥

ends_by : (m : List ℕ) (w o : ℕ) (r : Option ℕ) → row_end m o ≡ r → is_at r (o + w) ≡ true → Ends m w o
ends_by m w o (Some e) q h =
    let s : e ≡ o + w = eqb-true _ _ h in
    let f = first_some (stands m 10 o) (length m) (o + w) (subst (λ k. row_end m o ≡ Some k) s q) in
    record {
      end = eqb-true _ _ (and_parts (leb o (o + w)) _ f.1).1;
      clear = λ i p l t. elim (and_cases (leb o i) (eqb (get_or m i 0) 10) (f.2 i l)) [ inl u ↦ both_ways _ u (le-leb _ _ p) | inr u ↦ eqb-false _ _ u t ];
    }
ends_by m w o None q h = absurd (both_ways false refl h)

pub not_bad : (a b : Bool) → a ≡ true → a && not b ≡ false → b ≡ true
not_bad true true p q = refl
not_bad true false p q = absurd (both_ways true q refl)
not_bad false b p q = absurd (both_ways false refl p)

-- a row that is there and not bad has a width of at most 32, and its LF
pub row_ends : (m : List ℕ) (k : ℕ) → row_at m k < length m → bad_row m k ≡ false → (width m ≤ 32) × Ends m (width m) (row_at m k)
row_ends m k at b =
    let g = and_parts (leb (width m) 32) _ (and_parts (leb 1 (width m)) _ (not_bad _ _ (lt-ltb _ _ at) b)).1 in
    (leb-true _ _ g.0, ends_by m (width m) (row_at m k) (row_end m (row_at m k)) refl g.1)

-- the S of a map without a bad row and without a 33rd row is in one of 32 rows, and before its row's LF
pub start_inside : (m : List ℕ) (s : ℕ) → first (bad_row m) (length m) ≡ None → length m ≤ row_at m 32 → s < length m → get_or m s 0 ≡ 83 → (s / (width m + 1) < 32) × (s % (width m + 1) < width m) × (width m ≤ 32)
start_inside m s n l h is =
    let w = width m in
    let k = s / (w + 1) in
    let split : s / (w + 1) * (w + 1) + s % (w + 1) ≡ s = div-add-mod' s (w + 1) in
    let below : s % (w + 1) < w + 1 = mod_below s (w + 1) (omega arith) in
    let few : k ≤ s = div-le_self s (w + 1) in
    let b : bad_row m k ≡ false = first_none_at (bad_row m) (length m) k n (omega arith) in
    let g = row_ends m k (omega arith) b in
    let apart : s % (w + 1) ≡ w → ⊥ = λ q. let z : s ≡ k * (w + 1) + w = omega arith in let y : get_or m s 0 ≡ 10 = subst (λ v. get_or m v 0 ≡ 10) (sym z) g.1.end in omega arith in
    (div_below s (w + 1) 32 (omega arith) (omega arith), omega arith, g.0)
