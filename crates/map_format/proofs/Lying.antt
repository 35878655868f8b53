-- Rows begin where the rules say.
use Rattle.std.proofs.Common.{◌≡◌, ℕ, zero, suc, ◌+◌, ◌-◌, ◌*◌, ◌/◌, ◌%◌, ◌<◌, ◌≤◌, false, List, length, get_or, sym, ap, ◌∙◌, subst, inl, inr, add-mul, add-one, arith}
use Rattle.std.proofs.lemmas.Bool.{cases_lt}
use Rattle.std.proofs.lemmas.Nat.{div-add-mod', mod_below, mul-le}
use Rattle.map_format.specs.Rows.{width, row_at, bad_row}
use Rattle.map_format.specs.Layout.{Begins, RowsLie}
use Rattle.map_format.proofs.Rowing.{Ends, row_ends}

next_row : (j q : ℕ) → (j + 1) * q ≡ j * q + q
next_row j q = let e = add-mul j 1 q in omega arith

row_below : (j k q : ℕ) → j < k → j * q + q ≤ k * q
row_below j k q h = let e = mul-le (j + 1) q k q (omega arith) (omega arith) in let n = next_row j q in omega arith

row_good : (m : List ℕ) (k j : ℕ) → ((i : ℕ) → i < k → bad_row m i ≡ false) → row_at m k ≤ length m → j < k → Ends m (width m) (row_at m j)
row_good m k j f l h =
    let b = row_below j k (width m + 1) h in
    (row_ends m j (omega arith) (f j h)).1

begins : (m : List ℕ) (k : ℕ) → ((i : ℕ) → i < k → bad_row m i ≡ false) → row_at m k ≤ length m → (j : ℕ) → j ≤ k → Begins m (row_at m j)
begins m k f l zero h = inl (omega arith)
begins m k f l (suc j) h =
    let e = (row_good m k j f l (omega arith)).end in
    let n : suc j * (width m + 1) ≡ j * (width m + 1) + (width m + 1) = ap (λ i. i * (width m + 1)) (sym (add-one j)) ∙ next_row j (width m + 1) in
    let at : j * (width m + 1) + width m ≡ suc j * (width m + 1) - 1 = omega arith in
    inr (omega arith, subst (λ i. get_or m i 0 ≡ 10) at e)

found : (m : List ℕ) (k : ℕ) → ((i : ℕ) → i < k → bad_row m i ≡ false) → row_at m k ≤ length m → (o : ℕ) → o ≤ row_at m k → Begins m o → (j : ℕ) × (j ≤ k) × (o ≡ row_at m j)
found m k f l o h b =
    let q = width m + 1 in
    let split : o / q * q + o % q ≡ o = div-add-mod' o q in
    let below : o % q < q = mod_below o q (omega arith) in
    elim (cases_lt 0 (o % q)) [
      | inl p ↦
          elim (cases_lt (o / q) k) [
            | inl t ↦
                let e = row_good m k (o / q) f l t in
                absurd (elim b [ inl z ↦ omega arith | inr y ↦ e.clear (o - 1) (omega arith) (omega arith) y.1 ])
            | inr t ↦ let n = mul-le k q (o / q) q t (omega arith) in absurd (omega arith)
          ]
      | inr p ↦
          elim (cases_lt k (o / q)) [
            | inl t ↦ let n = row_below k (o / q) q t in absurd (omega arith)
            | inr t ↦ (o / q, t, omega arith)
          ]
    ]

pub rows_lie : RowsLie
rows_lie m k f l = (begins m k f l, found m k f l)
