-- What record k of a log is.
use Rattle.std.proofs.Common.{◌≡◌, ℕ, zero, suc, ◌+◌, ◌-◌, ◌*◌, ◌<◌, false, eqb, ◌⊎◌, List, length, take, drop, None, Option, refl, ◌∙◌, inl, inr, arith, length-drop, length-take}
use Rattle.std.proofs.lemmas.Bool.{ne_eqb}
use Rattle.log_record.specs.declared.record.Record.{Record}
use Rattle.log_record.specs.Layout.{recorded, record_at}

-- no record in fewer bytes than 16
too_few : (b : List ℕ) → length b < 16 → None ≡ recorded b
too_few b h = let e : eqb (length b) 16 ≡ false = ne_eqb _ _ (λ q. omega arith) in simp e

-- none before the first, and none past the end
pub missing : (b : List ℕ) (k : ℕ) → (k ≡ 0) ⊎ (length b < 8 + 16 * k) → None ≡ record_at b k
unfolding record_at
missing b zero h = refl
missing b (suc k) (inl z) = absurd (omega arith)
missing b (suc k) (inr h) = too_few (take 16 (drop (8 + 16 * k) b)) (simp (length-take, length-drop) (omega arith))

-- the 16 bytes that end at 8 + 16 k
pub there : (b : List ℕ) (k : ℕ) (r : Option Record) → (k ≡ 0 → ⊥) → r ≡ recorded (take (8 + 16 * k - (8 + 16 * k - 16)) (drop (8 + 16 * k - 16) b)) → r ≡ record_at b k
unfolding record_at
there b zero r z e = absurd (z refl)
there b (suc k) r z e =
    let o : 8 + 16 * suc k - 16 ≡ 8 + 16 * k = omega arith in
    let n : 8 + 16 * suc k - (8 + 16 * k) ≡ 16 = omega arith in
    e ∙ simp (o, n)
