-- The digit that a byte is.
use Rattle.std.proofs.Common.{◌≡◌, ℕ, ◌-◌, ◌<◌, ◌≤◌, Bool, true, false, T, leb, Some, ap, le→leb, leb→le}
use mathlib.Core.HLevel.{is_prop→PathP}
use native.Mathlib.Bridge.{le_prop}
use Rattle.map_format.specs.declared.digit.Digit.{Digit}
use Rattle.map_format.specs.Cells.{digit_by, digit_of, from_zero}

digit_path : (d e : Digit) → d.value ≡ e.value → d ≡ e
digit_path d e p = λ i. record { value = p i; small = is_prop→PathP (λ k. p k < 10) (λ k. le_prop) d.small e.small i }

digit_by_in : (b : ℕ) (d : Digit) (a c : Bool) (h : T c → b - 48 < 10) → T a → T c → b - 48 ≡ d.value → digit_by b a c h ≡ Some d
digit_by_in b d true true h s t e = ap Some (digit_path _ d e)
digit_by_in b d true false h s t e = elim t [ ]
digit_by_in b d false c h s t e = elim s [ ]

pub digit_in : (b : ℕ) (d : Digit) → 48 ≤ b → b ≤ 57 → b - 48 ≡ d.value → digit_of b ≡ Some d
unfolding digit_of
digit_in b d l h e = digit_by_in b d (leb 48 b) (leb b 57) (λ t. from_zero b (leb→le b 57 t)) (le→leb 48 b l) (le→leb b 57 h) e
