-- The levels of the ten digits.
use Rattle.std.proofs.Common.{◌≡◌, ℕ, zero, suc, ◌*◌, ◌<◌, false, refl, arith}
use lib.Ieee.{binary32, mul, of_int, of_bits}
use lib.Ieee.Exact.{HasValue}
use Rattle.drawn_floor.specs.Lights.{lux, twelve_and_half}

-- what the literal 12.5 is in a goal
pub the_literal : of_bits binary32 1095237632 ≡ twelve_and_half
unfolding of_bits
the_literal = refl

-- the ten products, none rounded: 25 d / 2
pub exact_ten : (d : ℕ) → d < 10 → HasValue (lux d) false (25 * d) 2
unfolding mul of_int
exact_ten zero h = (refl, refl)
exact_ten (suc zero) h = (refl, refl)
exact_ten (suc (suc zero)) h = (refl, refl)
exact_ten (suc (suc (suc zero))) h = (refl, refl)
exact_ten (suc (suc (suc (suc zero)))) h = (refl, refl)
exact_ten (suc (suc (suc (suc (suc zero))))) h = (refl, refl)
exact_ten (suc (suc (suc (suc (suc (suc zero)))))) h = (refl, refl)
exact_ten (suc (suc (suc (suc (suc (suc (suc zero))))))) h = (refl, refl)
exact_ten (suc (suc (suc (suc (suc (suc (suc (suc zero)))))))) h = (refl, refl)
exact_ten (suc (suc (suc (suc (suc (suc (suc (suc (suc zero))))))))) h = (refl, refl)
exact_ten (suc (suc (suc (suc (suc (suc (suc (suc (suc (suc d)))))))))) h = absurd (omega arith)
