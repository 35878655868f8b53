-- How many elements of a list pass a test.
use Rattle.std.specs.Prelude.{ℕ, ◌+◌, Bool, true, false, List, [], ◌∷◌}

unfoldable pub bit : Bool → ℕ
bit true = 1
bit false = 0

unfoldable pub many : {A : Type 0} → (A → Bool) → List A → ℕ
many f [] = 0
many f (x ∷ xs) = bit (f x) + many f xs
