-- What `new` answers, where the numbers are those of a known square.
use Rattle.std.proofs.Common.{◌≡◌, ℕ, Some, Option, ap, ◌∙◌}
use Rattle.std.specs.Option.{is_some, IsSome}
use Rattle.board.specs.declared.square.Square.{Square}
use Rattle.board.specs.Squares.{squared}
use Rattle.board.proofs.Geometry.{squared_at}

pub made : {side : ℕ} (t s : Square side) (r c : ℕ) (o : Option (Square side)) → o ≡ squared side r c → r ≡ t.row → c ≡ t.column → o ≡ Some s → s ≡ t
made t s r c o e a b is = let k = squared_at r c t a b in cc

pub there : {side : ℕ} (t : Square side) (r c : ℕ) (o : Option (Square side)) → o ≡ squared side r c → r ≡ t.row → c ≡ t.column → IsSome o
there t r c o e a b = ap is_some (e ∙ squared_at r c t a b)
