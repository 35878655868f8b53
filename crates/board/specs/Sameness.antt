-- Sameness of headings and of squares holds both ways round, and along a chain.
use Rattle.std.specs.Prelude.{ℕ}
use Rattle.std.specs.Cmp.{IsPartialEquivalence}
use Rattle.std.specs.Cmp.Rules.{comparing}
use Rattle.std.proofs.Common.{rules}
use Rattle.board.specs.Headings.{same_heading}
use Rattle.board.specs.Squares.{same_square}

pub headings_alike : IsPartialEquivalence same_heading
unfolding same_heading
headings_alike = search (comparing, rules)

pub squares_alike : (side : ℕ) → IsPartialEquivalence (same_square {side = side})
unfolding same_square
squares_alike side = search (comparing, rules)
