use Rattle.std.proofs.Common.{◌≡◌}
use Rattle.frame.specs.Frames.{times}
use Rattle.frame.proofs.turn.Turn.repeat.Given as goal

abbrev pub invariant-loop : goal.invariant-loop
invariant-loop g l = (f : _ → _) → ((x y : _) → goal.F-post g l.step x y → y ≡ f x) → l.last ≡ times l.counter f l.initial.last
