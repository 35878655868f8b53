use Rattle.std.proofs.Common.{◌≡◌, ℕ, ◌%◌, sym, ap, ◌∙◌, arith}
use Rattle.frame.specs.Frames.{times}
use Rattle.frame.specs.Repeating.{times_none, times_more}
use Rattle.frame.proofs.turn.Turn.repeat.Goals as goal

pub loop-init : goal.loop-init
loop-init g c = λ f is. sym (times_none f _)

pub loop-preserved : goal.loop-preserved
loop-preserved g c = λ f is. is _ _ c.step-last.ensures ∙ ap f (c.loop.invariant f is) ∙ sym (times_more _ f _)

pub returns : goal.returns
returns g c = λ f is.
    let all : c.loop.counter ≡ c.args.self.now.quarters % 4 = omega arith in
    c.loop.invariant f is ∙ ap (λ (n : ℕ). times n f c.args.start) all
