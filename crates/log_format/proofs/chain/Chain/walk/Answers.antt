use Rattle.std.proofs.Common.{sym, ◌∙◌, rules}
use Rattle.log_format.proofs.Walking.{walking_start, walked_refused, walked_again, walked_end, walking_more, walking_less}
use Rattle.log_format.proofs.chain.Chain.walk.Goals as goal

pub loop-index-init : goal.loop-index-init
loop-index-init c = walking_start c.args.self.now.headed c.none-told.ensures

pub returns-in_err-record : goal.returns-in_err-record
returns-in_err-record c =
    let k = walked_refused c.args.self.now.headed c.loop-index.invariant.1 c.loop-index-test.true (sym c.in_err-record.was ∙ c.led.ensures) in
    search rules

pub returns-in_err-mark : goal.returns-in_err-mark
returns-in_err-mark c =
    let k = walked_again c.args.self.now.headed c.loop-index.invariant.1 c.loop-index-test.true (sym c.in_ok-record.was ∙ c.led.ensures) c.in_err-mark.ensures.0 in
    search rules

pub loop-index-smaller : goal.loop-index-smaller
loop-index-smaller c = walking_less c.in_ok-record.record.megacell c.loop-index.invariant c.in_ok-mark.ensures.0 c.in_ok-mark.ensures.1

pub loop-index-preserved : goal.loop-index-preserved
loop-index-preserved c = walking_more c.args.self.now.headed c.loop-index.invariant c.loop-index-test.true (sym c.in_ok-record.was ∙ c.led.ensures) c.in_ok-mark.ensures.0 c.in_ok-mark.ensures.1

pub returns-then-has : goal.returns-then-has
returns-then-has c =
    let k = walked_end c.args.self.now.headed c.loop-index.invariant.1 c.loop-index-test.false (sym c.has.ensures ∙ c.if-has.true) in
    record { is = k.0; ends = k.1 }

pub returns-else-has : goal.returns-else-has
returns-else-has c =
    let k = walked_end c.args.self.now.headed c.loop-index.invariant.1 c.loop-index-test.false (sym c.has.ensures ∙ c.if-has.false) in
    record { is = k.0; ends = k.1 }
