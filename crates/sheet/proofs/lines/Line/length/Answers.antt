use Rattle.std.proofs.Common.{[], ◌∷◌, length, ap, arith, length-append}
use Rattle.sheet.proofs.Wording.{begun, begun_all, length_more}
use Rattle.sheet.proofs.lines.Line.length.Goals as goal

pub loop-number-preserved : goal.loop-number-preserved
loop-number-preserved g c =
    let line = c.args.self.now in
    let i = c.loop-number.number-index in
    record {
      counted = omega (arith, length_more line.word.now line.numbers i (omega arith), c.digits.ensures.is);
      few = omega arith;
    }

pub returns-clause-is : goal.returns-clause-is
returns-clause-is g c =
    let line = c.args.self.now in
    let i = c.loop-number.number-index in
    let whole = ap length (begun_all line.word.now line.numbers i (omega arith)) in
    omega (arith, whole, length-append (begun line.word.now line.numbers i) (10 ∷ []))
