use Rattle.sheet.specs.Writing.{Put}
use Rattle.sheet.proofs.Wording.{begun}
use Rattle.sheet.proofs.lines.Line.put.Given as goal

abbrev pub invariant-loop-number : goal.invariant-loop-number
invariant-loop-number g l = Put l.fn.out (begun l.self.word.now l.number-items l.number-index) l.out l.at
