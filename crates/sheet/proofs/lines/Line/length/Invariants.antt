use Rattle.std.proofs.Common.{◌≡◌, ◌+◌, ◌*◌, ◌≤◌, length}
use Rattle.sheet.proofs.Wording.{begun}
use Rattle.sheet.proofs.lines.Line.length.Given as goal

abbrev pub invariant-loop-number : goal.invariant-loop-number
invariant-loop-number g l = record {
  counted : l.total ≡ length (begun l.self.word.now l.number-items l.number-index);
  few : l.total ≤ length l.self.word.now + 21 * l.number-index;
}
