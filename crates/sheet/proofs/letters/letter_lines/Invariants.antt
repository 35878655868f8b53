use Rattle.std.proofs.Common.{◌≡◌}
use Rattle.std.specs.Slice.Iter.{chunks_rest, chunks_size}
use Rattle.sheet.proofs.Lining.{Laid}
use Rattle.sheet.proofs.letters.letter_lines.Given as goal

abbrev pub invariant-loop-line : goal.invariant-loop-line
invariant-loop-line l = record {
  can : goal.iterator-loop-line.can_next l.line-iterator;
  ends : goal.iterator-loop-line.is_finite l.line-iterator;
  size : chunks_size l.line-iterator ≡ 64;
  laid : Laid l.fn.out l.letters (chunks_rest l.line-iterator) l.out l.at;
}
