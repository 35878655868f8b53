use Rattle.std.proofs.Common.{sym, arith}
use Rattle.map_format.proofs.Digits.{digit_in}
use Rattle.map_format.proofs.digit.Digit.of_byte.Goals as goal

pub returns-then-byte-le57 : goal.returns-then-byte-le57
returns-then-byte-le57 c = sym (digit_in c.args.byte _ (omega arith) (omega arith) (omega arith))
