use Rattle.std.proofs.Common.{arith, rules}
use Rattle.sheet.proofs.Numbers.{one_digit, digits_by}
use Rattle.sheet.proofs.text.digits.Goals as goal

pub returns-in-Some-clause-is : goal.returns-in-Some-clause-is
returns-in-Some-clause-is c = search (rules, digits_by)

pub returns-in-None-clause-is : goal.returns-in-None-clause-is
returns-in-None-clause-is c = one_digit c.args.number (omega (arith, c.in-None.ensures.none))
