use Rattle.std.proofs.Common.{◌^◌, ◌<◌, ◌+◌, ◌%◌, [], ◌∷◌, arith, rules}
use Rattle.std.proofs.lemmas.Fmt.{decimal_digit, decimal_step}
use Rattle.sheet.proofs.Numbers.{one_digit, more_digits}
use Rattle.sheet.proofs.Splicing.{put_next, room_next}
use Rattle.sheet.proofs.text.+put_number.Goals as goal

pub put_byte-requires : goal.put_byte-requires
put_byte-requires t c = omega (arith, one_digit c.args.number c.if-number-lt10.true, c.requires)

pub returns-then-number-lt10 : goal.returns-then-number-lt10
returns-then-number-lt10 t c = rw (decimal_digit c.args.number c.if-number-lt10.true) c.put_byte.ensures

pub put_number-at-requires : goal.put_number-at-requires
put_number-at-requires t c =
    let fits : c.args.number < 2 ^ 64 = search rules in
    (search rules, omega (arith, more_digits c.args.number c.if-number-lt10.false fits, c.requires))

pub put_byte-requires-2 : goal.put_byte-requires-2
put_byte-requires-2 t c =
    let fits : c.args.number < 2 ^ 64 = search rules in
    room_next ((48 + c.args.number % 10) ∷ []) (rw (decimal_step c.args.number c.if-number-lt10.false fits) at c.requires) c.put_number-at.ensures

pub returns : goal.returns
returns t c =
    let fits : c.args.number < 2 ^ 64 = search rules in
    let digits = decimal_step c.args.number c.if-number-lt10.false fits in
    rw digits (put_next (rw digits at c.requires) c.put_number-at.ensures (search rules))
