use Rattle.std.proofs.Common.{get_or, sym, subst, arith, rules}
use Rattle.sheet.specs.Sheets.{spaced}
use Rattle.sheet.specs.Writing.{Room}
use Rattle.sheet.proofs.Splicing.{put_as, put_next, room_next}
use Rattle.sheet.proofs.Wording.{begun_more, begun_all, number_room}
use Rattle.sheet.proofs.lines.Line.put.Goals as goal

pub put_spaced-at-requires : goal.put_spaced-at-requires
put_spaced-at-requires g c =
    let line = c.args.self.now in
    let i = c.loop-number.number-index in
    room_next (spaced (get_or line.numbers i 0)) (number_room c.args.out.now line.word.now line.numbers i (omega arith) c.requires) c.loop-number.invariant

pub loop-number-preserved : goal.loop-number-preserved
loop-number-preserved g c =
    let line = c.args.self.now in
    let i = c.loop-number.number-index in
    put_as (begun_more line.word.now line.numbers i (omega arith))
    (put_next (number_room c.args.out.now line.word.now line.numbers i (omega arith) c.requires) c.loop-number.invariant c.put_spaced-at.ensures)

pub returns : goal.returns
returns g c =
    let line = c.args.self.now in
    let all = begun_all line.word.now line.numbers c.loop-number.number-index (omega arith) in
    put_as all
    (put_next (subst (λ w. Room c.args.out.now w) (sym all) c.requires) c.loop-number.invariant (search rules))
