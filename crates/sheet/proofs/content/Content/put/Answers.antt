use Rattle.std.proofs.Common.{◌++◌}
use Rattle.sheet.specs.Sheets.{worded, letter_lines}
use Rattle.sheet.proofs.Splicing.{put_next, room_first}
use Rattle.sheet.proofs.content.Content.put.Goals as goal

pub returns : goal.returns
returns c =
    let start = c.args.self.now.start in
    let ending = c.args.self.now.ending in
    let front = room_first c.args.out.now (worded start.word.now start.numbers ++ letter_lines c.args.self.now.tour.now) (worded ending.word.now ending.numbers) c.requires in
    put_next c.requires (put_next front c.put-first.ensures c.letter_lines.ensures) c.put.ensures
