use Rattle.std.proofs.Common.{arith}
use Rattle.sheet.specs.Sheets.{worded}
use Rattle.sheet.proofs.Lining.{length_around}
use Rattle.sheet.proofs.content.Content.length.Goals as goal

pub returns : goal.returns
returns c =
    let start = c.args.self.now.start in
    let ending = c.args.self.now.ending in
    omega (arith, length_around (worded start.word.now start.numbers) c.args.self.now.tour.now (worded ending.word.now ending.numbers), c.length.ensures.is, c.length-2.ensures.is)
