use Rattle.std.proofs.Common.{List, ap, ◌∙◌, set}
use Rattle.board.specs.Squares.{number_of}
use Rattle.sweep.specs.declared.mark.Mark.{Mark}
use Rattle.sweep.specs.declared.mark.Mark.TheVariants.{Root}
use Rattle.sweep.proofs.Following.{fresh_marks_stand}
use Rattle.sweep.proofs.marks.Marks.fresh.Goals as goal

pub returns : goal.returns
returns c = fresh_marks_stand c.args.start c.megacell.ensures (c.set.ensures ∙ ap (λ (xs : List Mark). set xs (number_of c.megacell.result) Root) c.of.ensures)
