use Rattle.std.proofs.Common.{◌∙◌}
use Rattle.map_format.proofs.Drawn.{drawn_lies}
use Rattle.map_format.proofs.drawing.Drawing.of.Goals as goal

pub returns-clause-lies : goal.returns-clause-lies
returns-clause-lies c = drawn_lies _ c.args.start _ (c.of.ensures ∙ c.draw.ensures) c.megacell_of.ensures c.requires.accepted c.requires.first
