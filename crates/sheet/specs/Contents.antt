-- The text of what a sheet says.
use Rattle.std.specs.Prelude.{ℕ, List, ◌++◌}
use Rattle.sheet.specs.Sheets.{worded, letter_lines}
use Rattle.sheet.specs.declared.content.Content.{Content}

abbrev pub text : Content → List ℕ
text c = worded c.start.word.now c.start.numbers ++ letter_lines c.tour.now ++ worded c.ending.word.now c.ending.numbers
