use Rattle.std.proofs.Common.{◌≡◌, ◌∙◌, subst, arith, rules}
use Rattle.std.proofs.lemmas.Grind.{common_steps}
use Rattle.sheet.specs.Sheets.{worded}
use Rattle.sheet.specs.Writing.{Room}
use Rattle.sheet.proofs.Splicing.{lent_from, put_as}
use Rattle.sheet.proofs.Lining.{letters_line, no_numbers, laid_fits, line_room, laid_more, laid_all}
use Rattle.sheet.proofs.letters.letter_lines.Goals as goal

pub slice_bounds-put-count : goal.slice_bounds-put-count
slice_bounds-put-count c = omega (arith, laid_fits c.requires c.loop-line.invariant.laid)

pub put-at-requires : goal.put-at-requires
put-at-requires c =
    let room = line_room c.in-Some.line.now _ c.requires c.loop-line.invariant.laid c.loop-line.invariant.size c.in-Some.ensures.steps.1 in
    let line : letters_line c.in-Some.line.now ≡ worded c.new.result.word.now c.new.result.numbers = grind (arith, common_steps, no_numbers) in
    (search rules, subst (λ w. Room (lent_from c.loop-line.at c.loop-line.out) w) line room)

pub loop-line-preserved : goal.loop-line-preserved
loop-line-preserved c =
    let line : worded c.new.result.word.now c.new.result.numbers ≡ letters_line c.in-Some.line.now = grind (arith, common_steps, no_numbers) in
    record {
      can = search rules;
      ends = tt;
      size = c.in-Some.ensures.steps.0 ∙ c.loop-line.invariant.size;
      laid = laid_more c.in-Some.line.now _ c.requires c.loop-line.invariant.laid c.loop-line.invariant.size c.in-Some.ensures.steps.1 (put_as line c.put-at.ensures);
    }

pub returns : goal.returns
returns c = laid_all c.in-None.ensures.steps.1.0 c.loop-line.invariant.laid
