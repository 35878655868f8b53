use Rattle.std.proofs.Common.{◌≡◌, true, false, length, arith, rules, tests}
use Rattle.std.proofs.lemmas.Iterator.{first_from_Range}
use Rattle.firsts.proofs.Firsts.{first_found}
use Rattle.map_format.specs.Rows.{bad_row}
use Rattle.map_format.proofs.rows.Rows.first_bad.Goals as goal

pub returns-clause-is : goal.returns-clause-is
returns-clause-is c =
    let m = c.args.self.now.map.now in
    let found = first_found (bad_row m) 0 (length m) _ (omega arith) (λ k h. absurd (omega arith)) (first_from_Range _ _ _ _ (λ k. bad_row m k ≡ true) (λ k. bad_row m k ≡ false) c.find.ensures.ran (λ x q k. search (rules, tests)) (λ x q k. search (rules, tests))) in
    search (rules, found)
