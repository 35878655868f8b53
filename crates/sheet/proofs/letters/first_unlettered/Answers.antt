use Rattle.std.proofs.Common.{◌≡◌, not, rules, tests}
use Rattle.std.specs.List.{position}
use Rattle.std.proofs.lemmas.Iterator.{YieldsList-from_slice}
use Rattle.std.proofs.lemmas.Iterator.Search.{position_from_yields_List}
use Rattle.sheet.specs.Refusing.{is_letter}
use Rattle.sheet.proofs.Lettering.{first_told}
use Rattle.sheet.proofs.letters.first_unlettered.Goals as goal

pub returns : goal.returns
returns c =
    let found : c.position.result ≡ position (λ b. not (is_letter b)) c.args.tour.now =
    position_from_yields_List (λ b. not (is_letter b)) _ _ c.position.result c.position.ensures.ran (YieldsList-from_slice c.args.tour.now cc) (λ x b q k. search (rules, tests)) in
    first_told c.args.tour.now _ (search (rules, found))
