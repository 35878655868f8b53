use Rattle.std.proofs.Common.{◌≡◌, drop, rules, tests, arith}
use Rattle.std.proofs.lemmas.Grind.{common_steps}
use Rattle.std.proofs.lemmas.Iterator.{IsFirst-from_position, YieldsList-from_slice}
use Rattle.map_format.proofs.Found.{found_from}
use Rattle.map_format.proofs.bytes.first_from.Goals as goal

pub returns-clause-is : goal.returns-clause-is
returns-clause-is c =
    let b = c.args.byte in
    let f = found_from c.args.map.now b c.args.from _ c.requires (IsFirst-from_position _ _ _ (λ x. x ≡ b) (λ x. x ≡ b → ⊥) c.position.ensures.ran (YieldsList-from_slice (drop c.args.from c.args.map.now) (grind (arith, common_steps))) (λ x q k. search (rules, tests)) (λ x q k. search (rules, tests))) in
    search (rules, f)
