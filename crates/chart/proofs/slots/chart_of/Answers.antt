use Rattle.std.proofs.Common.{◌≡◌, ℕ, List, [], ◌∷◌, ◌++◌, length, replicate, sym, refl, ap, ◌∙◌, arith, rules, length-append, None}
use Rattle.std.proofs.lemmas.Fn.{chained_keeps}
use Rattle.std.proofs.lemmas.List.{replicate-append-replicate}
use Rattle.chart.specs.Charts.{Slot}
use Rattle.chart.proofs.slots.chart_of.Goals as goal

pub returns : goal.returns
returns g c =
    let made = c.in_ok-resize_with.ensures.items in
    let empty : made.0 ≡ replicate (length made.0) None = chained_keeps _ (λ (xs : List (Slot g.row.T.Denot)) q. xs ≡ replicate (length xs) None) (λ xs q x v e s.
    let blank : x ≡ None = search rules in
    ap (λ (ys : List (Slot g.row.T.Denot)). ys ++ (x ∷ [])) e
    ∙ ap (λ (y : Slot g.row.T.Denot). replicate (length xs) None ++ (y ∷ [])) blank
    ∙ replicate-append-replicate (length xs) 1 None
    ∙ ap (λ (n : ℕ). replicate n None) (sym (length-append xs (x ∷ [])))) made.0 _ _ refl made.3 in
    let whole : c.resize_with.new.self.items ≡ made.0 = rw c.new-chart.ensures.items at made.2 in
    let size : length c.resize_with.new.self.items ≡ 4096 = omega (arith, c.resize_with.new.self.ok.0, c.in_ok-resize_with.ensures.len) in
    whole ∙ empty ∙ ap (λ (n : ℕ). replicate n None) (sym (ap length whole) ∙ size)
