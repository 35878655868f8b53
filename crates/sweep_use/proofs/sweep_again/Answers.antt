use Rattle.std.proofs.Common.{◌≡◌, length, ap, ◌∙◌, inl, inr}
use Rattle.std.proofs.lemmas.Bool.{cases_lt}
use Rattle.sweep_use.proofs.sweep_again.Goals as goal

pub returns : goal.returns
returns g c =
    let G = g.R.Rover in
    let rover = c.end-given_back.result.0 in
    let begun = c.start-again.ensures.law in
    let kept : (G.floor c.advance-moved.new.self.rover ≡ G.floor rover) × (G.field c.advance-moved.new.self.rover ≡ G.field rover) =
    elim (cases_lt (length c.args.chart.now) 4096) [
      | inl h ↦ let j = c.advance-moved.ensures.short rover 0 h begun in (j.floor, j.field)
      | inr h ↦ let j = (c.advance-moved.ensures.law rover 0 h begun).0 in (j.floor, j.field)
    ] in
    let first : rover ≡ c.args.rover = c.end-given_back.ensures.is.0 ∙ c.start-first.ensures.begun.owns in
    let back = c.end-given_back-2.ensures.is.0 in
    (ap G.floor back ∙ kept.0 ∙ ap G.floor first, ap G.field back ∙ kept.1 ∙ ap G.field first)
