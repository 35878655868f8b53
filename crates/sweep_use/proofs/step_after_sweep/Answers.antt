use Rattle.std.proofs.Common.{◌≡◌, length, ap, ◌∙◌, inl, inr}
use Rattle.std.proofs.lemmas.Bool.{cases_lt}
use Rattle.sweep_use.proofs.step_after_sweep.Goals as goal

pub returns : goal.returns
returns g c =
    let G = g.R.Rover in
    let rover = c.args.rover in
    let begun = c.start-sweep.ensures.law in
    let kept : (G.floor c.advance.new.self.rover ≡ G.floor rover) × (G.field c.advance.new.self.rover ≡ G.field rover) =
    elim (cases_lt (length c.args.chart.now) 4096) [
      | inl h ↦ let j = c.advance.ensures.short rover 0 h begun in (j.floor, j.field)
      | inr h ↦ let j = (c.advance.ensures.law rover 0 h begun).0 in (j.floor, j.field)
    ] in
    let back = c.end-given_back.ensures.is.0 in
    let stays = c.step-stepped.ensures.stays in
    (stays.0 ∙ ap G.floor back ∙ kept.0, stays.1 ∙ ap G.field back ∙ kept.1)
