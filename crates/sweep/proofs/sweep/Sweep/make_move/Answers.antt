use Rattle.std.proofs.Common.{sym, ◌∙◌, rules}
use Rattle.std.proofs.lemmas.Result.{MatchResult-weaker}
use Rattle.sweep.proofs.Choosing.{look_is_at_the_neighbour, turn_is_never_barred, open_cross_is_never_barred}
use Rattle.sweep.proofs.sweep.Sweep.make_move.Goals as goal

-- after a look that answered open, the step is not refused
pub returns-in_err-moved-in-Look : goal.returns-in_err-moved-in-Look
returns-in_err-moved-in-Look g c =
    let k = look_is_at_the_neighbour c.args.self.now.marks.table.entries c.place-place.result c.in-Look.other (sym c.choose.ensures ∙ c.in-Look.is) in
    let p = c.look.ensures.does.place in
    absurd (open_cross_is_never_barred c.in-Look.other c.in_err-moved-in-Look.ensures.0.blocked (cc) (cc) (cc))

-- nor is a turn
pub returns-else-look : goal.returns-else-look
returns-else-look g c =
    MatchResult-weaker c.step-else-look.result c.step-else-look.ensures (λ v m. search rules) (λ e b. absurd (turn_is_never_barred b.0.blocked (cc)))
