use Rattle.std.proofs.Common.{sym, ◌∙◌, rules}
use Rattle.board.specs.Squares.{same_square}
use Rattle.log_format.proofs.Following.{found_none, found_here, found_later, nearer}
use Rattle.log_format.proofs.log.methods.+seek.Goals as goal

pub returns-in_err-record : goal.returns-in_err-record
returns-in_err-record t c = c.from_residual.ensures ∙ found_none c.args.log.now c.args.index c.args.megacell c.requires (sym c.in_err-record.ensures)

pub returns-then-eq : goal.returns-then-eq
unfolding same_square
returns-then-eq t c =
    found_here c.args.log.now c.args.index c.args.megacell c.in_ok-record.record c.requires (sym c.in_ok-record.ensures) (sym c.if-eq.ensures)

pub seek-requires : goal.seek-requires
unfolding same_square
seek-requires t c =
    let e = sym c.in_ok-record.ensures in
    let d = sym c.if-eq.ensures in
    let n = nearer c.args.log.now c.args.index c.args.megacell c.in_ok-record.record c.requires e d in
    (search rules, found_later c.args.log.now c.args.index c.args.megacell c.in_ok-record.record c.requires e d)
