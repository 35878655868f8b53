-- What a header that is read tells of the bytes.
use Rattle.std.proofs.Common.{◌≡◌, ℕ, Bool, true, false, cond, List, Some, None, Ok, Err, Option, sym, ap}
use Rattle.board.specs.Squares.{Place}
use Rattle.log_record.specs.declared.faults.LogFault.TheVariants.{WrongLength}
use Rattle.log_record.specs.declared.header.Header.{Header}
use Rattle.log_record.specs.Layout.{two, whole, start_of, header_by, header_of}

told_by : (b : List ℕ) (w : Bool) (o : Option Place) (h : Header) → cond w (header_by b o) (Err WrongLength) ≡ Ok h → (h.count ≡ two b 0) × (h.first ≡ two b 2) × (o ≡ Some h.start)
told_by b true (Some p) h e =
    let q : record { count = two b 0; first = two b 2; start = p } ≡ h = cc in
    (ap (λ (x : Header). x.count) (sym q), ap (λ (x : Header). x.first) (sym q), ap (λ (x : Header). Some x.start) q)
told_by b true None h e = (cc, cc, cc)
told_by b false o h e = (cc, cc, cc)

pub header_tells : (b : List ℕ) (h : Header) → header_of b ≡ Ok h → (h.count ≡ two b 0) × (h.first ≡ two b 2) × (start_of b ≡ Some h.start)
unfolding header_of
header_tells b h e = told_by b (whole b) (start_of b) h e
