-- What an accepted map draws lies where the map has it.
use Rattle.std.proofs.Common.{◌≡◌, ℕ, ◌+◌, ◌*◌, ◌/◌, ◌%◌, ◌<◌, ◌≤◌, Bool, true, false, cond, leb, List, length, get_or, Some, None, Option, sym, refl, ap, ◌∙◌, subst, inl, inr, arith}
use Rattle.std.proofs.lemmas.Bool.{both_ways, ltb-false, and_parts, and_from, eqb-true, eq-eqb, le-leb, cases_order}
use Rattle.std.proofs.lemmas.Nat.{div-add-mod'}
use Rattle.board.specs.Squares.{Megacell, celled, number_of}
use Rattle.board.proofs.Geometry.{squared_at, squared_some}
use Rattle.firsts.specs.First.{first}
use Rattle.firsts.proofs.Firsts.{first_some, first_none_at}
use Rattle.map_format.specs.Bytes.{stands, first_from}
use Rattle.map_format.specs.declared.cell.Cell.TheVariants.{Blocked}
use Rattle.map_format.specs.declared.drawing.Drawing.{Drawing}
use Rattle.map_format.specs.declared.faults.MapFault.{MapFault}
use Rattle.map_format.specs.declared.faults.MapFault.TheVariants.{BadRow, ExtraRow, SecondStart}
use Rattle.map_format.specs.Rows.{width, row_at, bad_row}
use Rattle.map_format.specs.Cells.{cell_in, cells_of, megacell_at, or_north_west}
use Rattle.map_format.specs.Answer.{◌or_if◌, mapped, length_fault, byte_fault, row_fault, extra_fault, start_fault, first_start, refusal, drawn}
use Rattle.map_format.specs.Layout.{LiesOn}
use Rattle.map_format.proofs.Tables.{tabled_at}
use Rattle.map_format.proofs.Rowing.{start_inside}

pub on_board : (r c : ℕ) → r < 32 → c < 32 → celled r c ≡ Some (megacell_at r c)
unfolding megacell_at
on_board r c h k =
    let m : Megacell = record { row = r; column = c; rows = h; columns = k } in
    let e : celled r c ≡ Some m = squared_at r c m refl refl in
    e ∙ ap (λ o. Some (or_north_west o)) (sym e)

each : (m : List ℕ) (n : Megacell) → get_or (cells_of m (width m)) (number_of n) Blocked ≡ cell_in m (width m) n.row n.column
each m n =
    let r : (32 * n.row + n.column) / 32 ≡ n.row = omega arith in
    let c : (32 * n.row + n.column) % 32 ≡ n.column = omega arith in
    let i : number_of n < 1024 = omega arith in
    tabled_at (λ i. cell_in m (width m) (i / 32) (i % 32)) 1024 (number_of n) Blocked i ∙ ap (λ k. cell_in m (width m) k ((32 * n.row + n.column) % 32)) r ∙ ap (cell_in m (width m) n.row) c

-- what is known of a map that is not refused: the width, the S at offset s, and what would have been refused
pub record Accepted (m : List ℕ) (s w : ℕ) : Type 0 where
  pub is_width : w ≡ width m
  pub rows : first (bad_row m) (length m) ≡ None
  pub few : length m ≤ 32 * (w + 1)
  pub one : first_from m 83 0 ≡ Some s
  pub no_more : first_from m 83 (s + 1) ≡ None

neither : (a b : Option MapFault) → (a or_if b) ≡ None → (a ≡ None) × (b ≡ None)
neither None b e = (refl, e)
neither (Some f) b e = absurd cc

unmapped : (f : ℕ → MapFault) (o : Option ℕ) → mapped f o ≡ None → o ≡ None
unmapped f None e = refl
unmapped f (Some k) e = absurd cc

not_extra : (b : Bool) (f : MapFault) → cond b (Some f) None ≡ None → b ≡ false
not_extra true f e = absurd cc
not_extra false f e = refl

accepted : (m : List ℕ) (s : ℕ) → refusal m ≡ None → first_start m ≡ Some s → Accepted m s (width m)
accepted m s r e =
    let byte = neither (length_fault m) _ r in
    let row = neither (byte_fault m) _ byte.1 in
    let extra = neither (row_fault m) _ row.1 in
    let start = neither (extra_fault m) _ extra.1 in
    record {
      is_width = refl;
      rows = unmapped (λ k. BadRow (row_at m k)) _ extra.0;
      few = ltb-false _ _ (not_extra _ (ExtraRow (row_at m 32)) start.0);
      one = e;
      no_more = unmapped SecondStart _ (subst (λ o. start_fault m o ≡ None) e start.1);
    }

pub start_at : (m : List ℕ) (s : ℕ) → first_from m 83 0 ≡ Some s → (s < length m) × (get_or m s 0 ≡ 83)
start_at m s e = let f = first_some (stands m 83 0) (length m) s e in (f.0, eqb-true _ _ (and_parts (leb 0 s) _ f.1).1)

only : (m : List ℕ) (s : ℕ) → first_from m 83 0 ≡ Some s → first_from m 83 (s + 1) ≡ None → (o : ℕ) → o < length m → get_or m o 0 ≡ 83 → o ≡ s
only m s e f o h is = elim (cases_order o s) [
  | inl q ↦ q
  | inr (inl l) ↦ absurd (both_ways _ ((first_some (stands m 83 0) (length m) s e).2 o l) (and_from (leb 0 o) _ (le-leb 0 o (omega arith)) (eq-eqb _ _ is)))
  | inr (inr l) ↦ absurd (both_ways _ (first_none_at (stands m 83 (s + 1)) (length m) o f h) (and_from (leb (s + 1) o) _ (le-leb (s + 1) o (omega arith)) (eq-eqb _ _ is)))
]

pub inside : (m : List ℕ) (s w : ℕ) → Accepted m s w → (s / (w + 1) < 32) × (s % (w + 1) < w) × (w ≤ 32)
inside m s w a =
    let at = start_at m s a.one in
    let few : length m ≤ 32 * (width m + 1) = subst (λ v. length m ≤ 32 * (v + 1)) a.is_width a.few in
    subst (λ v. (s / (v + 1) < 32) × (s % (v + 1) < v) × (v ≤ 32)) (sym a.is_width) (start_inside m s a.rows few at.0 at.1)

-- the S is on the board, and what is drawn lies on the map
pub start_row : (m : List ℕ) (s : ℕ) → refusal m ≡ None → first_start m ≡ Some s → s / (width m + 1) < 32
start_row m s r e = (inside m s (width m) (accepted m s r e)).0

pub start_column : (m : List ℕ) (s : ℕ) → refusal m ≡ None → first_start m ≡ Some s → s % (width m + 1) < 32
start_column m s r e = let k = inside m s (width m) (accepted m s r e) in omega arith

lies : (m : List ℕ) (s : ℕ) → Accepted m s (width m) → LiesOn m (drawn m s)
lies m s a =
    let k = inside m s (width m) a in
    let at = squared_some _ _ _ (on_board (s / (width m + 1)) (s % (width m + 1)) k.0 (omega arith)) in
    let split : s / (width m + 1) * (width m + 1) + s % (width m + 1) ≡ s = div-add-mod' s (width m + 1) in
    let there : row_at m (drawn m s).start.row + (drawn m s).start.column ≡ s =
    ap (λ r. row_at m r + (drawn m s).start.column) at.0 ∙ ap (λ c. row_at m (s / (width m + 1)) + c) at.1 ∙ split in
    record {
      start_column = subst (λ c. c < width m) (sym at.1) k.1;
      start_byte = ap (λ o. get_or m o 0) there ∙ (start_at m s a.one).1;
      only_start = λ o h is. only m s a.one a.no_more o h is ∙ sym there;
      each = each m;
    }

pub lies_on : (m : List ℕ) (s w : ℕ) (d : Drawing) → Accepted m s w → d.cells.entries ≡ cells_of m w → d.start ≡ megacell_at (s / (w + 1)) (s % (w + 1)) → LiesOn m d
lies_on m s w d a cells start =
    let e = a.is_width in
    let p : d.cells.entries ≡ (drawn m s).cells.entries = cells ∙ ap (cells_of m) e in
    let q : d.start ≡ (drawn m s).start = start ∙ ap (λ v. megacell_at (s / (v + 1)) (s % (v + 1))) e in
    let same : drawn m s ≡ d = λ i. record { cells = record { entries = sym p i }; start = sym q i } in
    subst (LiesOn m) same (lies m s (subst (Accepted m s) e a))

-- the same of a map that is not refused
pub drawn_lies : (m : List ℕ) (s : ℕ) (d : Drawing) → d.cells.entries ≡ cells_of m (width m) → d.start ≡ megacell_at (s / (width m + 1)) (s % (width m + 1)) → refusal m ≡ None → first_start m ≡ Some s → LiesOn m d
drawn_lies m s d p q r f = lies_on m s (width m) d (accepted m s r f) p q
