-- A table of cells, place by place.
use Rattle.std.proofs.Common.{◌≡◌, ℕ, zero, suc, ◌+◌, ◌<◌, ◌≤◌, List, length, get_or, ◌∙◌, subst, inl, inr, arith}
use Rattle.std.proofs.lemmas.Bool.{cases_lt}
use Rattle.std.specs.Array.{IsFromFnResult, IsFromFnResultFrom}
use Rattle.std.specs.Fn.{Called}
use denote.Param.Members.{Mut}
use Rattle.std.proofs.lemmas.List.FromFn.{fill_by_all, get_or-map-range_with_len}
use Rattle.map_format.specs.declared.cell.Cell.{Cell}
use Rattle.map_format.specs.declared.cell.Cell.TheVariants.{Blocked}
use Rattle.map_format.specs.Cells.{tabled}

pub tabled_all : (f : ℕ → Cell) (xs : List Cell) (n : ℕ) (d : Cell) → length xs ≡ n → ((k : ℕ) → k < n → get_or xs k d ≡ f k) → xs ≡ tabled f n
unfolding tabled
tabled_all f xs n d e h = fill_by_all f xs n d e h

-- calls of an unchanging closure, one for each index from i on
calls_at : {F : Type 0} (g : Mut F (ℕ × Unit {0}) Cell) (f : ℕ → Cell) (s : F) (ys : List Cell) → ((i : ℕ) (y : Cell) (q : F) → Called g s (i, tt) y q → (q ≡ s) × (y ≡ f i)) → (i n : ℕ) → IsFromFnResultFrom g s ys i n → (k : ℕ) (d : Cell) → i ≤ k → k < i + n → get_or ys k d ≡ f k
calls_at g f s ys h i zero r k d l u = absurd (omega arith)
calls_at g f s ys h i (suc n) r k d l u =
    let a = h i r.1 r.0 r.3 in
    elim (cases_lt i k) [
      | inl p ↦ calls_at g f s ys h (i + 1) n (subst (λ q. IsFromFnResultFrom g q ys (i + 1) n) a.0 r.4) k d (omega arith) (omega arith)
      | inr p ↦ let e : i ≡ k = omega arith in subst (λ j. get_or ys j d ≡ f j) e (r.2.1 d ∙ a.1)
    ]

pub tabled_calls : {F : Type 0} (g : Mut F (ℕ × Unit {0}) Cell) (f : ℕ → Cell) (s : F) (ys : List Cell) (n : ℕ) → IsFromFnResult g s ys n → ((i : ℕ) (y : Cell) (q : F) → Called g s (i, tt) y q → (q ≡ s) × (y ≡ f i)) → ys ≡ tabled f n
tabled_calls g f s ys n r h = tabled_all f ys n Blocked r.long (λ k l. calls_at g f s ys h 0 n r.each k Blocked (omega arith) (omega arith))

-- for callers: the cell of a megacell in a drawing
pub tabled_at : (f : ℕ → Cell) (n i : ℕ) (d : Cell) → i < n → get_or (tabled f n) i d ≡ f i
unfolding tabled
tabled_at f n i d h = get_or-map-range_with_len f 0 n i i d h (omega arith)
