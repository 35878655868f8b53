-- One text written after another is the two together.
use Rattle.std.proofs.Common.{◌≡◌, ℕ, ◌+◌, ◌-◌, ◌≤◌, List, ◌++◌, length, take, drop, ap, ◌∙◌, subst, arith, length-append, length-drop, length-take, rules}
use borrow.Rule.Slice.PartMut.{put_mid}
use Rattle.std.proofs.lemmas.List.{places, same_lists}
use Rattle.sheet.specs.Writing.{written, Room, Put}

-- the part of a buffer that is lent from an offset on
abbrev pub lent_from : ℕ → List ℕ → List ℕ
lent_from at out = take (length out - at) (drop at out)

-- and the buffer when the part comes back
abbrev pub put_back : ℕ → List ℕ → List ℕ → List ℕ
put_back at out part = put_mid at (length out - at) out part

written_next : (s t part : List ℕ) (k : ℕ) (a b : List ℕ) → length a + length b ≤ length s → t ≡ written s a → k ≡ length a → part ≡ written (lent_from k t) b → put_back k t part ≡ written s (a ++ b)
written_next s t part k a b h e f g = same_lists _ _ (search (rules, places)) (λ i d l. grind (arith, places))

pub length_written : (s a : List ℕ) → length a ≤ length s → length (written s a) ≡ length s
length_written s a h = search (rules, places)

-- one text after another
pub put_next : {s t part a b : List ℕ} {k n : ℕ} → Room s (a ++ b) → Put s a t k → Put (lent_from k t) b part n → Put s (a ++ b) (put_back k t part) (k + n)
put_next {s} {t} {part} {a} {b} {k} room p q =
    let l = length-append a b in
    record {
      holds = written_next s t part k a b (omega arith) p.holds p.ends q.holds;
      ends = omega (arith, p.ends, q.ends);
    }

-- the room of a text is room for its parts
pub room_first : (s a b : List ℕ) → Room s (a ++ b) → Room s a
room_first s a b h = omega (arith, length-append a b)

pub room_next : {s t a : List ℕ} {k : ℕ} (b : List ℕ) → Room s (a ++ b) → Put s a t k → Room (lent_from k t) b
room_next {s} {t} {a} b h p =
    let l = length-append a b in
    let e : length t ≡ length s = ap length p.holds ∙ length_written s a (omega arith) in
    simp (length-take, length-drop) (omega (arith, p.ends))

-- a text by its other name
pub put_as : {s t a b : List ℕ} {k : ℕ} → a ≡ b → Put s a t k → Put s b t k
put_as {s} {t} {k = k} e p = subst (λ w. Put s w t k) e p
