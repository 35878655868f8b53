-- A line of a word and numbers, written piece by piece.
use Rattle.std.proofs.Common.{◌≡◌, ℕ, ◌+◌, ◌<◌, ◌≤◌, List, [], ◌∷◌, ◌++◌, length, get_or, take, decimal, sym, ap, ◌∙◌, arith, length-append}
use Rattle.std.specs.List.{flat_map}
use Rattle.std.proofs.lemmas.List.{append-nil, take_all, take_more, flat_map_more}
use Rattle.std.proofs.lemmas.List.Folds.{length-flat_map-take}
use Rattle.sheet.specs.Writing.{Room}
use Rattle.sheet.specs.Sheets.{spaced, worded}

-- the word and the first i numbers
abbrev pub begun : List ℕ → List ℕ → ℕ → List ℕ
begun word numbers i = word ++ flat_map spaced (take i numbers)

pub begun_none : (word numbers : List ℕ) → word ≡ begun word numbers 0
begun_none word numbers = sym (append-nil word)

pub begun_more : (word numbers : List ℕ) (i : ℕ) → i < length numbers → begun word numbers i ++ spaced (get_or numbers i 0) ≡ begun word numbers (i + 1)
begun_more word numbers i h =
    flat_map_more spaced word (take i numbers) (get_or numbers i 0)
    ∙ ap (λ w. word ++ flat_map spaced w) (sym (take_more numbers i 0 h))

pub begun_all : (word numbers : List ℕ) (i : ℕ) → length numbers ≤ i → begun word numbers i ++ (10 ∷ []) ≡ worded word numbers
begun_all word numbers i h = ap (λ w. word ++ flat_map spaced w ++ (10 ∷ [])) (take_all i numbers h)

-- the room of the line is room for the next number
pub number_room : (s word numbers : List ℕ) (i : ℕ) → i < length numbers → Room s (worded word numbers) → Room s (begun word numbers i ++ spaced (get_or numbers i 0))
number_room s word numbers i h room =
    let a = length-append word (flat_map spaced (take i numbers)) in
    let b = length-append (begun word numbers i) (spaced (get_or numbers i 0)) in
    let c = length-append word (flat_map spaced numbers) in
    let d = length-append (word ++ flat_map spaced numbers) (10 ∷ []) in
    let e = length-flat_map-take spaced numbers i 0 h in
    omega arith

pub length_more : (word numbers : List ℕ) (i : ℕ) → i < length numbers → length (begun word numbers (i + 1)) ≡ length (begun word numbers i) + (1 + length (decimal (get_or numbers i 0)))
length_more word numbers i h =
    ap length (sym (begun_more word numbers i h)) ∙ length-append (begun word numbers i) (spaced (get_or numbers i 0)) ∙ omega arith
