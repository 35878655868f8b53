-- Letters in lines of 64: line by line, and how long.
use Rattle.std.proofs.Common.{◌≡◌, ℕ, suc, ◌+◌, ◌/◌, ◌<◌, ◌≤◌, cond, List, [], ◌∷◌, ◌++◌, length, append_assoc, min, sym, refl, ap, ◌∙◌, subst, inl, inr, arith, length-append}
use Rattle.std.proofs.lemmas.Bool.{ne_eqb, eq-eqb, cases_eq}
use Rattle.std.proofs.lemmas.List.{append-nil}
use Rattle.sheet.specs.Writing.{Room, Put}
use Rattle.sheet.specs.Sheets.{worded, lined}
use Rattle.sheet.proofs.Splicing.{lent_from, put_as, put_back, put_next, room_first, room_next}

-- one line of letters, which is a line without numbers
abbrev pub letters_line : List ℕ → List ℕ
letters_line letters = letters ++ (10 ∷ [])

pub no_numbers : (letters : List ℕ) → worded letters [] ≡ letters_line letters
no_numbers letters = ap letters_line (append-nil letters)

not_full : (c : ℕ) (x : ℕ) (xs : List ℕ) → c < 63 → lined c (x ∷ xs) ≡ x ∷ lined (c + 1) xs
unfolding lined
not_full c x xs h = ap (λ b. cond b (x ∷ (10 ∷ lined 0 xs)) (x ∷ lined (c + 1) xs)) (ne_eqb c 63 (omega arith))

full : (c : ℕ) (x : ℕ) (xs : List ℕ) → c ≡ 63 → lined c (x ∷ xs) ≡ x ∷ (10 ∷ lined 0 xs)
unfolding lined
full c x xs e = ap (λ b. cond b (x ∷ (10 ∷ lined 0 xs)) (x ∷ lined (c + 1) xs)) (eq-eqb c 63 e)

begun : (c : ℕ) → 0 < c → lined c [] ≡ 10 ∷ []
unfolding lined
begun c h = ap (λ b. cond b [] (10 ∷ [])) (ne_eqb c 0 (omega arith))

pub none_lined : lined 0 [] ≡ []
unfolding lined
none_lined = refl

closed : (c : ℕ) (x : ℕ) (line rest : List ℕ) → c ≡ 63 → length line ≡ 0 → lined c ((x ∷ line) ++ rest) ≡ letters_line (x ∷ line) ++ lined 0 rest
closed c x [] rest e z = full c x rest e
closed c x (y ∷ line) rest e z = absurd (omega arith)

-- a line that has c letters takes those that fill it, or the last
line_by : (c : ℕ) (line rest : List ℕ) → c < 64 → 0 < c + length line → c + length line ≤ 64 → (0 < length rest → c + length line ≡ 64) → lined c (line ++ rest) ≡ letters_line line ++ lined 0 rest
line_by c [] [] l h m e = begun c (omega arith) ∙ ap (λ w. 10 ∷ w) (sym none_lined)
line_by c [] (x ∷ xs) l h m e = absurd (omega (arith, e (omega arith)))
line_by c (x ∷ line) rest l h m e =
    elim (cases_eq c 63) [
      | inl f ↦ closed c x line rest f (omega arith)
      | inr f ↦ not_full c x (line ++ rest) (omega arith) ∙ ap (λ w. x ∷ w) (line_by (c + 1) line rest (omega arith) (omega arith) (omega arith) (λ k. omega (arith, e k)))
    ]

length_by : (c : ℕ) (xs : List ℕ) → c < 64 → length (lined c xs) ≡ length xs + (c + length xs + 63) / 64
length_by c [] h = elim (cases_eq c 0) [
  | inl e ↦ ap (λ k. length (lined k [])) e ∙ ap length none_lined ∙ omega arith
  | inr e ↦ ap length (begun c (omega arith)) ∙ omega arith
]
length_by c (x ∷ xs) h = elim (cases_eq c 63) [
  | inl e ↦ let l = length_by 0 xs (omega arith) in let f : length (lined c (x ∷ xs)) ≡ suc (suc (length (lined 0 xs))) = ap length (full c x xs e) in omega arith
  | inr e ↦ let l = length_by (c + 1) xs (omega arith) in let f : length (lined c (x ∷ xs)) ≡ suc (length (lined (c + 1) xs)) = ap length (not_full c x xs (omega arith)) in omega arith
]

pub length_lined : (xs : List ℕ) → length (lined 0 xs) ≡ length xs + (length xs + 63) / 64
length_lined xs = let l = length_by 0 xs (omega arith) in omega arith

-- What is laid out while lines are written: a front of all the lines, and the lines of the other letters are to come.
pub record Laid (s letters rest t : List ℕ) (at : ℕ) : Type 0 where
  pub front : List ℕ
  pub whole : lined 0 letters ≡ front ++ lined 0 rest
  pub put : Put s front t at

pub laid_none : (s letters : List ℕ) → Laid s letters letters s 0
laid_none s letters = record { front = []; whole = refl; put = record { holds = refl; ends = refl } }

-- a chunk of the letters that are left, and what is left behind it
abbrev pub Chunk : ℕ → List ℕ → List ℕ → List ℕ → Type 0
Chunk size rest line left = (rest ≡ line ++ left) × (length line ≡ min size (length rest)) × (0 < length rest)

chunk_line : (size : ℕ) (rest line left : List ℕ) → size ≡ 64 → Chunk size rest line left → lined 0 rest ≡ letters_line line ++ lined 0 left
chunk_line size rest line left e c =
    let l : length rest ≡ length line + length left = ap length c.0 ∙ length-append line left in
    let m : length line ≡ min size (length rest) = c.1 in
    let z : 0 < length rest = c.2 in
    ap (lined 0) c.0 ∙ line_by 0 line left (omega arith) (omega arith) (omega arith) (λ k. omega arith)

module _ {s letters rest t : List ℕ} {at : ℕ} (line left : List ℕ) (room : Room s (lined 0 letters)) (laid : Laid s letters rest t at) {size : ℕ} (e : size ≡ 64) (c : Chunk size rest line left) where
  cut : lined 0 letters ≡ (laid.front ++ letters_line line) ++ lined 0 left
  cut = laid.whole ∙ ap (λ w. laid.front ++ w) (chunk_line size rest line left e c) ∙ sym (append_assoc laid.front (letters_line line) (lined 0 left))

  front_room : Room s (laid.front ++ letters_line line)
  front_room = room_first s (laid.front ++ letters_line line) (lined 0 left) (subst (λ w. Room s w) cut room)

  pub line_room : Room (lent_from at t) (letters_line line)
  line_room = room_next (letters_line line) front_room laid.put

  pub laid_more : {part : List ℕ} {n : ℕ} → Put (lent_from at t) (letters_line line) part n → Laid s letters left (put_back at t part) (at + n)
  laid_more p = record { front = laid.front ++ letters_line line; whole = cut; put = put_next front_room laid.put p }

pub laid_fits : {s letters rest t : List ℕ} {at : ℕ} → Room s (lined 0 letters) → Laid s letters rest t at → at ≤ length s
laid_fits {s} {rest = rest} room laid = let f = room_first s laid.front (lined 0 rest) (subst (λ w. Room s w) laid.whole room) in omega (arith, laid.put.ends)

pub laid_all : {s letters rest t : List ℕ} {at : ℕ} → length rest ≡ 0 → Laid s letters rest t at → Put s (lined 0 letters) t at
laid_all {rest = []} z laid = put_as (sym (laid.whole ∙ ap (λ w. laid.front ++ w) none_lined ∙ append-nil laid.front)) laid.put
laid_all {rest = x ∷ rest} z laid = absurd (omega arith)

-- how long a text of three parts is, the letters in the middle
pub length_around : (a xs b : List ℕ) → length (a ++ lined 0 xs ++ b) ≡ length a + (length xs + (length xs + 63) / 64) + length b
length_around a xs b =
    let l = length_lined xs in
    let k = length-append a (lined 0 xs) in
    let m = length-append (a ++ lined 0 xs) b in
    omega arith
