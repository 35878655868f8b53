-- The sheet of a run: its letters are letters, and what is laid out is what the run leaves.
use Rattle.std.proofs.Common.{◌≡◌, ℕ, zero, suc, ◌+◌, ◌<◌, ◌≤◌, Bool, true, false, cond, not, ltb, List, [], ◌∷◌, length, take, drop, Some, None, sym, refl, ap, ◌∙◌, arith, length-append}
use Rattle.std.proofs.lemmas.Bool.{ltb-true, ltb-false}
use Rattle.std.proofs.lemmas.List.{take_at}
use Rattle.firsts.proofs.Firsts.{first_none}
use Rattle.board.specs.declared.heading.Heading.{Heading}
use Rattle.board.specs.declared.heading.Heading.TheVariants.{North, East, South, West}
use Rattle.board.specs.Squares.{Place}
use Rattle.board.specs.Floors.{Floor}
use Rattle.board.specs.Headings.{letter}
use Rattle.chart.specs.Charts.{Slot, SameBeyond}
use Rattle.tour.specs.Tour.{tour, letters}
use Rattle.sheet.specs.declared.faults.SheetFault.{SheetFault}
use Rattle.sheet.specs.declared.faults.SheetFault.TheVariants.{Short}
use Rattle.sheet.specs.Refusing.{is_letter, no_letter, letter_or, short_for, sheet_fault}
use Rattle.sweep.specs.declared.sweep.Record.{Record}
use Rattle.sheet.specs.Sheets.{sheet}
use Rattle.sheet.specs.Writing.{written}
use Rattle.survey.specs.Course.{record_after, sheet_after}
use Rattle.survey.specs.Surveys.{Driven}

a_letter : (h : Heading) → is_letter (letter h) ≡ true
unfolding letter
a_letter North = refl
a_letter East = refl
a_letter South = refl
a_letter West = refl

each_letter : (hs : List Heading) (k : ℕ) → k < length (letters hs) → no_letter (letters hs) k ≡ false
unfolding letters
each_letter [] k h = absurd (omega arith)
each_letter (m ∷ hs) zero h = ap not (a_letter m)
each_letter (m ∷ hs) (suc k) h = each_letter hs k (omega arith)

-- letters are never refused
pub only_short : (room : ℕ) (hs : List Heading) (text : List ℕ) → sheet_fault room (letters hs) text ≡ short_for room text
only_short room hs text = ap (λ o. letter_or o (short_for room text)) (first_none (no_letter (letters hs)) (length (letters hs)) (each_letter hs))

length_letters : (hs : List Heading) → length (letters hs) ≡ length hs
unfolding letters
length_letters [] = refl
length_letters (h ∷ hs) = ap suc (length_letters hs)

length_tour : (floor : Floor) (s : Place) (n : ℕ) → length (tour floor s n) ≡ n
unfolding tour
length_tour floor s zero = refl
length_tour floor s (suc n) = let l = length-append (tour floor s n) (_ ∷ []) in l ∙ ap (λ k. k + 1) (length_tour floor s n) ∙ omega arith

-- the letters of a run stand at the front of its tour buffer
pub letters_front : {A : Type 0} (floor : Floor) (field : Place → A) (s : Place) (n m : ℕ) (slots slots_after : List (Slot A)) (bytes bytes_after : List ℕ) → m ≡ n → Driven floor field s n slots bytes slots_after bytes_after → take m bytes_after ≡ letters (tour floor s n)
letters_front floor field s n m slots slots_after bytes bytes_after e d =
    ap (λ k. take k bytes_after) e
    ∙ ap (take n) d.tour
    ∙ take_at (letters (tour floor s n)) (drop n bytes) n (length_letters (tour floor s n) ∙ length_tour floor s n)

pub short_some : (room : ℕ) (text : List ℕ) (e : SheetFault) → short_for room text ≡ Some e → (room < length text) × (e ≡ Short (length text))
short_some room text e h = go (ltb room (length text)) refl h
  where
    go : (b : Bool) → ltb room (length text) ≡ b → cond b (Some (Short (length text))) None ≡ Some e → (room < length text) × (e ≡ Short (length text))
    go true q k = (ltb-true _ _ q, cc)
    go false q k = absurd cc

pub short_none : (room : ℕ) (text : List ℕ) → short_for room text ≡ None → length text ≤ room
short_none room text h = go (ltb room (length text)) refl h
  where
    go : (b : Bool) → ltb room (length text) ≡ b → cond b (Some (Short (length text))) None ≡ None → length text ≤ room
    go true q k = absurd cc
    go false q k = ltb-false _ _ q

-- a run over a chart that was emptied before
pub driven_since : {A : Type 0} (floor : Floor) (field : Place → A) (s : Place) (n : ℕ) (slots emptied slots_after : List (Slot A)) (bytes bytes_after : List ℕ) → SameBeyond slots emptied → Driven floor field s n emptied bytes slots_after bytes_after → Driven floor field s n slots bytes slots_after bytes_after
driven_since floor field s n slots emptied slots_after bytes bytes_after b d = record {
  chart = d.chart;
  beyond = λ i h. d.beyond i h ∙ b i h;
  tour = d.tour;
  ground = d.ground;
  elsewhere = d.elsewhere;
}

-- the sheet that a run's start, letters and record make is the run's
module _ (floor : Floor) (s start : Place) (n : ℕ) (part : List ℕ) (ending : Record) (text text_after : List ℕ) where
  same_sheet : start ≡ s → part ≡ letters (tour floor s n) → ending ≡ record_after floor s n → sheet start part ending ≡ sheet_after floor s n
  same_sheet a b c = ap (λ (x : Place). sheet x part ending) a ∙ ap (λ (x : List ℕ). sheet s x ending) b ∙ ap (λ (x : Record). sheet s (letters (tour floor s n)) x) c

  same_fault : start ≡ s → part ≡ letters (tour floor s n) → ending ≡ record_after floor s n → sheet_fault (length text) part (sheet start part ending) ≡ short_for (length text) (sheet_after floor s n)
  same_fault a b c =
      ap (λ (x : List ℕ). sheet_fault (length text) x (sheet start part ending)) b
      ∙ only_short (length text) (tour floor s n) (sheet start part ending)
      ∙ ap (short_for (length text)) (same_sheet a b c)

  pub sheet_refused : (e : SheetFault) → start ≡ s → part ≡ letters (tour floor s n) → ending ≡ record_after floor s n → sheet_fault (length text) part (sheet start part ending) ≡ Some e → (length text < length (sheet_after floor s n)) × (e ≡ Short (length (sheet_after floor s n)))
  sheet_refused e a b c h = short_some (length text) (sheet_after floor s n) e (sym (same_fault a b c) ∙ h)

  pub sheet_laid : (k : ℕ) → start ≡ s → part ≡ letters (tour floor s n) → ending ≡ record_after floor s n → sheet_fault (length text) part (sheet start part ending) ≡ None → k ≡ length (sheet start part ending) → text_after ≡ written text (sheet start part ending) →
      (length (sheet_after floor s n) ≤ length text) × (k ≡ length (sheet_after floor s n)) × (text_after ≡ written text (sheet_after floor s n))
  sheet_laid k a b c h l w = (
    short_none (length text) (sheet_after floor s n) (sym (same_fault a b c) ∙ h),
    l ∙ ap length (same_sheet a b c),
    w ∙ ap (written text) (same_sheet a b c),
  )
