-- What a part of a list holds that was filled by calls, and what holds of the list.
use Rattle.std.proofs.Common.{◌≡◌, ℕ, zero, suc, ◌+◌, ◌-◌, ◌<◌, ◌≤◌, List, [], ◌∷◌, ◌++◌, length, None, refl, ap, ◌∙◌, arith, length-take-le, length-append}
use Rattle.std.specs.Prelude.{slice_index_or, take, drop}
use Rattle.std.specs.List.{FoldsTo}
use Rattle.std.proofs.lemmas.List.{get_or_append_left, get_or-append_right, get_or-drop}
use Rattle.chart.specs.Charts.{Slot, Blank, SameBeyond}

-- where each call gives v, each item is v
pub all_filled : {F A : Type 0} (R : F → A → F → Type 0) (v : A) → ((p : F) (x : A) (q : F) → R p x q → x ≡ v) → (xs : List A) (p q : F) → FoldsTo R p xs q → (i : ℕ) → slice_index_or xs i v ≡ v
all_filled R v f [] p q k i = refl
all_filled R v f (x ∷ xs) p q k zero = f p x k.0 k.1
all_filled R v f (x ∷ xs) p q k (suc i) = all_filled R v f xs k.0 q k.2 i

-- the list after a write to its first 4,096 slots
pub emptied : {A : Type 0} (slots front : List (Slot A)) → length front ≡ length (take 4096 slots) → 4096 ≤ length slots → ((i : ℕ) → slice_index_or front i None ≡ None) → Blank (front ++ drop 4096 slots) × SameBeyond slots (front ++ drop 4096 slots)
emptied slots front same room clear =
    let size : length front ≡ 4096 = same ∙ length-take-le 4096 slots room in (
      record {
        room = let l = length-append front (drop 4096 slots) in omega arith;
        clear = λ i lt. let within : i < length front = omega arith in get_or_append_left front (drop 4096 slots) None i within ∙ clear i;
      },
      λ i le. let back : 4096 + (i - 4096) ≡ i = omega arith in get_or-append_right front (drop 4096 slots) 4096 i None size le ∙ get_or-drop 4096 slots (i - 4096) None ∙ ap (λ k. slice_index_or slots k None) back,
    )
