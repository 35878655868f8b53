-- What holds of a function holds of it applied any number of times.
use Rattle.std.specs.Prelude.{◌≡◌, ℕ, zero, suc, ◌+◌, refl}
use Rattle.std.proofs.Common.{sym, ap, ◌∙◌, add-one}
use Rattle.std.proofs.lemmas.Iterator.Adapters.{option_map_id}
use Rattle.std.specs.Option.{option_map}
use Rattle.board.specs.declared.heading.Heading.{Heading}
use Rattle.board.specs.Squares.{Place}
use Rattle.board.specs.Places.{megacell_of}
use Rattle.board.specs.Steps.{beside}
use Rattle.frame.specs.Composing.{mapped_twice}
use Rattle.frame.specs.Frames.{times}
use Rattle.frame.specs.Laws.{Keeps}

pub times_none : {A : Type 0} (f : A → A) (a : A) → times 0 f a ≡ a
unfolding times
times_none f a = refl

pub times_more : {A : Type 0} (n : ℕ) (f : A → A) (a : A) → times (n + 1) f a ≡ f (times n f a)
unfolding times
times_more n f a = ap (λ k. times k f a) (add-one n)

inside : {A : Type 0} (n : ℕ) (f : A → A) (a : A) → times n f (f a) ≡ f (times n f a)
unfolding times
inside zero f a = refl
inside (suc n) f a = ap f (inside n f a)

pub times_undone : {A : Type 0} (n : ℕ) (f g : A → A) → ((a : A) → g (f a) ≡ a) → (a : A) → times n g (times n f a) ≡ a
unfolding times
times_undone zero f g e a = refl
times_undone (suc n) f g e a = ap g (ap (times n g) (sym (inside n f a)) ∙ times_undone n f g e (f a)) ∙ e a

pub times_together : (n : ℕ) (f : Place → Place) → ((p q : Place) → megacell_of p ≡ megacell_of q → megacell_of (f p) ≡ megacell_of (f q)) → (p q : Place) → megacell_of p ≡ megacell_of q → megacell_of (times n f p) ≡ megacell_of (times n f q)
unfolding times
times_together zero f t p q e = e
times_together (suc n) f t p q e = t (times n f p) (times n f q) (times_together n f t p q e)

pub times_steps : (n : ℕ) (f : Place → Place) (t : Heading → Heading) → ((p : Place) (h : Heading) → beside (f p) (t h) ≡ option_map f (beside p h)) → (p : Place) (h : Heading) → beside (times n f p) (times n t h) ≡ option_map (times n f) (beside p h)
unfolding times
times_steps zero f t s p h = sym (option_map_id (beside p h))
times_steps (suc n) f t s p h = s (times n f p) (times n t h) ∙ ap (option_map f) (times_steps n f t s p h) ∙ mapped_twice (times n f) f (beside p h)

pub times_keep : (n : ℕ) {f f' : Place → Place} {t t' : Heading → Heading} → Keeps f f' t t' → Keeps (times n f) (times n f') (times n t) (times n t')
times_keep n {f = f} {f' = f'} {t = t} {t' = t'} k = record {
  undone = times_undone n f f' k.undone;
  redone = times_undone n f' f k.redone;
  undoes = times_undone n t t' k.undoes;
  redoes = times_undone n t' t k.redoes;
  together = times_together n f k.together;
  rejoined = times_together n f' k.rejoined;
  steps = times_steps n f t k.steps;
}
