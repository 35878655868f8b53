-- What does nothing keeps the laws of a frame, and so does a frame followed by another.
use Rattle.std.specs.Prelude.{◌≡◌, Some, None, Option, refl}
use Rattle.std.proofs.Common.{sym, ap, ◌∙◌}
use Rattle.std.proofs.lemmas.Iterator.Adapters.{option_map_id}
use Rattle.std.specs.Option.{option_map}
use Rattle.board.specs.declared.heading.Heading.{Heading}
use Rattle.board.specs.Squares.{Place}
use Rattle.board.specs.Steps.{beside}
use Rattle.frame.specs.Laws.{Keeps}
use Rattle.frame.specs.Skipped.{passed}

pub mapped_twice : {A B C : Type 0} (f : A → B) (g : B → C) (o : Option A) → option_map g (option_map f o) ≡ option_map (λ a. g (f a)) o
mapped_twice f g None = refl
mapped_twice f g (Some a) = refl

none_keeps : Keeps (λ p. p) (λ p. p) (λ h. h) (λ h. h)
none_keeps = record {
  undone = λ p. refl;
  redone = λ p. refl;
  undoes = λ h. refl;
  redoes = λ h. refl;
  together = λ p q e. e;
  rejoined = λ p q e. e;
  steps = λ p h. sym (option_map_id (beside p h));
}

pub passed_keeps : {F : Type 0} (taken returned : F → Place → Place) (turned restored : F → Heading → Heading)
    → ((f : F) → Keeps (taken f) (returned f) (turned f) (restored f))
    → (s : Option F) → Keeps (passed taken s) (passed returned s) (passed turned s) (passed restored s)
passed_keeps taken returned turned restored keeps (Some f) = keeps f
passed_keeps taken returned turned restored keeps None = none_keeps

pub both_keep : {f f' g g' : Place → Place} {t t' u u' : Heading → Heading} → Keeps f f' t t' → Keeps g g' u u'
    → Keeps (λ p. g (f p)) (λ p. f' (g' p)) (λ h. u (t h)) (λ h. t' (u' h))
both_keep {f = f} {f' = f'} {g = g} {g' = g'} {t = t} {t' = t'} {u = u} {u' = u'} a b = record {
  undone = λ p. ap f' (b.undone (f p)) ∙ a.undone p;
  redone = λ p. ap g (a.redone (g' p)) ∙ b.redone p;
  undoes = λ h. ap t' (b.undoes (t h)) ∙ a.undoes h;
  redoes = λ h. ap u (a.redoes (u' h)) ∙ b.redoes h;
  together = λ p q e. b.together (f p) (f q) (a.together p q e);
  rejoined = λ p q e. a.rejoined (g' p) (g' q) (b.rejoined p q e);
  steps = λ p h. b.steps (f p) (t h) ∙ ap (option_map g) (a.steps p h) ∙ mapped_twice f g (beside p h);
}
