-- What holds of a result whose error was mapped.
use Rattle.std.proofs.Common.{◌≡◌, Ok, Err, Result, MatchResult, sym, subst}
use Rattle.std.specs.Prelude.{IsErrAnd}

pub mapped : {T E D : Type 0} {P P' : T → Type 0} {Q : E → Type 0} {Q' : D → Type 0} {post : E → D → Type 0} (r : Result T E) (s : Result T D)
    → MatchResult r P Q → MatchResult r (λ x. s ≡ Ok x) (λ e. IsErrAnd s (post e))
    → ((x : T) → P x → P' x) → ((e : E) (d : D) → Q e → post e d → Q' d) → MatchResult s P' Q'
mapped {P' = P'} {Q' = Q'} (Ok x) s p is f g = subst (λ r. MatchResult r P' Q') (sym is) (f x p)
mapped (Err e) (Err d) p is f g = g e d p is
mapped (Err e) (Ok x) p is f g = absurd is
