-- Places by their numbers.
use Rattle.std.specs.Prelude.{◌≡◌, Some, None, Option, refl}
use Rattle.std.specs.Option.{option_map}
use Rattle.board.specs.declared.heading.Heading.{Heading}
use Rattle.board.specs.Squares.{Place}
use Rattle.board.specs.Steps.{beside}
use Rattle.board.proofs.Geometry.{Steps, beside_is, some_steps}
use Rattle.board.proofs.Neighbours.{Edge, none_edge, edge_none}

steps_at : (f : Place → Place) (t : Heading → Heading) → ((p : Place) (h : Heading) → Edge h p → Edge (t h) (f p)) → ((p q : Place) (h : Heading) → Steps h p q → Steps (t h) (f p) (f q)) → (p : Place) (h : Heading) (o : Option Place) → beside p h ≡ o → beside (f p) (t h) ≡ option_map f o
steps_at f t edges moves p h None e = edge_none (t h) (f p) (edges p h (none_edge h p e))
steps_at f t edges moves p h (Some q) e = beside_is (t h) (f p) (f q) (moves p q h (some_steps h p q e))

-- what takes edges to edges and steps to steps keeps stepping
pub steps_kept : (f : Place → Place) (t : Heading → Heading) → ((p : Place) (h : Heading) → Edge h p → Edge (t h) (f p)) → ((p q : Place) (h : Heading) → Steps h p q → Steps (t h) (f p) (f q)) → (p : Place) (h : Heading) → beside (f p) (t h) ≡ option_map f (beside p h)
steps_kept f t edges moves p h = steps_at f t edges moves p h (beside p h) refl
