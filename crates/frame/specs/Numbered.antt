-- The eight frames that have a number.
use Rattle.std.specs.Prelude.{◌≡◌, ℕ, ◌%◌, ◌≤◌, cond, Some, None, Option, nat_le}
use Rattle.fault.specs.declared.layer.Layer.TheVariants.{Survey}
use Rattle.fault.specs.declared.refusal.Refusal.{Refusal}
use Rattle.fault.specs.Refusals.{refused}
use Rattle.board.specs.declared.heading.Heading.{Heading}
use Rattle.board.specs.Squares.{Place}
use Rattle.board.specs.Headings.{left, right}
use Rattle.frame.specs.Frames.{mirrored, flipped, quarter, unquarter, times}
use Rattle.frame.specs.Skipped.{passed}
use Rattle.frame.specs.declared.faults.FrameFault.{FrameFault}
use Rattle.frame.specs.declared.faults.FrameFault.TheVariants.{Unknown}
use Rattle.frame.specs.declared.mirror.Mirror.{Mirror}
use Rattle.frame.specs.declared.pair.Pair.{Pair}
use Rattle.frame.specs.declared.turn.Turn.{Turn}

-- the mirror first where the number is 4 or more, and then as many quarter turns as the number modulo 4
abbrev pub frame_of : ℕ → Pair (Option Mirror) Turn
frame_of f = record { first = cond (nat_le 4 f) (Some (record {})) None; then = record { quarters = f % 4 } }

-- what such a frame does to places and headings, and back: it mirrors, if it does, and then turns
abbrev pub place_seen : Pair (Option Mirror) Turn → Place → Place
place_seen f p = times (f.then.quarters % 4) quarter (passed (λ _. mirrored) f.first p)

abbrev pub place_below : Pair (Option Mirror) Turn → Place → Place
place_below f p = passed (λ _. mirrored) f.first (times (f.then.quarters % 4) unquarter p)

abbrev pub heading_seen : Pair (Option Mirror) Turn → Heading → Heading
heading_seen f h = times (f.then.quarters % 4) right (passed (λ _. flipped) f.first h)

abbrev pub heading_below : Pair (Option Mirror) Turn → Heading → Heading
heading_below f h = passed (λ _. flipped) f.first (times (f.then.quarters % 4) left h)

-- what the refusal of a number tells
abbrev pub told : FrameFault → Refusal
told (Unknown number) = refused 1 Survey 0

-- no frame has the number, and this is the refusal
abbrev pub Refuses : ℕ → FrameFault → Type 0
Refuses f e = (8 ≤ f) × (e ≡ Unknown f) × (told e ≡ refused 1 Survey 0)
