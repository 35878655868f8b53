-- What a refusal tells.
use Rattle.std.specs.Prelude.{ℕ}
use Rattle.fault.specs.declared.layer.Layer.{Layer}
use Rattle.fault.specs.declared.refusal.Refusal.{Refusal}

abbrev pub refused : ℕ → Layer → ℕ → Refusal
refused n l p = record { number = n; layer = l; place = p }
