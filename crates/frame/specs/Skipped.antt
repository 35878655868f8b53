-- What a frame that may be absent does.
use Rattle.std.specs.Prelude.{Some, None, Option}

abbrev pub passed : {F A : Type 0} → (F → A → A) → Option F → A → A
passed by (Some f) a = by f a
passed by None a = a
