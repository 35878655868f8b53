-- The answers to some known maps.
use Rattle.std.specs.Prelude.{◌≡◌, [], ◌∷◌, Err}
use Rattle.map_format.specs.declared.faults.MapFault.TheVariants.{Length, ForbiddenByte, BadRow, NoStart, SecondStart}
use Rattle.map_format.specs.Answer.{answer}

pub record KnownMaps : Type 0 where
  -- rows .S and S.
  pub two_starts : answer (46 ∷ 83 ∷ 10 ∷ 83 ∷ 46 ∷ 10 ∷ []) ≡ Err (SecondStart 3)
  -- row #
  pub no_start : answer (35 ∷ 10 ∷ []) ≡ Err (NoStart 2)
  -- the byte S, without LF
  pub no_end : answer (83 ∷ []) ≡ Err (BadRow 0)
  -- rows S.. and ..
  pub short_row : answer (83 ∷ 46 ∷ 46 ∷ 10 ∷ 46 ∷ 46 ∷ 10 ∷ []) ≡ Err (BadRow 4)
  -- nothing at all
  pub no_bytes : answer [] ≡ Err (Length 0)
  -- row S, ended by CR (13) and LF
  pub carriage_return : answer (83 ∷ 13 ∷ 10 ∷ []) ≡ Err (ForbiddenByte 1)
