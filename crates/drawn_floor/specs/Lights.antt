-- What is read over a cell.
use Rattle.std.specs.Prelude.{ℕ, false, pos, negsuc, Float}
use Rattle.std.specs.Float.{fin, binary32}
use Rattle.std.specs.Float.Ieee.{mul, of_int}
use Rattle.map_format.specs.declared.cell.Cell.{Cell}
use Rattle.map_format.specs.declared.cell.Cell.TheVariants.{Blocked, Free, Lamp}
use Rattle.drawn_floor.specs.declared.light.Light.{Light}
use Rattle.drawn_floor.specs.declared.light.Light.TheVariants.{Unlit, Lux}

-- 12.5 as a float: 25 times 2 to the power -1
abbrev pub twelve_and_half : Float
twelve_and_half = fin false 25 (negsuc 0)

-- the product of a digit and 12.5, of 32-bit floats
abbrev pub lux : ℕ → Float
lux digit = mul binary32 (of_int binary32 (pos digit)) twelve_and_half

abbrev pub light_of : Cell → Light
light_of Blocked = Unlit
light_of Free = Unlit
light_of (Lamp digit) = Lux (lux digit.value)
