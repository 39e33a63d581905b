-- Powers of ten as floats. Definitions only.
use Rattle.std.specs.Prelude.{ℕ, ◌^◌, min, pos, Float}
use Rattle.std.specs.Float.{binary64}
use Rattle.std.specs.Float.Ieee.{of_int}

-- 10 ^ k for the scales 0 .. 22 that document 01 allows, all of which binary64 holds; above that, 10 ^ 22
unfoldable pub power_of_ten : ℕ → Float
unfolding of_int
power_of_ten k = of_int binary64 (pos (10 ^ min k 22))
