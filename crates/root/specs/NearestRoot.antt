-- What it says that a value is the one nearest to √x, with no root in it. Definitions only.
-- r and y are equally far from their middle, (r + y) / 2. So r is nearer to √x than y is, exactly where √x and r lie on the same side of that middle. And √x lies below (r + y) / 2 where 4 * x lies below (r + y) * (r + y).
use Rattle.std.specs.Prelude.{ℕ, ◌+◌, ◌*◌, ◌<◌, T, Float}
use Rattle.std.specs.Float.{binary64}
use Rattle.std.specs.Float.Ieee.{fits, lt}
use Rattle.std.specs.Float.Ieee.Positive.{num, den}
use Rattle.float.specs.Order.{nonneg}

abbrev pub square : ℕ → ℕ
square n = n * n

-- A finite value x is num x / den x in size, and r + y is the fraction sum_num r y / (den r * den y) of values that are not negative.
abbrev pub sum_num : Float → Float → ℕ
sum_num r y = num r * den y + num y * den r

-- r is a finite value of binary64, and of all its values with the sign clear none other is as near to √x
pub record NearestRoot (x r : Float) : Type 0 where
  pub held : T (fits binary64 r)
  pub finite : T (nonneg r)
  pub above : (y : Float) → T (fits binary64 y) → T (nonneg y) → T (lt r y) → 4 * num x * square (den r * den y) < square (sum_num r y) * den x
  pub below : (y : Float) → T (fits binary64 y) → T (nonneg y) → T (lt y r) → square (sum_num r y) * den x < 4 * num x * square (den r * den y)
