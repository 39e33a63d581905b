-- An exponent f from 1 to below 2 ^ 63: its whole part is a number of 64 digits, and 1 at least. Assumes nothing.
use Rattle.std.proofs.Common.{◌≡◌, ℕ, ◌*◌, ◌/◌, ◌<◌, ◌≤◌, min, true, false, T, pos, le_trans, le_of_eq, le-div_iff_mul-le, mul-one, arith}
use Rattle.std.proofs.lemmas.Float.{T_from_false, le_right, lt_trans, lt_of_lt_of_le, lt_of_not-le}
use lib.Ieee.{Float, nan, inf, fin, up, down, le, lt, is_nan, to_unsigned}
use lib.Ieee.Fits.{down_pos}
use lib.Ieee.Positive.{positive, le→cross, between}
use Rattle.float.specs.Order.{f64_one}
use Rattle.float.proofs.OrderLaws.{lt_le}

abbrev pub top : Float
top = fin false 1 (pos 63)

-- what the conversion to a whole number asks
below_one : T (lt (fin true 1 (pos 0)) f64_one)
unfolding lt
below_one = tt

above_top : T (lt top (fin false 1 (pos 64)))
unfolding lt
above_top = tt

pub above_minus_one : (f : Float) → T (le f64_one f) → T (lt (fin true 1 (pos 0)) f)
above_minus_one f h = lt_of_lt_of_le (fin true 1 (pos 0)) f64_one f below_one h

pub below_64 : (f : Float) → T (lt f top) → T (lt f (fin false 1 (pos 64)))
below_64 f h = lt_trans f top (fin false 1 (pos 64)) h above_top

-- not 2 ^ 63 or more
pub below_top : (f : Float) → T (le f64_one f) → le top f ≡ false → T (lt f top)
unfolding is_nan
below_top f h k = lt_of_not-le top f tt (le_right f64_one f h) (T_from_false (le top f) k)

pub exponent_positive : (f : Float) → T (le f64_one f) → T (lt f top) → T (positive f)
exponent_positive f h k = between f64_one f top tt tt h (lt_le f top k)

-- ---- the whole part
pub whole_pos : (f : Float) → T (le f64_one f) → T (lt f top) → 0 < to_unsigned 64 f
whole_pos f h k = go f h (exponent_positive f h k)
  where
    both : (q : ℕ) → 1 ≤ q → 0 < min q 0xffff_ffff_ffff_ffff
    both q h = omega arith

    go : (f : Float) → T (le f64_one f) → T (positive f) → 0 < to_unsigned 64 f
    go nan h p = absurd p
    go (inf s) h p = absurd p
    go (fin true m e) h p = absurd p
    go (fin false m e) h p = unfold to_unsigned in both (m * up e / down e) ((le-div_iff_mul-le {k = down e} {x = 1} {y = m * up e} (down_pos e)).1 (le_trans (le→cross f64_one (fin false m e) tt p h) (le_of_eq (mul-one (m * up e)))))
