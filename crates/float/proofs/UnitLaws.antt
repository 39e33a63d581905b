-- The values from 0 to 1: the clamp gives such a value, and so does a product of two. Assumes nothing.
use Rattle.std.proofs.Common.{cond, T}
use lib.Ieee.{Float, binary64, mul, lt, le, fits}
use lib.Ieee.Fits.{mul-fits, cond-fits}
use Rattle.float.specs.Order.{f64_zero, f64_one, clamp_unit, ordinary, Unit01}
use Rattle.float.proofs.NonNegLaws.{le_trans, mul_shrinks, mul_nonneg, clamp_range}

zero_held : T (fits binary64 f64_zero) × T (le f64_zero f64_one)
unfolding fits le
zero_held = (tt, tt)

one_held : T (fits binary64 f64_one) × T (le f64_one f64_one)
unfolding fits le
one_held = (tt, tt)

pub zero_unit : Unit01 f64_zero
zero_unit = record { held = zero_held.0; low = tt; high = zero_held.1 }

pub one_unit : Unit01 f64_one
one_unit = record { held = one_held.0; low = tt; high = one_held.1 }

pub clamped_unit : (x : Float) → T (fits binary64 x) → T (ordinary x) → Unit01 (clamp_unit x)
clamped_unit x h o = record {
  held = cond-fits binary64 (lt x f64_zero) f64_zero (cond (lt f64_one x) f64_one x) zero_held.0 (cond-fits binary64 (lt f64_one x) f64_one x one_held.0 h);
  low = (clamp_range x o).0;
  high = (clamp_range x o).1;
}

pub mul_unit : (x p : Float) → Unit01 x → Unit01 p → Unit01 (mul binary64 x p)
mul_unit x p a b =
    let n = mul_nonneg x p a.held a.low b.low b.high in
    record { held = mul-fits binary64 x p; low = n; high = le_trans (mul binary64 x p) x f64_one n a.low tt (mul_shrinks x p a.held a.low b.low b.high) a.high }
