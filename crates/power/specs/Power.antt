-- The power of document 01, x to the f, operation by operation, each rounded to nearest even at binary64. Definitions only.
use Rattle.std.specs.Prelude.{ℕ, zero, suc, ◌-◌, ◌*◌, ◌/◌, ◌%◌, ◌^◌, false, cond, pos, Float}
use Rattle.std.specs.Float.{nan, inf, fin, binary64}
use Rattle.std.specs.Float.Ieee.{up, down, size, mul, eq, le, to_unsigned}
use Rattle.root.specs.Root.{root}
use Rattle.float.specs.Order.{f64_zero, f64_one}

-- p, times r where the digit is 1
unfoldable pub times_if : ℕ → Float → Float → Float
unfolding mul
times_if zero r p = p
times_if (suc digit) r p = mul binary64 p r

-- x to the whole power n, which has d binary digits below the leading one: for each of them, from high to low, a square, and where it is 1 a product with x
unfoldable pub whole_power : ℕ → Float → ℕ → Float
unfolding times_if mul
whole_power zero x n = x
whole_power (suc d) x n = let p = whole_power d x (n / 2) in times_if (n % 2) x (mul binary64 p p)

-- p times a repeated root of r for each of the j digits of u that is 1, from high to low: the root of r goes with the highest
unfoldable pub root_power : ℕ → Float → Float → ℕ → Float
unfolding times_if root
root_power zero r p u = p
root_power (suc j) r p u = root_power j (root r) (times_if (u / 2 ^ j % 2) (root r) p) u

-- the first 30 binary digits of f's fraction, as a number
unfoldable pub fraction_digits : Float → ℕ
fraction_digits nan = 0
fraction_digits (inf s) = 0
fraction_digits (fin s m e) = m * up e * 2 ^ 30 / down e % 2 ^ 30

-- for f from 1 to below 2 ^ 63: the whole part, then the fraction
unfoldable pub finite_power : Float → Float → Float
unfolding whole_power root_power fraction_digits size to_unsigned
finite_power x f = let n = to_unsigned 64 f in root_power 30 x (whole_power (size n - 1) x n) (fraction_digits f)

-- The base 1 keeps its value under every exponent, and an exponent from 2 ^ 63 on gives 0. Document 01 asks for no f below 1, nor for a NaN: a NaN answers both.
unfoldable pub power : Float → Float → Float
unfolding finite_power eq le
power x f = cond (eq x f64_one) f64_one (cond (le (fin false 1 (pos 63)) f) f64_zero (cond (le f64_one f) (finite_power x f) nan))
