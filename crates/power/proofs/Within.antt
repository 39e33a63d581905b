-- The power of a value from 0 to 1 is such a value too, for an exponent of 1 or more. Assumes nothing.
use Rattle.std.proofs.Common.{ℕ, zero, suc, ◌-◌, ◌/◌, ◌%◌, ◌^◌, Bool, true, false, cond, T, pos}
use lib.Ieee.{Float, nan, fin, binary64, mul, eq, le, size, to_unsigned}
use Rattle.float.specs.Order.{f64_zero, f64_one, Unit01}
use Rattle.float.proofs.UnitLaws.{zero_unit, one_unit, mul_unit}
use Rattle.root.specs.Root.{root}
use Rattle.root.proofs.RootLaws.{root_unit}
use Rattle.power.specs.Power.{times_if, whole_power, root_power, fraction_digits, finite_power, power}

times_unit : (d : ℕ) (r p : Float) → Unit01 r → Unit01 p → Unit01 (times_if d r p)
unfolding times_if
times_unit zero r p a b = b
times_unit (suc d) r p a b = mul_unit p r b a

whole_unit : (d : ℕ) (x : Float) (n : ℕ) → Unit01 x → Unit01 (whole_power d x n)
unfolding whole_power
whole_unit zero x n a = a
whole_unit (suc d) x n a =
    let p = whole_power d x (n / 2) in
    let b = whole_unit d x (n / 2) a in
    times_unit (n % 2) x (mul binary64 p p) a (mul_unit p p b b)

roots_unit : (j : ℕ) (r p : Float) (u : ℕ) → Unit01 r → Unit01 p → Unit01 (root_power j r p u)
unfolding root_power
roots_unit zero r p u a b = b
roots_unit (suc j) r p u a b = let s = root_unit r a in roots_unit j (root r) (times_if (u / 2 ^ j % 2) (root r) p) u s (times_unit (u / 2 ^ j % 2) (root r) p s b)

finite_unit : (x f : Float) → Unit01 x → Unit01 (finite_power x f)
unfolding finite_power
finite_unit x f a = let n = to_unsigned 64 f in roots_unit 30 x (whole_power (size n - 1) x n) (fraction_digits f) a (whole_unit (size n - 1) x n a)

pub power_unit : (x f : Float) → Unit01 x → T (le f64_one f) → Unit01 (power x f)
unfolding power
power_unit x f a h = go (eq x f64_one) (le (fin false 1 (pos 63)) f) (le f64_one f) h
  where
    go : (s t v : Bool) → T v → Unit01 (cond s f64_one (cond t f64_zero (cond v (finite_power x f) nan)))
    go true t v h = one_unit
    go false true v h = zero_unit
    go false false true h = finite_unit x f a
    go false false false h = absurd h
