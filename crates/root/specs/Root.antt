-- squareRoot of IEEE 754-2019 (5.4.1, 4.3.1) at binary64: the infinitely precise root, rounded once to the nearest value, a tie to the even one. Definitions only.
-- Counted in squares of the format's smallest value a positive finite x is a whole number n. Its root is then √n smallest values, and √n is compared by squares.
use Rattle.std.specs.Prelude.{ℕ, zero, suc, ◌+◌, ◌-◌, ◌*◌, ◌/◌, ◌^◌, false, cond, Float}
use Prim.Native.Nat.{compare}
use Rattle.std.specs.Float.{nan, inf, fin, Format, binary64}
use Rattle.std.specs.Float.Ieee.{prec, low, up, down, size, nearest, units}
use Rattle.root.specs.Isqrt.{isqrt}

-- twice the middle between q * 2 ^ k and (q + 1) * 2 ^ k
abbrev pub middle : ℕ → ℕ → ℕ
middle q k = (2 * q + 1) * 2 ^ k

-- √n smallest values of the format f, rounded. As in the library's `round`, the whole part keeps its `prec` leading digits, q, and drops k. Twice √n stands to twice the middle as their
-- squares do.
unfoldable pub round_root : Format → ℕ → Float
unfolding isqrt size units
round_root f n =
    let k = size (isqrt n) - prec f in
    let q = isqrt n / 2 ^ k in
    units f false (nearest q (compare (4 * n) (middle q k * middle q k))) k

-- The root of -0 is -0, and that of a number below zero, of -∞ and of a NaN is a NaN.
unfoldable pub root : Float → Float
unfolding round_root
root nan = nan
root (inf s) = cond s nan (inf false)
root (fin s zero e) = fin s zero e
root (fin s (suc m) e) = cond s nan (round_root binary64 (suc m * up e * 2 ^ (2 * low binary64) / down e))
