-- Shares of counts: quotients of whole numbers and figures, clamped, lie from 0 to 1. Assumes nothing.
use mathlib.Core.Path.{◌≡◌, refl, sym, ◌∙◌}
use mathlib.Core.Bool.{true, false, true≢false}
use Prim.Native.Nat.{ℕ, zero, suc, ◌^◌, ◌≤◌}
use native.Mathlib.Nat.{zero-lt-suc}
use lib.IntN.{pos, negsuc}
use lib.Dec.{T, lit≤}
use lib.Ieee.{Float, fin, binary64, add, sub, mul, div, le, fits, of_int}
use Rattle.float.specs.Order.{f64_max, f64_zero, f64_one, clamp_unit, Unit01}
use Rattle.estimate.specs.Bytes.{LawfulFigure}
use Rattle.units.specs.Sizes.{UpTo, AtLeast}
use Rattle.units.proofs.SizeLaws.{le_up_to, add_up_to, mul_up_to, div_up_to, count_up_to, count_at_least, clamped_up_to}
use Rattle.units.proofs.FigureLaws.{figure_up_to}
use Rattle.units.proofs.SpreadLaws.{sub_nonneg_spread, up_to_stepped, spread_max_one}

abbrev count : ℕ → Float
count n = of_int binary64 (pos n)

abbrev half : Float
half = fin false 1 (negsuc 0)

half_held : T (fits binary64 half) × T (le half f64_one)
unfolding fits le
half_held = (tt, tt)

half_up_to : UpTo 0 half
half_up_to = le_up_to 0 half half_held.0 tt half_held.1

-- a count that is not zero as a float is 1 at least
zero_count : le (count 0) f64_zero ≡ true
unfolding of_int le
zero_count = refl

pub count_above : (h p : ℕ) → h ≤ 1023 → p ≤ 2 ^ h → le (of_int binary64 (pos p)) f64_zero ≡ false → AtLeast 0 (of_int binary64 (pos p))
count_above h zero H k e = absurd (true≢false (sym zero_count ∙ e))
count_above h (suc p) H k e = count_at_least (suc p) (zero-lt-suc p) (count_up_to h (suc p) H k).low

pub mixed_share_unit : (n m p : ℕ) → n ≤ 2 ^ 53 → m ≤ 2 ^ 53 → p ≤ 2 ^ 53 → le (of_int binary64 (pos p)) f64_zero ≡ false
    → Unit01 (clamp_unit (div binary64 (add binary64 (of_int binary64 (pos n)) (mul binary64 (of_int binary64 (pos m)) (fin false 1 (negsuc 0)))) (of_int binary64 (pos p))))
mixed_share_unit n m p N M P e =
    clamped_up_to 54 (div binary64 (add binary64 (count n) (mul binary64 (count m) half)) (count p))
    (div_up_to 54 0 (add binary64 (count n) (mul binary64 (count m) half)) (count p) (lit≤ tt)
    (add_up_to 53 (count n) (mul binary64 (count m) half) (lit≤ tt) (count_up_to 53 n (lit≤ tt) N) (mul_up_to 53 0 (count m) half (lit≤ tt) (count_up_to 53 m (lit≤ tt) M) half_up_to))
    (count_above 53 p (lit≤ tt) P e))

-- what is left of a figure d without k, and 1 at least
pub rest_max_one : (d : Float) (k : ℕ) → LawfulFigure d → k ≤ 2 ^ 64 → UpTo 64 (f64_max (sub binary64 d (of_int binary64 (pos k))) f64_one) × AtLeast 0 (f64_max (sub binary64 d (of_int binary64 (pos k))) f64_one)
rest_max_one d k f K =
    let u = figure_up_to d f in
    let v = count_up_to 64 k (lit≤ tt) K in
    spread_max_one 1074 64 (sub binary64 d (count k)) (sub_nonneg_spread 1074 64 d (count k) (lit≤ tt) (lit≤ tt) u.low v.low (up_to_stepped 64 d u) (up_to_stepped 64 (count k) v))

pub rest_share_unit : (n p k : ℕ) (d : Float) → n ≤ 2 ^ 53 → p ≤ 2 ^ 53 → k ≤ 2 ^ 64 → LawfulFigure d → le (of_int binary64 (pos p)) f64_zero ≡ false
    → Unit01 (clamp_unit (div binary64 (div binary64 (of_int binary64 (pos n)) (f64_max (sub binary64 d (of_int binary64 (pos k))) f64_one)) (of_int binary64 (pos p))))
rest_share_unit n p k d N P K f e =
    let w = f64_max (sub binary64 d (count k)) f64_one in
    clamped_up_to 53 (div binary64 (div binary64 (count n) w) (count p))
    (div_up_to 53 0 (div binary64 (count n) w) (count p) (lit≤ tt) (div_up_to 53 0 (count n) w (lit≤ tt) (count_up_to 53 n (lit≤ tt) N) (rest_max_one d k f K).1) (count_above 53 p (lit≤ tt) P e))
