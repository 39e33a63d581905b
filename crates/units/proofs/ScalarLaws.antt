-- The number of a scalar that a sheet may hold is tame. Assumes nothing.
use mathlib.Core.Path.{◌≡◌, refl, sym, subst, ◌∙◌}
use mathlib.Core.Logic.{inl, inr}
use mathlib.Core.Bool.{Bool, true, ◌&&◌}
use Prim.Native.Nat.{ℕ, zero, suc, ◌*◌, ◌^◌, ◌≤◌, ◌<◌}
use native.Mathlib.Nat as Nat
use native.Mathlib.Nat.{le_of_eq, zero-lt-suc, one-le-pow, pow-le-pow_right, mul-le-mul_right}
use lib.IntN.{ℤ, pos, negsuc, nat_abs}
use lib.Signed.{mag}
use lib.Dec.{T, leb, leb→le, ltb→lt, lit≤}
use lib.Ieee.{binary64, of_int, div, fits}
use lib.Ieee.Fits.{and_l, and_r}
use lib.Ieee.Positive.{num, den, value→cross}
use Rattle.std.specs.Prelude.{IfSome}
use Rattle.float.specs.Order.{f64_zero}
use Rattle.float.specs.Tens.{power_of_ten}
use Rattle.float.proofs.IntegerLaws.{of_int_neg}
use Rattle.float.proofs.TenLaws.{ten_exact, ten_fits, ten_positive}
use Rattle.scalar.specs.Number.{scalar_to_f64}
use Rattle.scalar.specs.declared.Scalar.{Scalar}
use Rattle.scalar.specs.declared.Scalar.TheVariants.{Null, Boolean, Int32, Int64, Float64, Decimal128, Date32, IntervalMonthDayNano, IntervalDayTime}
use Rattle.scalar_bytes.specs.Reading.{float64_lawful}
use Rattle.scalar_bytes.specs.Encoding.{in32, in64, lawful_scalar}
use Rattle.units.specs.Sizes.{UpTo, AtLeast, Spread, Tame}
use Rattle.units.proofs.SizeLaws.{count_up_to, count_at_least}
use Rattle.units.proofs.FigureLaws.{positive_nonneg}
use Rattle.units.proofs.SpreadLaws.{div_spread}
use Rattle.units.proofs.TameLaws.{spread_tame}

-- ---- whole numbers
zero_is : of_int binary64 (pos 0) ≡ f64_zero
unfolding of_int
zero_is = refl

pub count_sized : (h n : ℕ) → h ≤ 1023 → suc n ≤ 2 ^ h → AtLeast 0 (of_int binary64 (pos (suc n))) × UpTo h (of_int binary64 (pos (suc n)))
count_sized h n H k = let u = count_up_to h (suc n) H k in (count_at_least (suc n) (zero-lt-suc n) u.low, u)

pub integer_spread : (h : ℕ) (z : ℤ) → h ≤ 1023 → nat_abs z ≤ 2 ^ h → Spread 0 h (of_int binary64 z)
integer_spread h (pos zero) H k = inl zero_is
integer_spread h (pos (suc n)) H k = inr (inl (count_sized h n H k))
integer_spread h (negsuc n) H k = let s = count_sized h n H k in inr (inr (of_int binary64 (pos (suc n)), of_int_neg binary64 n, s.0, s.1))

-- within 64 bits
signed_size : (z : ℤ) → mag z < 2 ^ 63 → nat_abs z ≤ 2 ^ 63
signed_size (pos n) h = Nat.le_trans (Nat.le-suc n) h
signed_size (negsuc n) h = h

signed_spread : (z : ℤ) → mag z < 2 ^ 63 → Spread 0 63 (of_int binary64 z)
signed_spread z h = integer_spread 63 z (lit≤ tt) (signed_size z h)

pub integer_tame : (z : ℤ) → mag z < 2 ^ 63 → Tame (of_int binary64 z)
integer_tame z h = spread_tame 0 63 (of_int binary64 z) (lit≤ tt) (lit≤ tt) (signed_spread z h)

-- ---- decimals: 10 ^ 22 is below 2 ^ 74
ten_sized : (k : ℕ) → k ≤ 22 → AtLeast 0 (power_of_ten k) × UpTo 74 (power_of_ten k)
ten_sized k h =
    let x = power_of_ten k in
    let p = positive_nonneg x (ten_positive k h) in
    let e : num x * 1 ≡ 10 ^ k * den x = value→cross x (10 ^ k) 1 (ten_exact k h) in (
      record { low = p; floor = Nat.le_trans (le_of_eq (sym (Nat.one-mul (den x)))) (Nat.le_trans (mul-le-mul_right (den x) (one-le-pow k 10 (zero-lt-suc 9))) (le_of_eq (sym e))) },
      record {
        held = ten_fits k;
        low = p;
        high = Nat.le_trans (le_of_eq (sym (Nat.mul-one (num x)) ∙ e)) (mul-le-mul_right (den x) (Nat.le_trans {m = 10 ^ 22} (pow-le-pow_right (zero-lt-suc 9) h) (lit≤ tt)));
      },
    )

pub decimal_tame : (z : ℤ) (k : ℕ) → mag z < 2 ^ 63 → k ≤ 22 → Tame (div binary64 (of_int binary64 z) (power_of_ten k))
decimal_tame z k h l =
    let t = ten_sized k l in
    let x = div binary64 (of_int binary64 z) (power_of_ten k) in
    spread_tame 74 63 x (lit≤ tt) (lit≤ tt) (div_spread 0 63 0 74 (of_int binary64 z) (power_of_ten k) (lit≤ tt) (lit≤ tt) (signed_spread z h) t.0 t.1)

-- ---- scalars that have a number
pub holds : (b : Bool) → b ≡ true → T b
holds b e = subst T (sym e) tt

pub narrow : (z : ℤ) → T (in32 z) → mag z < 2 ^ 63
narrow z h = Nat.le_trans (ltb→lt (mag z) (2 ^ 31) h) (lit≤ tt)

pub wide : (z : ℤ) → T (in64 z) → mag z < 2 ^ 63
wide z h = ltb→lt (mag z) (2 ^ 63) h

pub scalar_tame : (x : Scalar) → lawful_scalar x ≡ true → IfSome (scalar_to_f64 x) Tame
unfolding lawful_scalar scalar_to_f64
scalar_tame Null h = tt
scalar_tame (Boolean b) h = tt
scalar_tame (Int32 x) h = integer_tame x (narrow x (holds (in32 x) h))
scalar_tame (Int64 x) h = integer_tame x (wide x (holds (in64 x) h))
scalar_tame (Float64 x) h = let t = holds (fits binary64 x && float64_lawful x) h in record { held = and_l (fits binary64 x) (float64_lawful x) t; lawful = and_r (fits binary64 x) (float64_lawful x) t }
scalar_tame (Decimal128 value precision scale) h =
    let p = leb 1 precision && leb precision 38 in
    let s = p && leb scale 22 in
    let t = holds (in64 value && s) h in
    decimal_tame value scale (wide value (and_l (in64 value) s t)) (leb→le scale 22 (and_r p (leb scale 22) (and_r (in64 value) s t)))
scalar_tame (Date32 x) h = integer_tame x (narrow x (holds (in32 x) h))
scalar_tame (IntervalMonthDayNano months days nanoseconds) h = tt
scalar_tame (IntervalDayTime days milliseconds) h = tt
