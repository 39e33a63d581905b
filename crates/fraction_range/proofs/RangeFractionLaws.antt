-- The two fractions that `estimated_distinct_intersection` takes of ranges whose ends a sheet may hold lie from 0 to 1 and are not -0, of whatever types the ends are. Assumes nothing.
use Prim.Native.Nat.{ℕ}
use mathlib.Core.Path.{◌≡◌, refl, sym, subst}
use mathlib.Core.Logic.{◌≢◌}
use mathlib.Core.Bool.{Bool, true, false, cond, ◌&&◌}
use native.Mathlib.Omega.{arith}
use lib.Dec.{lit≤}
use lib.IntN.{ℤ, pos}
use lib.Ieee.{Float, binary64, fits}
use lib.Ieee.Fits.{and_l, and_r}
use Rattle.std.specs.Prelude.{Option, Some, None, option_map, option_and_then}
use Rattle.float.specs.Integers.{bit}
use Rattle.scalar.specs.Types.{as_boolean, as_int32, as_int64, as_float64, as_date32}
use Rattle.scalar.specs.Order.{scalar_order, is_less, is_greater}
use Rattle.scalar.specs.declared.Scalar.{Scalar}
use Rattle.scalar.specs.declared.Scalar.TheVariants.{Null, Boolean, Int32, Int64, Float64, Decimal128, Date32, IntervalMonthDayNano, IntervalDayTime}
use Rattle.scalar.proofs.TypeLaws.{scalar_tag, boolean_or_none, int32_or_none, int64_or_none, date32_or_none, float64_or_none, decimal128_or_none}
use Rattle.scalar_bytes.specs.Reading.{float64_lawful}
use Rattle.scalar_bytes.specs.Encoding.{in32, in64, lawful_scalar}
use Rattle.units.specs.Sizes.{Tame}
use Rattle.units.proofs.ScalarLaws.{holds, narrow, wide}
use Rattle.interval.specs.Intervals.{interval_of}
use Rattle.interval.specs.Fraction.{typed_ends, ends_fraction, scalar_interval_fraction}
use Rattle.interval.specs.declared.fraction.ScalarEnds.TheVariants.{Floats}
use Rattle.interval.specs.Intersection.{overlap_lower, overlap_upper, overlap}
use Rattle.interval.proofs.FractionCases.{null_fraction, month_day_nano_fraction, day_time_fraction}
use Rattle.fraction_range.specs.Distinct.{InUnit}
use Rattle.fraction_range.proofs.WholeFractionLaws.{In64, Each, Decimal64, integers_unit, left_decimals, right_decimals}
use Rattle.fraction_range.proofs.ContinuousLaws.{continuous_unit}

-- ---- the numbers of a scalar that a sheet may hold

boolean_64 : (x : Scalar) → lawful_scalar x ≡ true → Each In64 (as_boolean x)
boolean_64 = boolean_or_none (λ x o. lawful_scalar x ≡ true → Each In64 o) (λ x h. tt) bit_64
  where
    bit_64 : (b : Bool) → lawful_scalar (Boolean b) ≡ true → In64 (pos (bit b))
    bit_64 true h = lit≤ tt
    bit_64 false h = lit≤ tt

int32_64 : (x : Scalar) → lawful_scalar x ≡ true → Each In64 (as_int32 x)
unfolding lawful_scalar
int32_64 = int32_or_none (λ x o. lawful_scalar x ≡ true → Each In64 o) (λ x h. tt) (λ x h. narrow x (holds (in32 x) h))

int64_64 : (x : Scalar) → lawful_scalar x ≡ true → Each In64 (as_int64 x)
unfolding lawful_scalar
int64_64 = int64_or_none (λ x o. lawful_scalar x ≡ true → Each In64 o) (λ x h. tt) (λ x h. wide x (holds (in64 x) h))

date32_64 : (x : Scalar) → lawful_scalar x ≡ true → Each In64 (as_date32 x)
unfolding lawful_scalar
date32_64 = date32_or_none (λ x o. lawful_scalar x ≡ true → Each In64 o) (λ x h. tt) (λ x h. narrow x (holds (in32 x) h))

held_64 : (a : ℤ) (p s : ℕ) → lawful_scalar (Decimal128 a p s) ≡ true → In64 a
unfolding lawful_scalar
held_64 a p s h = wide a (and_l (in64 a) _ (holds _ h))

decimal_64 : (p s : ℕ) (x : Scalar) → lawful_scalar x ≡ true → Decimal64 p s x
unfolding lawful_scalar
decimal_64 p s = decimal128_or_none p s (λ x o. lawful_scalar x ≡ true → Each In64 o) (λ x h. tt) (λ x. held_64 x p s)

float_tame : (x : Scalar) → lawful_scalar x ≡ true → Each Tame (as_float64 x)
unfolding lawful_scalar
float_tame = float64_or_none (λ x o. lawful_scalar x ≡ true → Each Tame o) (λ x h. tt) tame
  where
    tame : (x : Float) → (fits binary64 x && float64_lawful x) ≡ true → Tame x
    tame x h = let t = holds (fits binary64 x && float64_lawful x) h in record { held = and_l (fits binary64 x) (float64_lawful x) t; lawful = and_r (fits binary64 x) (float64_lawful x) t }

-- ---- an end of the overlap is one of two
one_of : (b : Bool) (x y : Scalar) → lawful_scalar x ≡ true → lawful_scalar y ≡ true → lawful_scalar (cond b x y) ≡ true
one_of true x y h k = h
one_of false x y h k = k

pub lower_lawful : (x y : Scalar) → lawful_scalar x ≡ true → lawful_scalar y ≡ true → lawful_scalar (overlap_lower x y) ≡ true
unfolding overlap_lower
lower_lawful x y h k = one_of (is_less (scalar_order x y)) y x k h

pub upper_lawful : (x y : Scalar) → lawful_scalar x ≡ true → lawful_scalar y ≡ true → lawful_scalar (overlap_upper x y) ≡ true
unfolding overlap_upper
upper_lawful x y h k = one_of (is_greater (scalar_order x y)) y x k h

-- ---- a range of other types than decimals, whatever the overlap is

floats_unit : (l : Float) (u ol ou : Option Float) → Tame l → Each Tame u → Each Tame ol → Each Tame ou → InUnit (option_and_then ends_fraction (option_map Floats (typed_ends l u ol ou)))
unfolding ends_fraction
floats_unit l None ol ou hl hu hol hou = tt
floats_unit l (Some u) None ou hl hu hol hou = tt
floats_unit l (Some u) (Some ol) None hl hu hol hou = tt
floats_unit l (Some u) (Some ol) (Some ou) hl hu hol hou = continuous_unit l u ol ou hl hu hol hou

no_fraction : (x : Option Float) → x ≡ None → InUnit x
no_fraction x e = subst InUnit (sym e) tt

-- all but decimals
abbrev NoDecimal : Scalar → Type 0
NoDecimal x = scalar_tag x ≢ 5

other_unit : (l u ol ou : Scalar) → lawful_scalar l ≡ true → lawful_scalar u ≡ true → lawful_scalar ol ≡ true → lawful_scalar ou ≡ true → NoDecimal l → InUnit (scalar_interval_fraction (interval_of l u) (interval_of ol ou))
unfolding scalar_interval_fraction
other_unit Null u ol ou hl hu hol hou n = no_fraction _ (null_fraction u ol ou)
other_unit (Boolean b) u ol ou hl hu hol hou n = integers_unit (pos (bit b)) (as_boolean u) (as_boolean ol) (as_boolean ou) (boolean_64 (Boolean b) hl) (boolean_64 u hu) (boolean_64 ol hol) (boolean_64 ou hou)
other_unit (Int32 x) u ol ou hl hu hol hou n = integers_unit x (as_int32 u) (as_int32 ol) (as_int32 ou) (int32_64 (Int32 x) hl) (int32_64 u hu) (int32_64 ol hol) (int32_64 ou hou)
other_unit (Int64 x) u ol ou hl hu hol hou n = integers_unit x (as_int64 u) (as_int64 ol) (as_int64 ou) (int64_64 (Int64 x) hl) (int64_64 u hu) (int64_64 ol hol) (int64_64 ou hou)
other_unit (Float64 x) u ol ou hl hu hol hou n = floats_unit x (as_float64 u) (as_float64 ol) (as_float64 ou) (float_tame (Float64 x) hl) (float_tame u hu) (float_tame ol hol) (float_tame ou hou)
other_unit (Decimal128 x p s) u ol ou hl hu hol hou n = absurd (n refl)
other_unit (Date32 x) u ol ou hl hu hol hou n = integers_unit x (as_date32 u) (as_date32 ol) (as_date32 ou) (date32_64 (Date32 x) hl) (date32_64 u hu) (date32_64 ol hol) (date32_64 ou hou)
other_unit (IntervalMonthDayNano m d t) u ol ou hl hu hol hou n = no_fraction _ (month_day_nano_fraction m d t u ol ou)
other_unit (IntervalDayTime d t) u ol ou hl hu hol hou n = no_fraction _ (day_time_fraction d t u ol ou)

-- ---- ranges of any types

module _ (Goal : Scalar → Type 0) (decimal : (a : ℤ) (p s : ℕ) → Goal (Decimal128 a p s)) (other : (x : Scalar) → NoDecimal x → Goal x) where
  by_decimal : (x : Scalar) → Goal x
  by_decimal Null = other Null (λ e. let z : ◌≡◌ {A = ℕ} 0 5 = e in omega arith)
  by_decimal (Boolean b) = other (Boolean b) (λ e. let z : ◌≡◌ {A = ℕ} 1 5 = e in omega arith)
  by_decimal (Int32 x) = other (Int32 x) (λ e. let z : ◌≡◌ {A = ℕ} 2 5 = e in omega arith)
  by_decimal (Int64 x) = other (Int64 x) (λ e. let z : ◌≡◌ {A = ℕ} 3 5 = e in omega arith)
  by_decimal (Float64 x) = other (Float64 x) (λ e. let z : ◌≡◌ {A = ℕ} 4 5 = e in omega arith)
  by_decimal (Decimal128 x p s) = decimal x p s
  by_decimal (Date32 x) = other (Date32 x) (λ e. let z : ◌≡◌ {A = ℕ} 6 5 = e in omega arith)
  by_decimal (IntervalMonthDayNano m d n) = other (IntervalMonthDayNano m d n) (λ e. let z : ◌≡◌ {A = ℕ} 8 5 = e in omega arith)
  by_decimal (IntervalDayTime d t) = other (IntervalDayTime d t) (λ e. let z : ◌≡◌ {A = ℕ} 9 5 = e in omega arith)

module _ (ll lu rl ru : Scalar) (hll : lawful_scalar ll ≡ true) (hlu : lawful_scalar lu ≡ true) (hrl : lawful_scalar rl ≡ true) (hru : lawful_scalar ru ≡ true) where
  pub left_unit : InUnit (scalar_interval_fraction (interval_of ll lu) (overlap (interval_of ll lu) (interval_of rl ru)))
  unfolding scalar_interval_fraction
  left_unit =
      by_decimal
      (λ l. lawful_scalar l ≡ true → InUnit (scalar_interval_fraction (interval_of l lu) (overlap (interval_of l lu) (interval_of rl ru))))
      (λ a p s h. left_decimals p s a lu rl ru (held_64 a p s h) (decimal_64 p s lu hlu) (decimal_64 p s rl hrl) (decimal_64 p s ru hru))
      (λ l n h. other_unit l lu (overlap_lower l rl) (overlap_upper lu ru) h hlu (lower_lawful l rl h hrl) (upper_lawful lu ru hlu hru) n)
      ll hll

  pub right_unit : InUnit (scalar_interval_fraction (interval_of rl ru) (overlap (interval_of ll lu) (interval_of rl ru)))
  unfolding scalar_interval_fraction
  right_unit =
      by_decimal
      (λ l. lawful_scalar l ≡ true → InUnit (scalar_interval_fraction (interval_of l ru) (overlap (interval_of ll lu) (interval_of l ru))))
      (λ a p s h. right_decimals p s a ll lu ru (held_64 a p s h) (decimal_64 p s ll hll) (decimal_64 p s lu hlu) (decimal_64 p s ru hru))
      (λ l n h. other_unit l ru (overlap_lower ll l) (overlap_upper lu ru) h hru (lower_lawful ll l hll h) (upper_lawful lu ru hlu hru) n)
      rl hrl
