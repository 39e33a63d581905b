-- `scalar_interval_fraction` of the source's analysis.rs: which part of the values from lower to upper lies in an overlap. The types are looked at first, then whether they have a width, then the width itself. Definitions only.
use Rattle.std.specs.Prelude.{zero, Bool, true, false, cond, not, ◌&&◌, ◌||◌, ℤ, pos, ◌+ℤ◌, ◌-ℤ◌, Float, Option, Some, None, is_some, option_map, option_and_then}
use Rattle.std.specs.Float.{binary64, float_is_finite}
use Rattle.std.specs.Float.Ieee.{of_int, sub, div, lt, eq}
use Rattle.float.specs.Integers.{bit}
use Rattle.float.specs.Order.{f64_zero, f64_one, clamp_unit}
use Rattle.scalar.specs.Types.{is_null, as_boolean, as_int32, as_int64, as_float64, as_decimal128, as_date32, as_month_day_nano, as_day_time}
use Rattle.scalar.specs.declared.Scalar.{Scalar}
use Rattle.scalar.specs.declared.Scalar.TheVariants.{Null, Boolean, Int32, Int64, Float64, Decimal128, Date32, IntervalMonthDayNano, IntervalDayTime}
use Rattle.interval.specs.Intervals.{interval_of}
use Rattle.interval.specs.declared.Interval.{Interval}
use Rattle.interval.specs.declared.fraction.Ends.{Ends}
use Rattle.interval.specs.declared.fraction.ScalarEnds.{ScalarEnds}
use Rattle.interval.specs.declared.fraction.ScalarEnds.TheVariants.{NoWidth, Integers, Floats, Decimals}

abbrev pub ends_of : {T : Type 0} → Interval T → Interval T → Ends T
ends_of interval overlap = record { interval = interval; overlap = overlap }

-- whole numbers: both ends count
unfoldable pub discrete : Ends ℤ → Option Float
discrete e =
    let width = of_int binary64 (e.interval.upper -ℤ e.interval.lower +ℤ pos 1) in
    let overlap = of_int binary64 (e.overlap.upper -ℤ e.overlap.lower +ℤ pos 1) in
    cond (lt f64_zero width) (Some (clamp_unit (div binary64 overlap width))) None

unfoldable pub continuous : Ends Float → Option Float
continuous e =
    let width = sub binary64 e.interval.upper e.interval.lower in
    let overlap = sub binary64 e.overlap.upper e.overlap.lower in
    cond (not (float_is_finite width) || lt width f64_zero) None
    (cond (eq width f64_zero) (Some f64_one)
    (Some (clamp_unit (div binary64 overlap width))))

abbrev pub is_zero : ℤ → Bool
is_zero (pos zero) = true
is_zero _ = false

-- `continuous_i128`: decimals of one precision and scale; a width below 0 is not tested for
unfoldable pub decimal : Ends ℤ → Option Float
decimal e =
    let width = e.interval.upper -ℤ e.interval.lower in
    let overlap = e.overlap.upper -ℤ e.overlap.lower in
    cond (is_zero width) (Some f64_one) (Some (clamp_unit (div binary64 (of_int binary64 overlap) (of_int binary64 width))))

-- ---- the types

-- the upper end and the overlap's two beside the lower end, where all are of its type
abbrev pub typed_ends : {T : Type 0} → T → Option T → Option T → Option T → Option (Ends T)
typed_ends lower (Some upper) (Some overlap_lower) (Some overlap_upper) = Some (ends_of (interval_of lower upper) (interval_of overlap_lower overlap_upper))
typed_ends lower _ _ _ = None

-- of a type without a width: whether the other three are of it
abbrev pub widthless_ends : Bool → Bool → Bool → Option ScalarEnds
widthless_ends upper overlap_lower overlap_upper = cond (upper && overlap_lower && overlap_upper) (Some NoWidth) None

-- the four ends by the type of the first, and nothing where another is of an unlike type
unfoldable pub scalar_ends : Scalar → Scalar → Scalar → Scalar → Option ScalarEnds
scalar_ends Null upper overlap_lower overlap_upper = widthless_ends (is_null upper) (is_null overlap_lower) (is_null overlap_upper)
scalar_ends (Boolean b) upper overlap_lower overlap_upper = option_map Integers (typed_ends (pos (bit b)) (as_boolean upper) (as_boolean overlap_lower) (as_boolean overlap_upper))
scalar_ends (Int32 x) upper overlap_lower overlap_upper = option_map Integers (typed_ends x (as_int32 upper) (as_int32 overlap_lower) (as_int32 overlap_upper))
scalar_ends (Int64 x) upper overlap_lower overlap_upper = option_map Integers (typed_ends x (as_int64 upper) (as_int64 overlap_lower) (as_int64 overlap_upper))
scalar_ends (Float64 x) upper overlap_lower overlap_upper = option_map Floats (typed_ends x (as_float64 upper) (as_float64 overlap_lower) (as_float64 overlap_upper))
scalar_ends (Decimal128 value precision scale) upper overlap_lower overlap_upper =
    option_map Decimals (typed_ends value (as_decimal128 precision scale upper) (as_decimal128 precision scale overlap_lower) (as_decimal128 precision scale overlap_upper))
scalar_ends (Date32 x) upper overlap_lower overlap_upper = option_map Integers (typed_ends x (as_date32 upper) (as_date32 overlap_lower) (as_date32 overlap_upper))
scalar_ends (IntervalMonthDayNano months days nanoseconds) upper overlap_lower overlap_upper =
    widthless_ends (is_some (as_month_day_nano upper)) (is_some (as_month_day_nano overlap_lower)) (is_some (as_month_day_nano overlap_upper))
scalar_ends (IntervalDayTime days milliseconds) upper overlap_lower overlap_upper =
    widthless_ends (is_some (as_day_time upper)) (is_some (as_day_time overlap_lower)) (is_some (as_day_time overlap_upper))

-- ---- the fraction

unfoldable pub ends_fraction : ScalarEnds → Option Float
unfolding discrete continuous decimal
ends_fraction NoWidth = None
ends_fraction (Integers e) = discrete e
ends_fraction (Floats e) = continuous e
ends_fraction (Decimals e) = decimal e

unfoldable pub scalar_interval_fraction : Interval Scalar → Interval Scalar → Option Float
unfolding scalar_ends ends_fraction
scalar_interval_fraction interval overlap = option_and_then ends_fraction (scalar_ends interval.lower interval.upper overlap.lower overlap.upper)
