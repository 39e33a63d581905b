-- `scalar_order` of the source's catalog.rs: unlike types have no order, and decimals need one precision and scale. Definitions only.
use Rattle.std.specs.Prelude.{Bool, ℤ, pos, Option, Some, None, option_and_then}
use Rattle.std.specs.Ordering.{int_cmp, float_partial_cmp, partial_ordering_then, is_some_and, is_lt, is_eq, is_gt}
use Rattle.std.specs.declared.cmp.Ordering.{Ordering}
use Rattle.float.specs.Integers.{bit}
use Rattle.scalar.specs.Types.{as_boolean, as_int32, as_int64, as_float64, as_decimal128, as_date32, as_month_day_nano, as_day_time}
use Rattle.scalar.specs.declared.Scalar.{Scalar}
use Rattle.scalar.specs.declared.Scalar.TheVariants.{Null, Boolean, Int32, Int64, Float64, Decimal128, Date32, IntervalMonthDayNano, IntervalDayTime}
use Rattle.scalar.specs.declared.types.MonthDayNano.{MonthDayNano}
use Rattle.scalar.specs.declared.types.DayTime.{DayTime}

abbrev pub integer_order : ℤ → ℤ → Option Ordering
integer_order a b = Some (int_cmp a b)

-- fields one after the other: the first that differs decides
abbrev pub month_day_nano_order : MonthDayNano → MonthDayNano → Option Ordering
month_day_nano_order x y = partial_ordering_then (partial_ordering_then (integer_order x.months y.months) (integer_order x.days y.days)) (integer_order x.nanoseconds y.nanoseconds)

abbrev pub day_time_order : DayTime → DayTime → Option Ordering
day_time_order x y = partial_ordering_then (integer_order x.days y.days) (integer_order x.milliseconds y.milliseconds)

-- a scalar of another type has no order, and nor has a NaN
unfoldable pub scalar_order : Scalar → Scalar → Option Ordering
scalar_order Null right = None
scalar_order (Boolean b) right = option_and_then (integer_order (pos (bit b))) (as_boolean right)
scalar_order (Int32 x) right = option_and_then (integer_order x) (as_int32 right)
scalar_order (Int64 x) right = option_and_then (integer_order x) (as_int64 right)
scalar_order (Float64 x) right = option_and_then (float_partial_cmp x) (as_float64 right)
scalar_order (Decimal128 value precision scale) right = option_and_then (integer_order value) (as_decimal128 precision scale right)
scalar_order (Date32 x) right = option_and_then (integer_order x) (as_date32 right)
scalar_order (IntervalMonthDayNano months days nanoseconds) right = option_and_then (month_day_nano_order (record { months = months; days = days; nanoseconds = nanoseconds })) (as_month_day_nano right)
scalar_order (IntervalDayTime days milliseconds) right = option_and_then (day_time_order (record { days = days; milliseconds = milliseconds })) (as_day_time right)

-- ---- an order that there is, and is this one

abbrev pub is_less : Option Ordering → Bool
is_less = is_some_and is_lt

abbrev pub is_equal : Option Ordering → Bool
is_equal = is_some_and is_eq

abbrev pub is_greater : Option Ordering → Bool
is_greater = is_some_and is_gt
