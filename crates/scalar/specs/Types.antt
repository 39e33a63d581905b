-- A scalar as a value of one type: its numbers where it is of that type, and none where it is of another. Definitions only.
use Rattle.std.specs.Prelude.{ℕ, Bool, true, false, cond, ◌&&◌, eqb, ℤ, pos, Float, Option, Some, None}
use Rattle.float.specs.Integers.{bit}
use Rattle.scalar.specs.declared.Scalar.{Scalar}
use Rattle.scalar.specs.declared.Scalar.TheVariants.{Null, Boolean, Int32, Int64, Float64, Decimal128, Date32, IntervalMonthDayNano, IntervalDayTime}
use Rattle.scalar.specs.declared.types.MonthDayNano.{MonthDayNano}
use Rattle.scalar.specs.declared.types.DayTime.{DayTime}

abbrev pub is_null : Scalar → Bool
is_null Null = true
is_null _ = false

-- false is 0 and true is 1
abbrev pub as_boolean : Scalar → Option ℤ
as_boolean (Boolean b) = Some (pos (bit b))
as_boolean _ = None

abbrev pub as_int32 : Scalar → Option ℤ
as_int32 (Int32 x) = Some x
as_int32 _ = None

abbrev pub as_int64 : Scalar → Option ℤ
as_int64 (Int64 x) = Some x
as_int64 _ = None

abbrev pub as_float64 : Scalar → Option Float
as_float64 (Float64 x) = Some x
as_float64 _ = None

-- a decimal of this precision and scale
abbrev pub as_decimal128 : ℕ → ℕ → Scalar → Option ℤ
as_decimal128 precision scale (Decimal128 value p s) = cond (eqb precision p && eqb scale s) (Some value) None
as_decimal128 precision scale _ = None

abbrev pub as_date32 : Scalar → Option ℤ
as_date32 (Date32 x) = Some x
as_date32 _ = None

abbrev pub as_month_day_nano : Scalar → Option MonthDayNano
as_month_day_nano (IntervalMonthDayNano months days nanoseconds) = Some (record { months = months; days = days; nanoseconds = nanoseconds })
as_month_day_nano _ = None

abbrev pub as_day_time : Scalar → Option DayTime
as_day_time (IntervalDayTime days milliseconds) = Some (record { days = days; milliseconds = milliseconds })
as_day_time _ = None
