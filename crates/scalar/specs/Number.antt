-- `scalar_to_f64` of the source's analysis.rs. Definitions only.
use Rattle.std.specs.Prelude.{Option, None, Some, Float}
use Rattle.std.specs.Float.{binary64}
use Rattle.std.specs.Float.Ieee.{of_int, div}
use Rattle.float.specs.Tens.{power_of_ten}
use Rattle.scalar.specs.declared.Scalar.{Scalar}
use Rattle.scalar.specs.declared.Scalar.TheVariants.{Null, Boolean, Int32, Int64, Float64, Decimal128, Date32, IntervalMonthDayNano, IntervalDayTime}

-- `powi` of 10 up to 22 is exact, and so is `power_of_ten`
unfoldable pub scalar_to_f64 : Scalar → Option Float
scalar_to_f64 Null = None
scalar_to_f64 (Boolean b) = None
scalar_to_f64 (Int32 x) = Some (of_int binary64 x)
scalar_to_f64 (Int64 x) = Some (of_int binary64 x)
scalar_to_f64 (Float64 x) = Some x
scalar_to_f64 (Decimal128 value precision scale) = Some (div binary64 (of_int binary64 value) (power_of_ten scale))
scalar_to_f64 (Date32 x) = Some (of_int binary64 x)
scalar_to_f64 (IntervalMonthDayNano months days nanoseconds) = None
scalar_to_f64 (IntervalDayTime days milliseconds) = None
