-- `range_selectivity` of the source's analysis.rs: values are spread evenly from the lower bound to the upper. Definitions only.
use Rattle.std.specs.Prelude.{Option, None, Some, Float}
use Rattle.std.specs.Float.{binary64}
use Rattle.std.specs.Float.Ieee.{sub, div}
use Rattle.float.specs.Order.{f64_one, f64_max, clamp_unit, absolute}
use Rattle.scalar.specs.Number.{scalar_to_f64}
use Rattle.scalar.specs.declared.Scalar.{Scalar}
use Rattle.estimate.specs.declared.Estimate.{Estimate}
use Rattle.records.specs.declared.columns.ColumnProfile.{ColumnProfile}
use Rattle.records.specs.declared.expressions.BinaryOp.{BinaryOp}
use Rattle.records.specs.declared.expressions.BinaryOp.TheVariants.{Eq, IsNotDistinctFrom, NotEq, Lt, LtEq, Gt, GtEq, Add, Subtract, Multiply, Divide}
use Rattle.range.specs.Selectivity.{unit_estimate}

-- the number of a bound that is there and has one
abbrev pub bound_number : Option Scalar → Option Float
bound_number None = None
bound_number (Some bound) = scalar_to_f64 bound

unfoldable pub width : Float → Float → Float
width min max = f64_max (absolute (sub binary64 max min)) f64_one

abbrev pub part_below : Float → Float → Float → Float
part_below min max value = clamp_unit (div binary64 (sub binary64 value min) (width min max))

abbrev pub part_above : Float → Float → Float → Float
part_above min max value = clamp_unit (div binary64 (sub binary64 max value) (width min max))

unfoldable pub selected : BinaryOp → Float → Float → Float → Float → Float
unfolding width
selected Eq fallback min max value = fallback
selected IsNotDistinctFrom fallback min max value = fallback
selected NotEq fallback min max value = fallback
selected Lt fallback min max value = part_below min max value
selected LtEq fallback min max value = part_below min max value
selected Gt fallback min max value = part_above min max value
selected GtEq fallback min max value = part_above min max value
selected Add fallback min max value = fallback
selected Subtract fallback min max value = fallback
selected Multiply fallback min max value = fallback
selected Divide fallback min max value = fallback

-- by three numbers, where they are there
unfoldable pub range_of : BinaryOp → Float → Option Float → Option Float → Option Float → Estimate
unfolding unit_estimate selected
range_of op fallback None max value = unit_estimate fallback
range_of op fallback (Some min) None value = unit_estimate fallback
range_of op fallback (Some min) (Some max) None = unit_estimate fallback
range_of op fallback (Some min) (Some max) (Some value) = unit_estimate (selected op fallback min max value)

unfoldable pub range_selectivity : ColumnProfile → Scalar → BinaryOp → Float → Estimate
unfolding range_of scalar_to_f64
range_selectivity profile literal op fallback = range_of op fallback (bound_number profile.lower) (bound_number profile.upper) (scalar_to_f64 literal)
