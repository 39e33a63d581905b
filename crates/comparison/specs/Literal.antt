-- `binary_selectivity` of the source's analysis.rs for a column and a literal. Definitions only.
use Rattle.std.specs.Prelude.{ℕ, Bool, cond, Option, unwrap_or, Float, None, Some}
use Rattle.std.specs.Float.{binary64}
use Rattle.std.specs.Float.Ieee.{sub, mul, div}
use Rattle.float.specs.Order.{f64_zero, f64_one, f64_max}
use Rattle.scalar.specs.Types.{is_null}
use Rattle.scalar.specs.declared.Scalar.{Scalar}
use Rattle.estimate.specs.Estimates.{exact}
use Rattle.estimate.specs.declared.Estimate.{Estimate}
use Rattle.records.specs.declared.columns.ColumnProfile.{ColumnProfile}
use Rattle.records.specs.declared.expressions.BinaryOp.{BinaryOp}
use Rattle.records.specs.declared.expressions.BinaryOp.TheVariants.{Eq, IsNotDistinctFrom, NotEq, Lt, LtEq, Gt, GtEq, Add, Subtract, Multiply, Divide}
use Rattle.sheet.specs.Sheet.{Sheet}
use Rattle.sketch.specs.Frequent.{frequent_value_selectivity}
use Rattle.lookup.specs.Lookup.{ProfileAndRows, profile_and_rows}
use Rattle.range.specs.Selectivity.{unit_estimate, default_estimate, non_null_fraction}
use Rattle.range.specs.Range.{range_selectivity}

-- the sketch's figure where it has one; otherwise one of the distinct values
abbrev pub equality_selectivity : Option Float → Float → Float → Float
equality_selectivity frequent non_null distinct = unwrap_or frequent (div binary64 non_null (f64_max distinct f64_one))

-- of a profile, against a literal
abbrev pub equality_part : Sheet → ColumnProfile → Scalar → Float → Float
equality_part sheet profile literal non_null = equality_selectivity (frequent_value_selectivity sheet.sketches profile literal) non_null profile.distinct.value

abbrev pub range_part : Float → ColumnProfile → Scalar → BinaryOp → Float → Float
range_part fallback profile literal op non_null = mul binary64 (range_selectivity profile literal op fallback).value non_null

-- by the operator; the default where it compares nothing, and for IS NOT DISTINCT FROM
unfoldable pub comparison_value : Sheet → ColumnProfile → Scalar → BinaryOp → Float → Float → Float
unfolding range_selectivity
comparison_value sheet profile literal Eq non_null equality = equality
comparison_value sheet profile literal IsNotDistinctFrom non_null equality = sheet.settings.default_predicate_selectivity
comparison_value sheet profile literal NotEq non_null equality = f64_max (sub binary64 non_null equality) f64_zero
comparison_value sheet profile literal Lt non_null equality = range_part sheet.settings.range_fallback_selectivity profile literal Lt non_null
comparison_value sheet profile literal LtEq non_null equality = range_part sheet.settings.range_fallback_selectivity profile literal LtEq non_null
comparison_value sheet profile literal Gt non_null equality = range_part sheet.settings.range_fallback_selectivity profile literal Gt non_null
comparison_value sheet profile literal GtEq non_null equality = range_part sheet.settings.range_fallback_selectivity profile literal GtEq non_null
comparison_value sheet profile literal Add non_null equality = sheet.settings.default_predicate_selectivity
comparison_value sheet profile literal Subtract non_null equality = sheet.settings.default_predicate_selectivity
comparison_value sheet profile literal Multiply non_null equality = sheet.settings.default_predicate_selectivity
comparison_value sheet profile literal Divide non_null equality = sheet.settings.default_predicate_selectivity

abbrev pub comparison_selectivity : Sheet → ColumnProfile → Scalar → BinaryOp → Float → Float → Estimate
comparison_selectivity sheet profile literal op non_null equality = unit_estimate (comparison_value sheet profile literal op non_null equality)

-- Null is never matched, whatever the operator
abbrev pub unless_null : Bool → Estimate → Estimate
unless_null null compared = cond null (exact f64_zero) compared

unfoldable pub profile_selectivity : Sheet → ColumnProfile → Float → Scalar → BinaryOp → Estimate
unfolding exact unit_estimate non_null_fraction frequent_value_selectivity comparison_value
profile_selectivity sheet profile rows literal op =
    let non_null = non_null_fraction profile.frequency.value rows in
    unless_null (is_null literal) (comparison_selectivity sheet profile literal op non_null (equality_part sheet profile literal non_null))

abbrev pub found_selectivity : Sheet → Option ProfileAndRows → Scalar → BinaryOp → Estimate
found_selectivity sheet None literal op = default_estimate sheet
found_selectivity sheet (Some (profile, rows)) literal op = profile_selectivity sheet profile rows literal op

-- the default where the column has no profile, also against Null
unfoldable pub literal_selectivity : Sheet → ℕ → Scalar → BinaryOp → Estimate
unfolding default_estimate profile_and_rows profile_selectivity
literal_selectivity sheet column literal op = found_selectivity sheet (profile_and_rows sheet column) literal op
