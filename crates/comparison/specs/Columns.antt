-- `binary_selectivity` of the source's analysis.rs for two columns that are equated. Definitions only.
use Rattle.std.specs.Prelude.{ℕ, Bool, cond, eqb, Float, Option, Some}
use Rattle.std.specs.Float.{binary64}
use Rattle.std.specs.Float.Ieee.{add, sub, mul, div}
use Rattle.float.specs.Order.{f64_zero, f64_one, f64_max, clamp_unit}
use Rattle.estimate.specs.declared.Estimate.{Estimate}
use Rattle.records.specs.declared.columns.ColumnProfile.{ColumnProfile}
use Rattle.sheet.specs.Sheet.{Sheet}
use Rattle.lookup.specs.Lookup.{ProfileAndRows, profile_and_rows}
use Rattle.range.specs.Selectivity.{unit_estimate, default_estimate, non_null_fraction}

-- a column and itself: only a null is not equal to itself, and null-safe it is
unfoldable pub self_selectivity : Bool → Float → Estimate
unfolding unit_estimate
self_selectivity null_safe non_null = unit_estimate (cond null_safe f64_one non_null)

-- two columns, by their non-null fractions and distincts
unfoldable pub pair_selectivity : Bool → Float → Float → Float → Float → Estimate
unfolding unit_estimate
pair_selectivity null_safe left_non_null right_non_null left_distinct right_distinct =
    let equal_non_null = div binary64 (mul binary64 left_non_null right_non_null) (f64_max (f64_max left_distinct right_distinct) f64_one) in
    let null_match = cond null_safe (mul binary64 (sub binary64 f64_one left_non_null) (sub binary64 f64_one right_non_null)) f64_zero in
    unit_estimate (clamp_unit (add binary64 equal_non_null null_match))

unfoldable pub profiles_selectivity : Bool → Bool → ColumnProfile → Float → ColumnProfile → Float → Estimate
unfolding non_null_fraction self_selectivity pair_selectivity
profiles_selectivity null_safe same left left_rows right right_rows =
    let left_non_null = non_null_fraction left.frequency.value left_rows in
    let right_non_null = non_null_fraction right.frequency.value right_rows in
    cond same (self_selectivity null_safe left_non_null) (pair_selectivity null_safe left_non_null right_non_null left.distinct.value right.distinct.value)

abbrev pub found_columns : Sheet → Bool → Bool → Option ProfileAndRows → Option ProfileAndRows → Estimate
found_columns sheet null_safe same (Some (left, left_rows)) (Some (right, right_rows)) = profiles_selectivity null_safe same left left_rows right right_rows
found_columns sheet null_safe same _ _ = default_estimate sheet

-- the default where either column has no profile
unfoldable pub columns_selectivity : Sheet → Bool → ℕ → ℕ → Estimate
unfolding default_estimate profile_and_rows profiles_selectivity
columns_selectivity sheet null_safe left right = found_columns sheet null_safe (eqb left right) (profile_and_rows sheet left) (profile_and_rows sheet right)
