-- What the figures of an equality between a left and a right column are made from (`equality_edge_estimate` in the source's analysis.rs). Definitions only.
use Rattle.std.specs.Prelude.{ℕ, Bool, ◌&&◌, cond, Float}
use Rattle.std.specs.Float.{binary64}
use Rattle.std.specs.Float.Ieee.{sub, mul, lt}
use Rattle.float.specs.Order.{f64_zero, f64_one, f64_max}
use Rattle.records.specs.declared.columns.ColumnProfile.{ColumnProfile}
use Rattle.sheet.specs.Sheet.{Sheet}
use Rattle.keys.specs.Keys.{effective_join_distinct}
use Rattle.edge.specs.Oriented.{join_column_non_null_fraction}
use Rattle.edge.specs.declared.EdgeInputs.{EdgeInputs}

-- whether a side has rows in which a column that is non-null this often is null
abbrev pub has_null : Float → Float → Bool
has_null rows frequency = lt frequency rows

unfoldable pub null_pair_selectivity : Bool → Float → Float → Float
null_pair_selectivity nulls left_non_null right_non_null = cond nulls (mul binary64 (sub binary64 f64_one left_non_null) (sub binary64 f64_one right_non_null)) f64_zero

unfoldable pub null_match_probability : Bool → Float → Float
null_match_probability nulls left_non_null = cond nulls (sub binary64 f64_one left_non_null) f64_zero

-- the hints are the distincts of the columns' classes
unfoldable pub edge_inputs : Sheet → ℕ → ℕ → ColumnProfile → ColumnProfile → Bool → Float → Float → EdgeInputs
unfolding effective_join_distinct join_column_non_null_fraction null_pair_selectivity null_match_probability
edge_inputs sheet left_column right_column left right null_safe left_hint right_hint =
    let left_non_null = join_column_non_null_fraction sheet left_column in
    let right_non_null = join_column_non_null_fraction sheet right_column in
    let left_has_null = has_null sheet.left_rows.value left.frequency.value in
    let right_has_null = has_null sheet.right_rows.value right.frequency.value in
    record {
      left_column = left_column;
      null_safe = null_safe;
      left_distinct = f64_max (effective_join_distinct sheet sheet.left_rows left) left_hint;
      right_distinct = f64_max (effective_join_distinct sheet sheet.right_rows right) right_hint;
      left_non_null = left_non_null;
      right_non_null = right_non_null;
      null_pair_selectivity = null_pair_selectivity (null_safe && (left_has_null && right_has_null)) left_non_null right_non_null;
      null_match_probability = null_match_probability (null_safe && right_has_null) left_non_null;
    }
