-- `oriented_join_columns`, `join_column_distinct` and `join_column_non_null_fraction` of the source's analysis.rs. Definitions only.
use Rattle.std.specs.Prelude.{ℕ, Float, Option, None, Some}
use Rattle.std.specs.Option.{option_or}
use Rattle.float.specs.Order.{f64_one}
use Rattle.records.specs.declared.columns.ColumnProfile.{ColumnProfile}
use Rattle.sheet.specs.Sheet.{Sheet}
use Rattle.scan.specs.Scan.{first_with}
use Rattle.lookup.specs.Lookup.{ProfileAndRows, left_profile, right_profile, profile_and_rows}
use Rattle.range.specs.Selectivity.{non_null_fraction}

-- the columns of an equality, the left input's first, with their profiles there
pub record OrientedColumns : Type 0 where
  pub left_column : ℕ
  pub right_column : ℕ
  pub left : ColumnProfile
  pub right : ColumnProfile

-- a column of the left input and one of the right
abbrev pub oriented_as : ℕ → ℕ → Option ProfileAndRows → Option ProfileAndRows → Option OrientedColumns
oriented_as left_column right_column (Some (left, left_rows)) (Some (right, right_rows)) = Some (record { left_column = left_column; right_column = right_column; left = left; right = right })
oriented_as left_column right_column _ _ = None

-- as they stand, or else exchanged
unfoldable pub oriented_join_columns : Sheet → ℕ → ℕ → Option OrientedColumns
unfolding first_with
oriented_join_columns sheet first second =
    option_or (oriented_as first second (left_profile sheet first) (right_profile sheet second)) (oriented_as second first (left_profile sheet second) (right_profile sheet first))

abbrev pub distinct_or_one : Option ProfileAndRows → Float
distinct_or_one None = f64_one
distinct_or_one (Some (profile, rows)) = profile.distinct.value

unfoldable pub join_column_distinct : Sheet → ℕ → Float
unfolding profile_and_rows
join_column_distinct sheet column = distinct_or_one (profile_and_rows sheet column)

abbrev pub fraction_or_one : Option ProfileAndRows → Float
fraction_or_one None = f64_one
fraction_or_one (Some (profile, rows)) = non_null_fraction profile.frequency.value rows

-- a column that both inputs have is looked up on the left
unfoldable pub join_column_non_null_fraction : Sheet → ℕ → Float
unfolding profile_and_rows non_null_fraction
join_column_non_null_fraction sheet column = fraction_or_one (profile_and_rows sheet column)
