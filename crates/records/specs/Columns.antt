-- A column's profile of 98 bytes. Definitions only.
use Rattle.std.specs.Prelude.{ℕ, ◌+◌, cond, List, eqb, Option, Some, None}
use Rattle.le.specs.Fields.{u16_at}
use Rattle.layout.specs.Places.{base_column_offset, column_base_offset, column_lower_offset, column_upper_offset, column_frequency_offset, column_distinct_offset, column_sketch_offset, no_number}
use Rattle.scalar_bytes.specs.Reading.{bound_at}
use Rattle.estimate.specs.Bytes.{estimate_at}
use Rattle.records.specs.declared.columns.BaseColumn.{BaseColumn}
use Rattle.records.specs.declared.columns.ColumnProfile.{ColumnProfile}

-- a column of a table, by their numbers
abbrev pub column_of : ℕ → ℕ → BaseColumn
column_of table column = record { table = table; column = column }

-- FFFF as the table: none
unfoldable pub base_column_at : List ℕ → ℕ → Option BaseColumn
base_column_at s at = cond (eqb (u16_at s at) no_number) None (Some (column_of (u16_at s at) (u16_at s (at + base_column_offset))))

-- FFFF: none
unfoldable pub sketch_number_at : List ℕ → ℕ → Option ℕ
sketch_number_at s at = cond (eqb (u16_at s at) no_number) None (Some (u16_at s at))

unfoldable pub column_profile_at : List ℕ → ℕ → ColumnProfile
unfolding base_column_at sketch_number_at bound_at estimate_at
column_profile_at s at = record {
  column = u16_at s at;
  base = base_column_at s (at + column_base_offset);
  lower = bound_at s (at + column_lower_offset);
  upper = bound_at s (at + column_upper_offset);
  frequency = estimate_at s (at + column_frequency_offset);
  distinct = estimate_at s (at + column_distinct_offset);
  sketch = sketch_number_at s (at + column_sketch_offset);
}
