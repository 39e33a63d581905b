-- What a sheet's tables and keys tell of columns: `single_column_unique`, `single_column_foreign_key`, `profile_has_complete_base_population` and `effective_join_distinct` of the source's analysis.rs. A table that is not listed is a failed lookup. Definitions only.
use Rattle.std.specs.Prelude.{ℕ, Bool, true, false, cond, ◌&&◌, List, pos, ◌==◌, Float, Option, Some, None}
use Rattle.std.specs.List.{list_any}
use Rattle.std.specs.Float.{binary64}
use Rattle.std.specs.Float.Ieee.{of_int, eq}
use Rattle.estimate.specs.declared.Estimate.{Estimate}
use Rattle.estimate.specs.declared.EstimateSource.{EstimateSource}
use Rattle.estimate.specs.declared.EstimateSource.TheVariants.{Exact, Catalog, Sketch, Derived, Default}
use Rattle.records.specs.declared.catalog.Table.{Table}
use Rattle.records.specs.declared.catalog.Key.{Key}
use Rattle.records.specs.declared.catalog.Key.TheVariants.{Unique, Foreign}
use Rattle.records.specs.declared.columns.BaseColumn.{BaseColumn}
use Rattle.records.specs.declared.columns.ColumnProfile.{ColumnProfile}
use Rattle.sheet.specs.Sheet.{Sheet}
use Rattle.scan.specs.Scan.{first_with, is_numbered}

-- ---- tables

abbrev pub table_of : Table → ℕ
table_of t = t.table

abbrev pub rows_of : Table → Option ℕ
rows_of t = t.rows

abbrev pub is_listed : ℕ → List Table → Bool
is_listed table tables = is_numbered table_of table tables

-- unknown also where the table is not listed
abbrev pub row_count : ℕ → List Table → Option ℕ
row_count table tables = first_with table_of None rows_of table tables

-- ---- keys

abbrev pub same_column : BaseColumn → BaseColumn → Bool
same_column a b = a.table == b.table && a.column == b.column

abbrev pub same_key : Key → Key → Bool
same_key (Unique a) (Unique b) = same_column a b
same_key (Unique a) (Foreign b d) = false
same_key (Foreign a c) (Unique b) = false
same_key (Foreign a c) (Foreign b d) = same_column a b && same_column c d

unfoldable pub has_key : Key → List Key → Bool
has_key key keys = list_any (λ k. same_key k key) keys

unfoldable pub single_column_unique : Sheet → BaseColumn → Bool
unfolding first_with has_key
single_column_unique sheet column = is_listed column.table sheet.tables && has_key (Unique column) sheet.keys

-- both tables are listed
unfoldable pub single_column_foreign_key : Sheet → BaseColumn → BaseColumn → Bool
unfolding first_with has_key
single_column_foreign_key sheet column referenced =
    (is_listed column.table sheet.tables && is_listed referenced.table sheet.tables) && has_key (Foreign column referenced) sheet.keys

-- ---- whole tables

abbrev pub is_catalog : EstimateSource → Bool
is_catalog Exact = false
is_catalog Catalog = true
is_catalog Sketch = false
is_catalog Derived = false
is_catalog Default = false

abbrev pub has_rows : Float → Option ℕ → Bool
has_rows rows None = false
has_rows rows (Some n) = eq rows (of_int binary64 (pos n))

-- a side's rows come from the catalog and are the table's
unfoldable pub profile_has_complete_base_population : Sheet → Estimate → ℕ → Bool
unfolding first_with
profile_has_complete_base_population sheet rows table = is_catalog rows.source && has_rows rows.value (row_count table sheet.tables)

-- ---- the distinct values that a join reckons with

-- a key of a table that a side has the whole of
abbrev pub is_complete_key : Sheet → Estimate → BaseColumn → Bool
is_complete_key sheet rows column = single_column_unique sheet column && profile_has_complete_base_population sheet rows column.table

abbrev pub distinct_by_base : Sheet → Estimate → Option BaseColumn → ColumnProfile → Float
distinct_by_base sheet rows None profile = profile.distinct.value
distinct_by_base sheet rows (Some column) profile =
    cond (is_complete_key sheet rows column) profile.frequency.value profile.distinct.value

unfoldable pub effective_join_distinct : Sheet → Estimate → ColumnProfile → Float
unfolding single_column_unique profile_has_complete_base_population
effective_join_distinct sheet rows profile = distinct_by_base sheet rows profile.base profile
