-- What is lawful as a record: it has room in its fields, and keeps the rules that it can keep by itself. Definitions only.
use Rattle.std.specs.Prelude.{ℕ, ◌^◌, ◌≤◌, ◌<◌, ◌≡◌, true, T, Float, Option, Some, None}
use Rattle.std.specs.Float.{binary64}
use Rattle.std.specs.Float.Ieee.{fits}
use Rattle.layout.specs.Places.{column_limit, count_limit, no_number, class_least, class_most}
use Rattle.scalar_bytes.specs.Encoding.{lawful_bound}
use Rattle.estimate.specs.Bytes.{LawfulEstimate}
use Rattle.records.specs.declared.catalog.Table.{Table}
use Rattle.records.specs.declared.catalog.Key.{Key}
use Rattle.records.specs.declared.columns.BaseColumn.{BaseColumn}
use Rattle.records.specs.declared.columns.ColumnProfile.{ColumnProfile}
use Rattle.records.specs.declared.classes.ClassHead.{ClassHead}
use Rattle.record_rules.specs.Rows.{setting_lawful}
use Rattle.record_rules.specs.Catalog.{key_table, key_column, key_referenced_table, key_referenced_column}

-- ---- settings

-- setting i
pub record LawfulSetting (i : ℕ) (x : Float) : Type 0 where
  pub held : T (fits binary64 x)
  pub lawful : T (setting_lawful i x)

-- ---- tables and keys

abbrev pub LawfulRowCount : Option ℕ → Type 0
LawfulRowCount None = Unit {0}
LawfulRowCount (Some n) = n ≤ count_limit

pub record LawfulTable (x : Table) : Type 0 where
  pub table : x.table < 2 ^ 16
  pub rows : LawfulRowCount x.rows

-- each number has room in its field
pub record LawfulKey (x : Key) : Type 0 where
  pub table : key_table x < 2 ^ 16
  pub column : key_column x < 2 ^ 16
  pub referenced_table : key_referenced_table x < 2 ^ 16
  pub referenced_column : key_referenced_column x < 2 ^ 16

-- ---- columns

abbrev pub LawfulBase : Option BaseColumn → Type 0
LawfulBase None = Unit {0}
LawfulBase (Some base) = (base.table < no_number) × (base.column < no_number)

-- one of n sketches
abbrev pub LawfulSketchNumber : ℕ → Option ℕ → Type 0
LawfulSketchNumber n None = Unit {0}
LawfulSketchNumber n (Some i) = (i < n) × (i < no_number)

-- on a sheet of n sketches
pub record LawfulColumn (n : ℕ) (x : ColumnProfile) : Type 0 where
  pub column : x.column < column_limit
  pub base : LawfulBase x.base
  pub lower : lawful_bound x.lower ≡ true
  pub upper : lawful_bound x.upper ≡ true
  pub frequency : LawfulEstimate x.frequency
  pub distinct : LawfulEstimate x.distinct
  pub sketch : LawfulSketchNumber n x.sketch

-- ---- classes

pub record LawfulClassHead (x : ClassHead) : Type 0 where
  pub least : class_least ≤ x.count
  pub most : x.count ≤ class_most
  pub distinct : LawfulEstimate x.distinct

abbrev pub LawfulClassColumn : ℕ → Type 0
LawfulClassColumn x = x < column_limit
