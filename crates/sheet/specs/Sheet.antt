-- A sheet as lists of records. Figures are defined over it and never speak of bytes. Definitions only.
use Rattle.std.specs.Prelude.{ℕ, List}
use Rattle.le.specs.Fields.{u16_at}
use Rattle.estimate.specs.Bytes.{estimate_at}
use Rattle.estimate.specs.declared.Estimate.{Estimate}
use Rattle.records.specs.Lists.{tabulate_from, tabulate}
use Rattle.records.specs.Settings.{settings_at}
use Rattle.records.specs.Sketches.{Sketch, sketch_at}
use Rattle.records.specs.Catalog.{table_at, key_at}
use Rattle.records.specs.Columns.{column_profile_at}
use Rattle.records.specs.Classes.{ColumnEquivalenceClass, class_at}
use Rattle.records.specs.Expressions.{expression_at}
use Rattle.records.specs.declared.settings.CardinalityEstimationConfig.{CardinalityEstimationConfig}
use Rattle.records.specs.declared.catalog.Table.{Table}
use Rattle.records.specs.declared.catalog.Key.{Key}
use Rattle.records.specs.declared.columns.ColumnProfile.{ColumnProfile}
use Rattle.records.specs.declared.expressions.Expression.{Expression}
use Rattle.sheet.specs.Order.{record_at, sections_in}
use Rattle.sheet.specs.declared.Sections.{Sections}
use Rattle.sheet.specs.declared.View.{View}
use Rattle.sheet.specs.declared.order.Kind.{Kind}
use Rattle.sheet.specs.declared.order.Kind.TheVariants.{Rows, Settings, Sketches, Tables, Keys, Columns, Classes, Expressions, Operands, Conjuncts}

pub record Sheet : Type 0 where
  pub left_rows : Estimate
  pub right_rows : Estimate
  pub settings : CardinalityEstimationConfig
  pub sketches : List Sketch
  pub tables : List Table
  pub keys : List Key
  pub left_columns : List ColumnProfile
  pub right_columns : List ColumnProfile
  pub left_classes : List ColumnEquivalenceClass
  pub right_classes : List ColumnEquivalenceClass
  pub expressions : List Expression
  pub operands : List ℕ

-- record i of the section at `start`
abbrev pub record_in {ℓ} : {A : Type ℓ} → Kind → (List ℕ → ℕ → A) → List ℕ → ℕ → ℕ → A
record_in kind read s start i = read s (record_at kind s start i)

-- all of them, as many as its count says
unfoldable pub records_in {ℓ} : {A : Type ℓ} → Kind → (List ℕ → ℕ → A) → List ℕ → ℕ → List A
unfolding record_at tabulate_from
records_in kind read s start = tabulate (record_in kind read s start) (u16_at s start)

-- by where the sections stand
unfoldable pub sheet_of : List ℕ → Sections → Sheet
unfolding record_at records_in estimate_at settings_at sketch_at table_at key_at column_profile_at class_at expression_at
sheet_of s x = record {
  left_rows = record_in Rows estimate_at s x.rows 0;
  right_rows = record_in Rows estimate_at s x.rows 1;
  settings = record_in Settings settings_at s x.settings 0;
  sketches = records_in Sketches sketch_at s x.sketches;
  tables = records_in Tables table_at s x.tables;
  keys = records_in Keys key_at s x.keys;
  left_columns = records_in Columns column_profile_at s x.left_columns;
  right_columns = records_in Columns column_profile_at s x.right_columns;
  left_classes = records_in Classes class_at s x.left_classes;
  right_classes = records_in Classes class_at s x.right_classes;
  expressions = records_in Expressions expression_at s x.expressions;
  operands = records_in Operands u16_at s x.operands;
}

-- what a view is of
abbrev pub viewed : View → Sheet
viewed view = sheet_of view.bytes.now view.sections

-- every list of bytes, also one that is refused
unfoldable pub sheet_in : List ℕ → Sheet
unfolding sheet_of sections_in
sheet_in s = sheet_of s (sections_in s)

-- the expressions of a join's own conjuncts, by number: they stand beside the sheet, so that a join can be asked about others
unfoldable pub conjuncts_of : List ℕ → Sections → List ℕ
unfolding record_at records_in
conjuncts_of s x = records_in Conjuncts u16_at s x.conjuncts

unfoldable pub conjuncts_in : List ℕ → List ℕ
unfolding conjuncts_of sections_in
conjuncts_in s = conjuncts_of s (sections_in s)
