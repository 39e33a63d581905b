-- The sections of a sheet in their order, and where their records stand. Total: any list of bytes has such places, and the rules say whether they are a sheet's. Definitions only.
use Rattle.std.specs.Prelude.{ℕ, zero, suc, ◌+◌, cond, List, eqb, get_or}
use Rattle.le.specs.Fields.{u16_at}
use Rattle.layout.specs.Places.{count_size}
use Rattle.records.specs.Lists.{tabulate_from, tabulate}
use Rattle.sheet.specs.Table.{section_of, shape_end}
use Rattle.sheet.specs.declared.Sections.{Sections}
use Rattle.sheet.specs.declared.order.Kind.{Kind}
use Rattle.sheet.specs.declared.order.Kind.TheVariants.{Rows, Settings, Sketches, Tables, Keys, Columns, Classes, Expressions, Operands, Conjuncts}

-- ---- the order

abbrev pub rows_number : ℕ
rows_number = 0

abbrev pub settings_number : ℕ
settings_number = rows_number + 1

abbrev pub sketches_number : ℕ
sketches_number = settings_number + 1

abbrev pub tables_number : ℕ
tables_number = sketches_number + 1

abbrev pub keys_number : ℕ
keys_number = tables_number + 1

abbrev pub left_columns_number : ℕ
left_columns_number = keys_number + 1

abbrev pub right_columns_number : ℕ
right_columns_number = left_columns_number + 1

abbrev pub left_classes_number : ℕ
left_classes_number = right_columns_number + 1

abbrev pub right_classes_number : ℕ
right_classes_number = left_classes_number + 1

abbrev pub expressions_number : ℕ
expressions_number = right_classes_number + 1

abbrev pub operands_number : ℕ
operands_number = expressions_number + 1

abbrev pub conjuncts_number : ℕ
conjuncts_number = operands_number + 1

abbrev pub section_count : ℕ
section_count = conjuncts_number + 1

abbrev pub kind_at : ℕ → Kind
kind_at k =
    cond (eqb k rows_number) Rows
    (cond (eqb k settings_number) Settings
    (cond (eqb k sketches_number) Sketches
    (cond (eqb k tables_number) Tables
    (cond (eqb k keys_number) Keys
    (cond (eqb k left_columns_number) Columns
    (cond (eqb k right_columns_number) Columns
    (cond (eqb k left_classes_number) Classes
    (cond (eqb k right_classes_number) Classes
    (cond (eqb k expressions_number) Expressions
    (cond (eqb k operands_number) Operands Conjuncts))))))))))

-- the places of the sections' counts, in the same order
abbrev pub sections_of : List ℕ → Sections
sections_of starts = record {
  rows = get_or starts rows_number 0;
  settings = get_or starts settings_number 0;
  sketches = get_or starts sketches_number 0;
  tables = get_or starts tables_number 0;
  keys = get_or starts keys_number 0;
  left_columns = get_or starts left_columns_number 0;
  right_columns = get_or starts right_columns_number 0;
  left_classes = get_or starts left_classes_number 0;
  right_classes = get_or starts right_classes_number 0;
  expressions = get_or starts expressions_number 0;
  operands = get_or starts operands_number 0;
  conjuncts = get_or starts conjuncts_number 0;
}

-- ---- the places

-- where the record behind the one at a place stands
unfoldable pub record_end : Kind → List ℕ → ℕ → ℕ
record_end kind s at = shape_end (section_of kind).shape s at

-- where record i of a section stands, whose count stands at `start`
unfoldable pub record_at : Kind → List ℕ → ℕ → ℕ → ℕ
unfolding record_end
record_at kind s start zero = start + count_size
record_at kind s start (suc i) = record_end kind s (record_at kind s start i)

-- where the count of section k stands
unfoldable pub section_at : List ℕ → ℕ → ℕ
unfolding record_at
section_at s zero = 0
section_at s (suc k) = let start = section_at s k in record_at (kind_at k) s start (u16_at s start)

unfoldable pub sections_in : List ℕ → Sections
unfolding tabulate_from section_at
sections_in s = sections_of (tabulate (section_at s) section_count)
