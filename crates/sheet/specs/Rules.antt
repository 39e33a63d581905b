-- The rules of a section: its count, then its records one by one. Definitions only.
use Rattle.std.specs.Prelude.{ℕ, zero, suc, ◌+◌, Bool, cond, ◌&&◌, List, leb}
use Rattle.le.specs.Fields.{u16_at}
use Rattle.layout.specs.Places.{count_size, sketch_count_offset}
use Rattle.rules.specs.Rules.{ask, or_else, first_refusal}
use Rattle.layout.specs.Fields.{whole}
use Rattle.record_rules.specs.Rows.{rows_refusal, setting_refusal}
use Rattle.record_rules.specs.Catalog.{table_refusal, key_refusal}
use Rattle.record_rules.specs.Columns.{column_refusal}
use Rattle.record_rules.specs.Classes.{class_refusal}
use Rattle.sketch_rules.specs.Sketches.{sketch_refusal}
use Rattle.expression_rules.specs.Expressions.{expression_refusal}
use Rattle.expression_rules.specs.Operands.{runs_before, nary_of, fill_refusal, operand_refusal, conjunct_refusal}
use Rattle.sheet.specs.Table.{section_of}
use Rattle.sheet.specs.Order.{record_at}
use Rattle.sheet.specs.declared.order.Kind.{Kind}
use Rattle.sheet.specs.declared.order.Kind.TheVariants.{Rows, Settings, Sketches, Tables, Keys, Columns, Classes, Expressions, Operands, Conjuncts}

-- ---- the count

unfoldable pub count_within : Kind → ℕ → Bool
count_within kind n = leb (section_of kind).least n && leb n (section_of kind).most

-- the count of a section stands at `start`, that of the expressions at `expressions`
unfoldable pub count_refusal : Kind → List ℕ → ℕ → ℕ → ℕ
unfolding count_within fill_refusal
count_refusal kind s expressions start =
    or_else (whole count_size s start)
    (or_else (ask (count_within kind (u16_at s start)) 3)
    (cond (section_of kind).filled (fill_refusal s expressions (u16_at s start)) 0))

-- ---- the records

-- how many items the first i sketches hold
unfoldable pub items_before : List ℕ → ℕ → ℕ → ℕ
unfolding record_at
items_before s start zero = 0
items_before s start (suc i) = items_before s start i + u16_at s (record_at Sketches s start i + sketch_count_offset)

-- record i, at `at`, of the section at `start`; `sketches` and `expressions` are the places of those sections' counts
unfoldable pub record_refusal : Kind → List ℕ → ℕ → ℕ → ℕ → ℕ → ℕ → ℕ
unfolding rows_refusal setting_refusal items_before sketch_refusal table_refusal key_refusal column_refusal class_refusal runs_before expression_refusal nary_of operand_refusal conjunct_refusal
record_refusal Rows s sketches expressions start i at = rows_refusal s at
record_refusal Settings s sketches expressions start i at = setting_refusal s i at
record_refusal Sketches s sketches expressions start i at = sketch_refusal s (items_before s start i) at
record_refusal Tables s sketches expressions start i at = table_refusal s i at
record_refusal Keys s sketches expressions start i at = key_refusal s at
record_refusal Columns s sketches expressions start i at = column_refusal s (u16_at s sketches) i at
record_refusal Classes s sketches expressions start i at = class_refusal s at
record_refusal Expressions s sketches expressions start i at = expression_refusal s (runs_before s start i) i at
record_refusal Operands s sketches expressions start i at = operand_refusal s expressions (nary_of s expressions i) (start + count_size) i
record_refusal Conjuncts s sketches expressions start i at = conjunct_refusal s expressions at

abbrev pub records_refusal : Kind → List ℕ → ℕ → ℕ → ℕ → ℕ → ℕ
records_refusal kind s sketches expressions start i = record_refusal kind s sketches expressions start i (record_at kind s start i)

unfoldable pub section_refusal : Kind → List ℕ → ℕ → ℕ → ℕ → ℕ
unfolding count_refusal first_refusal record_refusal record_at
section_refusal kind s sketches expressions start =
    or_else (count_refusal kind s expressions start) (first_refusal (records_refusal kind s sketches expressions start) 0 (u16_at s start))
