-- `binary_selectivity` of the source's analysis.rs. Definitions only.
use Rattle.std.specs.Prelude.{ℕ, Option, None, Some}
use Rattle.estimate.specs.declared.Estimate.{Estimate}
use Rattle.records.specs.declared.expressions.BinaryOp.{BinaryOp}
use Rattle.sheet.specs.Sheet.{Sheet}
use Rattle.lookup.specs.Lookup.{expression_of}
use Rattle.range.specs.Selectivity.{default_estimate}
use Rattle.parts.specs.Parts.{ColumnLiteral, is_null_safe, column_literal, column_equality_from_parts}
use Rattle.comparison.specs.Literal.{literal_selectivity}
use Rattle.comparison.specs.Columns.{columns_selectivity}
use Rattle.parts.specs.declared.equalities.EqualColumns.{EqualColumns}

abbrev pub equality_or_default : Sheet → BinaryOp → Option EqualColumns → Estimate
equality_or_default sheet op None = default_estimate sheet
equality_or_default sheet op (Some columns) = columns_selectivity sheet (is_null_safe op) columns.left columns.right

-- where one side is a literal there are no two columns to equate
abbrev pub literal_or_equality : Sheet → BinaryOp → Option ColumnLiteral → Option EqualColumns → Estimate
literal_or_equality sheet op None columns = equality_or_default sheet op columns
literal_or_equality sheet op (Some (column, literal, normalized)) columns = literal_selectivity sheet column literal normalized

unfoldable pub binary_selectivity : Sheet → BinaryOp → ℕ → ℕ → Estimate
unfolding default_estimate column_literal column_equality_from_parts literal_selectivity columns_selectivity
binary_selectivity sheet op left right =
    literal_or_equality sheet op (column_literal op (expression_of sheet left) (expression_of sheet right)) (column_equality_from_parts op (expression_of sheet left) (expression_of sheet right))
