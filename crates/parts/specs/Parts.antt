-- What the sides of a binary expression are: `column_ref`, `column_literal`, `column_equality` and `column_equality_from_parts` of the source's analysis.rs. Definitions only.
use Rattle.std.specs.Prelude.{ℕ, ◌+◌, Bool, true, false, cond, List, Option, None, Some}
use Rattle.std.specs.Option.{option_or}
use Rattle.le.specs.Fields.{u16_at}
use Rattle.layout.specs.Places.{expression_first_offset, expression_scalar_offset}
use Rattle.scalar.specs.declared.Scalar.{Scalar}
use Rattle.scalar_bytes.specs.Reading.{scalar_at}
use Rattle.records.specs.declared.expressions.BinaryOp.{BinaryOp}
use Rattle.records.specs.declared.expressions.BinaryOp.TheVariants.{Eq, IsNotDistinctFrom, Lt, LtEq, Gt, GtEq}
use Rattle.records.specs.declared.expressions.Expression.{Expression}
use Rattle.records.specs.declared.expressions.Expression.TheVariants.{Literal, ColumnRef, Binary}
use Rattle.expression_rules.specs.Operands.{expression_place}
use Rattle.sheet.specs.Sheet.{Sheet}
use Rattle.sheet.specs.declared.Sections.{Sections}
use Rattle.lookup.specs.Lookup.{expression_of, expression_kind}
use Rattle.records.specs.declared.expressions.ExpressionKind.{ExpressionKind}
use Rattle.records.specs.declared.expressions.ExpressionKind.TheVariants.{Literal as LiteralKind, ColumnRef as ColumnRefKind}
use Rattle.parts.specs.declared.equalities.EqualColumns.{EqualColumns}

abbrev pub column_ref : Expression → Option ℕ
column_ref (ColumnRef column) = Some column
column_ref _ = None

abbrev pub literal_of : Expression → Option Scalar
literal_of (Literal value) = Some value
literal_of _ = None

-- ---- a column and a literal

-- the operator with its sides exchanged
abbrev pub reversed : BinaryOp → BinaryOp
reversed Lt = Gt
reversed LtEq = GtEq
reversed Gt = Lt
reversed GtEq = LtEq
reversed op = op

-- a column, the literal beside it, and the operator as it stands when the column comes first
abbrev pub ColumnLiteral : Type 0
ColumnLiteral = ℕ × Scalar × BinaryOp

abbrev pub column_beside : BinaryOp → Option ℕ → Option Scalar → Option ColumnLiteral
column_beside op (Some column) (Some literal) = Some (column, literal, op)
column_beside op _ _ = None

-- the column may stand on either side
unfoldable pub column_literal : BinaryOp → Expression → Expression → Option ColumnLiteral
column_literal op left right =
    option_or (column_beside op (column_ref left) (literal_of right)) (column_beside (reversed op) (column_ref right) (literal_of left))

-- ---- by where the literal stands in the bytes

-- a column, the place of the literal beside it, and the operator
abbrev pub ColumnPlace : Type 0
ColumnPlace = ℕ × ℕ × BinaryOp

-- the pair that a place stands for
abbrev pub placed_literal : List ℕ → ColumnPlace → ColumnLiteral
placed_literal s (column, at, op) = (column, scalar_at s at, op)

abbrev pub beside_place : ExpressionKind → ExpressionKind → ColumnPlace → Option ColumnPlace
beside_place ColumnRefKind LiteralKind pair = Some pair
beside_place _ _ pair = None

-- of a column's expression and a literal's
unfoldable pub column_beside_place : List ℕ → Sections → BinaryOp → ℕ → ℕ → Option ColumnPlace
column_beside_place s q op column literal =
    beside_place (expression_kind s q column) (expression_kind s q literal)
    (u16_at s (expression_place q.expressions column + expression_first_offset), expression_place q.expressions literal + expression_scalar_offset, op)

abbrev pub if_literal : {A : Type 0} → ExpressionKind → A → A → A
if_literal LiteralKind x y = x
if_literal _ x y = y

-- a literal on the left leaves only the right side for the column
unfoldable pub column_literal_place : List ℕ → Sections → BinaryOp → ℕ → ℕ → Option ColumnPlace
unfolding column_beside_place
column_literal_place s q op left right = if_literal (expression_kind s q left) (column_beside_place s q (reversed op) right left) (column_beside_place s q op left right)

-- ---- two columns

abbrev pub is_equality : BinaryOp → Bool
is_equality Eq = true
is_equality IsNotDistinctFrom = true
is_equality _ = false

-- whether two nulls are equal under it
abbrev pub is_null_safe : BinaryOp → Bool
is_null_safe IsNotDistinctFrom = true
is_null_safe _ = false

abbrev pub both_columns : Option ℕ → Option ℕ → Option EqualColumns
both_columns (Some left) (Some right) = Some (record { left = left; right = right })
both_columns _ _ = None

unfoldable pub column_equality_from_parts : BinaryOp → Expression → Expression → Option EqualColumns
column_equality_from_parts op left right = cond (is_equality op) (both_columns (column_ref left) (column_ref right)) None

-- of an expression
abbrev pub equality_in : Sheet → Expression → Option EqualColumns
equality_in sheet (Binary op left right) = column_equality_from_parts op (expression_of sheet left) (expression_of sheet right)
equality_in sheet _ = None

unfoldable pub column_equality : Sheet → ℕ → Option EqualColumns
unfolding column_equality_from_parts
column_equality sheet e = equality_in sheet (expression_of sheet e)
