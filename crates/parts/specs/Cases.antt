-- Worked sides: a literal on the left turns the operator round, and only an equality has two columns. Assumes nothing.
use Rattle.std.specs.Prelude.{◌≡◌, refl, pos, None, Some}
use Rattle.scalar.specs.declared.Scalar.TheVariants.{Int32}
use Rattle.records.specs.declared.expressions.BinaryOp.TheVariants.{Eq, IsNotDistinctFrom, Lt, Gt}
use Rattle.records.specs.declared.expressions.Expression.TheVariants.{Literal, ColumnRef}
use Rattle.parts.specs.Parts.{column_literal, column_equality_from_parts}

-- 5 < column 3 is column 3 > 5
literal_left : column_literal Lt (Literal (Int32 (pos 5))) (ColumnRef 3) ≡ Some (3, Int32 (pos 5), Gt)
unfolding column_literal
literal_left = refl

literal_right : column_literal Lt (ColumnRef 3) (Literal (Int32 (pos 5))) ≡ Some (3, Int32 (pos 5), Lt)
unfolding column_literal
literal_right = refl

two_columns : column_equality_from_parts IsNotDistinctFrom (ColumnRef 3) (ColumnRef 4) ≡ Some (record { left = 3; right = 4 })
unfolding column_equality_from_parts
two_columns = refl

column_and_literal : column_equality_from_parts Eq (ColumnRef 3) (Literal (Int32 (pos 5))) ≡ None
unfolding column_equality_from_parts
column_and_literal = refl
