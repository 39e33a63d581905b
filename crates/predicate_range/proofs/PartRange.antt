-- A literal beside a column is one of the expressions', so it is lawful where these are. Assumes nothing.
use Prim.Native.Nat.{ℕ}
use mathlib.Core.Path.{◌≡◌}
use mathlib.Core.Bool.{true}
use Rattle.std.specs.Prelude.{Option, None, Some}
use Rattle.std.specs.Option.{option_or}
use Rattle.scalar.specs.declared.Scalar.{Scalar}
use Rattle.scalar_bytes.specs.Encoding.{lawful_scalar}
use Rattle.records.specs.declared.expressions.BinaryOp.{BinaryOp}
use Rattle.records.specs.declared.expressions.Expression.{Expression}
use Rattle.records.specs.declared.expressions.Expression.TheVariants.{Literal, ColumnRef, Unary, Binary, Nary, Like, Other}
use Rattle.lawful.specs.Lawful.{LawfulExpression}
use Rattle.parts.specs.Parts.{ColumnLiteral, column_ref, literal_of, reversed, column_beside, column_literal}

abbrev LawfulOption : Option Scalar → Type 0
LawfulOption None = Unit {0}
LawfulOption (Some x) = lawful_scalar x ≡ true

abbrev pub LawfulPair : Option ColumnLiteral → Type 0
LawfulPair None = Unit {0}
LawfulPair (Some (column, literal, op)) = lawful_scalar literal ≡ true

literal_lawful : (e : ℕ) (x : Expression) → LawfulExpression e x → LawfulOption (literal_of x)
literal_lawful e (Literal value) h = h
literal_lawful e (ColumnRef column) h = tt
literal_lawful e (Unary op expr) h = tt
literal_lawful e (Binary op left right) h = tt
literal_lawful e (Nary op first count) h = tt
literal_lawful e Like h = tt
literal_lawful e Other h = tt

beside_lawful : (op : BinaryOp) (column : Option ℕ) (literal : Option Scalar) → LawfulOption literal → LawfulPair (column_beside op column literal)
beside_lawful op None literal h = tt
beside_lawful op (Some column) None h = tt
beside_lawful op (Some column) (Some literal) h = h

or_else_lawful : (x y : Option ColumnLiteral) → LawfulPair x → LawfulPair y → LawfulPair (option_or x y)
or_else_lawful None y h k = k
or_else_lawful (Some pair) y h k = h

pub pair_lawful : (op : BinaryOp) (e f : ℕ) (left right : Expression) → LawfulExpression e left → LawfulExpression f right → LawfulPair (column_literal op left right)
unfolding column_literal
pair_lawful op e f left right h k =
    or_else_lawful (column_beside op (column_ref left) (literal_of right)) (column_beside (reversed op) (column_ref right) (literal_of left)) (beside_lawful op (column_ref left) (literal_of right) (literal_lawful f right k)) (beside_lawful (reversed op) (column_ref right) (literal_of left) (literal_lawful e left h))
