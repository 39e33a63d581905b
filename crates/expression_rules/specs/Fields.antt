-- An expression's fields: its kind, its operator, what a and b say, and its scalar. A field that a kind does not have is 0 or Null. Definitions only.
use Rattle.std.specs.Prelude.{ℕ}
use Rattle.scalar.specs.declared.Scalar.{Scalar}
use Rattle.scalar.specs.declared.Scalar.TheVariants.{Null}
use Rattle.records.specs.declared.expressions.UnaryOp.{UnaryOp}
use Rattle.records.specs.declared.expressions.UnaryOp.TheVariants.{Not, IsNull, IsNotNull, Negate}
use Rattle.records.specs.declared.expressions.BinaryOp.{BinaryOp}
use Rattle.records.specs.declared.expressions.BinaryOp.TheVariants.{Eq, IsNotDistinctFrom, NotEq, Lt, LtEq, Gt, GtEq, Add, Subtract, Multiply, Divide}
use Rattle.records.specs.declared.expressions.NaryOp.{NaryOp}
use Rattle.records.specs.declared.expressions.NaryOp.TheVariants.{And, Or}
use Rattle.records.specs.declared.expressions.Expression.{Expression}
use Rattle.records.specs.declared.expressions.Expression.TheVariants.{Literal, ColumnRef, Unary, Binary, Nary, Like, Other}

-- ---- operators

abbrev pub unary_number : UnaryOp → ℕ
unary_number Not = 0
unary_number IsNull = 1
unary_number IsNotNull = 2
unary_number Negate = 3

abbrev pub binary_number : BinaryOp → ℕ
binary_number Eq = 0
binary_number IsNotDistinctFrom = 1
binary_number NotEq = 2
binary_number Lt = 3
binary_number LtEq = 4
binary_number Gt = 5
binary_number GtEq = 6
binary_number Add = 7
binary_number Subtract = 8
binary_number Multiply = 9
binary_number Divide = 10

abbrev pub nary_number : NaryOp → ℕ
nary_number And = 0
nary_number Or = 1

-- ---- fields

abbrev pub kind_number : Expression → ℕ
kind_number (Literal x) = 0
kind_number (ColumnRef column) = 1
kind_number (Unary op expr) = 2
kind_number (Binary op left right) = 3
kind_number (Nary op first count) = 4
kind_number Like = 5
kind_number Other = 6

abbrev pub expression_op : Expression → ℕ
expression_op (Literal x) = 0
expression_op (ColumnRef column) = 0
expression_op (Unary op expr) = unary_number op
expression_op (Binary op left right) = binary_number op
expression_op (Nary op first count) = nary_number op
expression_op Like = 0
expression_op Other = 0

abbrev pub expression_first : Expression → ℕ
expression_first (Literal x) = 0
expression_first (ColumnRef column) = column
expression_first (Unary op expr) = expr
expression_first (Binary op left right) = left
expression_first (Nary op first count) = first
expression_first Like = 0
expression_first Other = 0

abbrev pub expression_second : Expression → ℕ
expression_second (Literal x) = 0
expression_second (ColumnRef column) = 0
expression_second (Unary op expr) = 0
expression_second (Binary op left right) = right
expression_second (Nary op first count) = count
expression_second Like = 0
expression_second Other = 0

abbrev pub expression_scalar : Expression → Scalar
expression_scalar (Literal x) = x
expression_scalar (ColumnRef column) = Null
expression_scalar (Unary op expr) = Null
expression_scalar (Binary op left right) = Null
expression_scalar (Nary op first count) = Null
expression_scalar Like = Null
expression_scalar Other = Null
