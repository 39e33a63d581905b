-- An expression: kind, op, a, b, scalar. The operators stand in the order of the source's lib.rs. Definitions only.
use Rattle.std.specs.Prelude.{ℕ, ◌+◌, cond, List, eqb}
use Rattle.le.specs.Fields.{byte_at, u16_at}
use Rattle.layout.specs.Places.{expression_op_offset, expression_first_offset, expression_second_offset, expression_scalar_offset}
use Rattle.scalar_bytes.specs.Reading.{scalar_at}
use Rattle.records.specs.declared.expressions.UnaryOp.{UnaryOp}
use Rattle.records.specs.declared.expressions.UnaryOp.TheVariants.{Not, IsNull, IsNotNull, Negate}
use Rattle.records.specs.declared.expressions.BinaryOp.{BinaryOp}
use Rattle.records.specs.declared.expressions.BinaryOp.TheVariants.{Eq, IsNotDistinctFrom, NotEq, Lt, LtEq, Gt, GtEq, Add, Subtract, Multiply, Divide}
use Rattle.records.specs.declared.expressions.NaryOp.{NaryOp}
use Rattle.records.specs.declared.expressions.NaryOp.TheVariants.{And, Or}
use Rattle.records.specs.declared.expressions.ExpressionKind.{ExpressionKind}
use Rattle.records.specs.declared.expressions.ExpressionKind.TheVariants.{Literal as LiteralKind, ColumnRef as ColumnRefKind, Unary as UnaryKind, Binary as BinaryKind, Nary as NaryKind, Like as LikeKind, Other as OtherKind}
use Rattle.records.specs.declared.expressions.Expression.{Expression}
use Rattle.records.specs.declared.expressions.Expression.TheVariants.{Literal, ColumnRef, Unary, Binary, Nary, Like, Other}

-- what an expression's first byte says that it is; a number past the last kind gives the last
abbrev pub kind_of : ℕ → ExpressionKind
kind_of byte =
    cond (eqb byte 0) LiteralKind
    (cond (eqb byte 1) ColumnRefKind
    (cond (eqb byte 2) UnaryKind
    (cond (eqb byte 3) BinaryKind
    (cond (eqb byte 4) NaryKind
    (cond (eqb byte 5) LikeKind OtherKind)))))

-- the number of a kind
abbrev pub kind_code : ExpressionKind → ℕ
kind_code LiteralKind = 0
kind_code ColumnRefKind = 1
kind_code UnaryKind = 2
kind_code BinaryKind = 3
kind_code NaryKind = 4
kind_code LikeKind = 5
kind_code OtherKind = 6

-- a number past the last operator gives the last
abbrev pub unary_op : ℕ → UnaryOp
unary_op n = cond (eqb n 0) Not (cond (eqb n 1) IsNull (cond (eqb n 2) IsNotNull Negate))

abbrev pub binary_op : ℕ → BinaryOp
binary_op n =
    cond (eqb n 0) Eq
    (cond (eqb n 1) IsNotDistinctFrom
    (cond (eqb n 2) NotEq
    (cond (eqb n 3) Lt
    (cond (eqb n 4) LtEq
    (cond (eqb n 5) Gt
    (cond (eqb n 6) GtEq
    (cond (eqb n 7) Add
    (cond (eqb n 8) Subtract
    (cond (eqb n 9) Multiply Divide)))))))))

abbrev pub nary_op : ℕ → NaryOp
nary_op n = cond (eqb n 0) And Or

-- a kind past the last is any other expression
unfoldable pub expression_at : List ℕ → ℕ → Expression
unfolding scalar_at
expression_at s at =
    let kind = byte_at s at in
    let op = byte_at s (at + expression_op_offset) in
    let a = u16_at s (at + expression_first_offset) in
    let b = u16_at s (at + expression_second_offset) in
    cond (eqb kind 0) (Literal (scalar_at s (at + expression_scalar_offset)))
    (cond (eqb kind 1) (ColumnRef a)
    (cond (eqb kind 2) (Unary (unary_op op) a)
    (cond (eqb kind 3) (Binary (binary_op op) a b)
    (cond (eqb kind 4) (Nary (nary_op op) a b)
    (cond (eqb kind 5) Like Other)))))
