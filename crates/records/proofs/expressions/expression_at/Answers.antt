use Rattle.std.proofs.Common.{sym, ap, ◌∙◌}
use Rattle.records.specs.Expressions.{kind_of}
use Rattle.records.proofs.KindLaws.{kind_told}
use Rattle.records.proofs.expressions.expression_at.Goals as goal

pub returns-in-Literal : goal.returns-in-Literal
returns-in-Literal c = rw c.scalar_at.ensures (kind_told _ _ _ (sym c.in-Literal.is ∙ c.from.ensures ∙ ap kind_of c.byte_at.ensures))

pub returns-in-ColumnRef : goal.returns-in-ColumnRef
returns-in-ColumnRef c = rw c.u16_at.ensures (kind_told _ _ _ (sym c.in-ColumnRef.is ∙ c.from.ensures ∙ ap kind_of c.byte_at.ensures))

pub returns-in-Unary : goal.returns-in-Unary
returns-in-Unary c = rw (c.from-in-Unary.ensures, c.byte_at-in-Unary.ensures, c.u16_at-in-Unary.ensures) (kind_told _ _ _ (sym c.in-Unary.is ∙ c.from.ensures ∙ ap kind_of c.byte_at.ensures))

pub returns-in-Binary : goal.returns-in-Binary
returns-in-Binary c = rw (c.from-in-Binary.ensures, c.byte_at-in-Binary.ensures, c.u16_at-in-Binary.ensures, c.u16_at-in-Binary-2.ensures) (kind_told _ _ _ (sym c.in-Binary.is ∙ c.from.ensures ∙ ap kind_of c.byte_at.ensures))

pub returns-in-Nary : goal.returns-in-Nary
returns-in-Nary c = rw (c.from-in-Nary.ensures, c.byte_at-in-Nary.ensures, c.u16_at-in-Nary.ensures, c.u16_at-in-Nary-2.ensures) (kind_told _ _ _ (sym c.in-Nary.is ∙ c.from.ensures ∙ ap kind_of c.byte_at.ensures))

pub returns-in-Like : goal.returns-in-Like
returns-in-Like c = kind_told _ _ _ (sym c.in-Like.is ∙ c.from.ensures ∙ ap kind_of c.byte_at.ensures)

pub returns-in-Other : goal.returns-in-Other
returns-in-Other c = kind_told _ _ _ (sym c.in-Other.is ∙ c.from.ensures ∙ ap kind_of c.byte_at.ensures)
