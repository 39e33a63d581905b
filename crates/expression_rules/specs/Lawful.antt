-- What is lawful as an expression's fields, and as an operand or a conjunct. Definitions only.
use Rattle.std.specs.Prelude.{ℕ, ◌^◌, ◌<◌, ◌≡◌, true}
use Rattle.scalar_bytes.specs.Encoding.{lawful_scalar}
use Rattle.records.specs.declared.expressions.Expression.{Expression}
use Rattle.expression_rules.specs.Fields.{expression_first, expression_second, expression_scalar}

-- each number has room in its field, and the scalar is one that a sheet may hold
pub record LawfulFields (x : Expression) : Type 0 where
  pub first : expression_first x < 2 ^ 16
  pub second : expression_second x < 2 ^ 16
  pub scalar : lawful_scalar (expression_scalar x) ≡ true

-- the number of an expression
abbrev pub LawfulNumber : ℕ → Type 0
LawfulNumber x = x < 2 ^ 16
