-- The fields of expressions. Kinds: 0 literal, 1 column, 2 `UnaryOp`, 3 `BinaryOp`, 4 `NaryOp`, 5 LIKE, 6 any other. Definitions only.
use Rattle.std.specs.Prelude.{ℕ, cond, List, [], ◌∷◌, leb, ltb, eqb}
use Rattle.le.specs.Fields.{byte_at, u16_at}
use Rattle.layout.specs.Places.{column_limit, scalar_size}
use Rattle.layout.specs.Fields.{Field, byte, number, fields_refusal}
use Rattle.rules.specs.Rules.{ask}
use Rattle.scalar_bytes.specs.Reading.{scalar_refusal, zeros_at}
use Rattle.scalar_bytes.specs.Fields.{scalar}
use Rattle.scalar_bytes.specs.declared.reads.ScalarPlace.TheVariants.{Literal}
use Rattle.records.specs.declared.expressions.Expression.{Expression}
use Rattle.expression_rules.specs.Fields.{kind_number, expression_op, expression_first, expression_second, expression_scalar}

-- the last of the source's 4 unary, 11 binary and 2 n-ary operators; the other kinds have none, and 0 there
unfoldable pub last_op : ℕ → ℕ
last_op kind = cond (eqb kind 2) 3 (cond (eqb kind 3) 10 (cond (eqb kind 4) 1 0))

-- a: a column, a child of expression i, or where the run of operands starts
unfoldable pub first_field_refusal : ℕ → ℕ → ℕ → ℕ → ℕ
first_field_refusal kind i run a =
    cond (eqb kind 1) (ask (ltb a column_limit) 7)
    (cond (eqb kind 2) (ask (ltb a i) 8)
    (cond (eqb kind 3) (ask (ltb a i) 8)
    (cond (eqb kind 4) (ask (eqb a run) 9)
    (ask (eqb a 0) 6))))

-- b: a child of expression i, or how many operands there are, which no rule limits
unfoldable pub second_field_refusal : ℕ → ℕ → ℕ → ℕ
second_field_refusal kind i b =
    cond (eqb kind 3) (ask (ltb b i) 8)
    (cond (eqb kind 4) 0
    (ask (eqb b 0) 6))

unfoldable pub literal_refusal : ℕ → List ℕ → ℕ → ℕ
unfolding scalar_refusal
literal_refusal kind s at = cond (eqb kind 0) (scalar_refusal Literal s at) (ask (zeros_at scalar_size s at) 6)

-- expression i, of this kind; the operands of the expressions before it end at `run`
pub record ExpressionPlace : Type 0 where
  pub kind : ℕ
  pub run : ℕ
  pub i : ℕ

abbrev pub expression_fields : List (Field ExpressionPlace Expression)
expression_fields =
    byte kind_number (λ c s at. ask (leb c.kind 6) 6)
    ∷ byte expression_op (λ c s at. ask (leb (byte_at s at) (last_op c.kind)) 6)
    ∷ number expression_first (λ c s at. first_field_refusal c.kind c.i c.run (u16_at s at))
    ∷ number expression_second (λ c s at. second_field_refusal c.kind c.i (u16_at s at))
    ∷ scalar expression_scalar (λ c. literal_refusal c.kind)
    ∷ []

unfoldable pub expression_refusal : List ℕ → ℕ → ℕ → ℕ → ℕ
unfolding last_op first_field_refusal second_field_refusal literal_refusal
expression_refusal s run i at = fields_refusal expression_fields (record { kind = byte_at s at; run = run; i = i }) s at
