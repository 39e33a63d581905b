-- `filter_selectivity_for_predicate` of the source's analysis.rs. Definitions only.
use Rattle.std.specs.Prelude.{ℕ, Bool, true, false, List, [], ◌∷◌, Float}
use Rattle.std.specs.Float.{binary64}
use Rattle.std.specs.Float.Ieee.{sub, mul}
use Rattle.float.specs.Order.{f64_zero, f64_one}
use Rattle.scalar.specs.declared.Scalar.{Scalar}
use Rattle.scalar.specs.declared.Scalar.TheVariants.{Boolean}
use Rattle.estimate.specs.Estimates.{exact}
use Rattle.estimate.specs.declared.Estimate.{Estimate}
use Rattle.records.specs.declared.expressions.NaryOp.{NaryOp}
use Rattle.records.specs.declared.expressions.NaryOp.TheVariants.{And, Or}
use Rattle.records.specs.declared.expressions.Expression.{Expression}
use Rattle.records.specs.declared.expressions.Expression.TheVariants.{Literal, Unary, Binary, Nary, Like}
use Rattle.sheet.specs.Sheet.{Sheet}
use Rattle.lookup.specs.Lookup.{expression_of, operands_of}
use Rattle.lookup.specs.Recursion.{by_number}
use Rattle.range.specs.Selectivity.{unit_estimate, default_estimate}
use Rattle.comparison.specs.Unary.{unary_selectivity}
use Rattle.comparison.specs.Binary.{binary_selectivity}

-- ---- a literal

abbrev pub truth_estimate : Bool → Estimate
truth_estimate true = exact f64_one
truth_estimate false = exact f64_zero

unfoldable pub literal_estimate : Sheet → Scalar → Estimate
unfolding exact default_estimate
literal_estimate sheet (Boolean b) = truth_estimate b
literal_estimate sheet _ = default_estimate sheet

-- ---- an And or an Or

-- of an And the part that an operand selects, of an Or the part that it leaves
abbrev pub operand_factor : NaryOp → Float → Float
operand_factor And selected = selected
operand_factor Or selected = sub binary64 f64_one selected

-- multiplied one after the other, from the first operand on
unfoldable pub operand_product : NaryOp → (ℕ → Estimate) → Float → List ℕ → Float
operand_product op below product [] = product
operand_product op below product (o ∷ os) = operand_product op below (mul binary64 product (operand_factor op (below o).value)) os

abbrev pub nary_estimate : NaryOp → Float → Estimate
nary_estimate And product = unit_estimate product
nary_estimate Or product = unit_estimate (sub binary64 f64_one product)

-- ---- any expression

-- by the estimates of smaller numbers
abbrev pub expression_estimate : Sheet → (ℕ → Estimate) → Expression → Estimate
expression_estimate sheet below (Literal value) = literal_estimate sheet value
expression_estimate sheet below (Unary op expr) = unary_selectivity sheet op expr
expression_estimate sheet below (Binary op left right) = binary_selectivity sheet op left right
expression_estimate sheet below (Nary op first count) = nary_estimate op (operand_product op below f64_one (operands_of sheet first count))
expression_estimate sheet below Like = unit_estimate sheet.settings.like_selectivity
expression_estimate sheet below _ = default_estimate sheet

unfoldable pub selectivity_by : Sheet → (ℕ → Estimate) → ℕ → Estimate
unfolding unit_estimate default_estimate literal_estimate unary_selectivity binary_selectivity operand_product
selectivity_by sheet below e = expression_estimate sheet below (expression_of sheet e)

-- a number that is not below an expression's own, which no accepted sheet has as an operand, has the default
abbrev pub default_of : Sheet → ℕ → Estimate
default_of sheet o = default_estimate sheet

unfoldable pub filter_selectivity_for_predicate : Sheet → ℕ → Estimate
unfolding by_number selectivity_by default_estimate
filter_selectivity_for_predicate sheet e = by_number (selectivity_by sheet) (default_of sheet) e
