-- The figures of every predicate of an accepted sheet lie from 0 to 1, and none is -0. Assumes nothing.
use Prim.Native.Nat.{ℕ}
use mathlib.Core.Path.{◌≡◌}
use mathlib.Core.List.{List, [], ◌∷◌}
use lib.Ieee.{Float, binary64, sub, mul}
use Rattle.float.specs.Order.{f64_one, Unit01}
use Rattle.float.proofs.UnitLaws.{one_unit, mul_unit}
use Rattle.le.proofs.FieldLaws.{Bytes}
use Rattle.estimate.specs.declared.Estimate.{Estimate}
use Rattle.records.specs.declared.expressions.NaryOp.{NaryOp}
use Rattle.records.specs.declared.expressions.NaryOp.TheVariants.{And, Or}
use Rattle.records.specs.declared.expressions.Expression.{Expression}
use Rattle.records.specs.declared.expressions.Expression.TheVariants.{Literal, ColumnRef, Unary, Binary, Nary, Like, Other}
use Rattle.sheet.specs.Check.{sheet_refusal}
use Rattle.sheet.specs.Sheet.{Sheet, sheet_in}
use Rattle.lawful.specs.Lawful.{LawfulSheet}
use Rattle.lawful.proofs.LawfulLaws.{accepted_sheet}
use Rattle.units.proofs.UnitOperations.{complement_unit}
use Rattle.lookup.specs.Lookup.{expression_of, operands_of}
use Rattle.predicate.specs.Predicate.{operand_factor, operand_product, nary_estimate, expression_estimate, selectivity_by, default_of, filter_selectivity_for_predicate}
use Rattle.predicate_range.specs.Range.{PredicateInUnit, BoundedInUnit, PredicateBoundedInUnit}
use Rattle.predicate_range.proofs.NumberRange.{each_number}
use Rattle.predicate_range.proofs.LeafRange.{unit_bounded, default_bounded, like_bounded, literal_bounded}
use Rattle.predicate_range.proofs.ComparisonRange.{unary_bounded, binary_bounded}

-- ---- an And or an Or
factor_unit : (op : NaryOp) (x : Float) → Unit01 x → Unit01 (operand_factor op x)
factor_unit And x u = u
factor_unit Or x u = complement_unit x u

product_unit : (op : NaryOp) (estimates : ℕ → Estimate) → ((o : ℕ) → BoundedInUnit (estimates o)) → (product : Float) → Unit01 product → (l : List ℕ) → Unit01 (operand_product op estimates product l)
unfolding operand_product
product_unit op estimates h product u [] = u
product_unit op estimates h product u (o ∷ os) =
    let factor = operand_factor op (estimates o).value in
    product_unit op estimates h (mul binary64 product factor) (mul_unit product factor u (factor_unit op (estimates o).value (h o).value)) os

nary_bounded : (op : NaryOp) (product : Float) → Unit01 product → BoundedInUnit (nary_estimate op product)
nary_bounded And product u = unit_bounded product u
nary_bounded Or product u = unit_bounded (sub binary64 f64_one product) (complement_unit product u)

-- ---- any expression
module _ (sheet : Sheet) (h : LawfulSheet sheet) where
  expression_bounded : (estimates : ℕ → Estimate) → ((o : ℕ) → BoundedInUnit (estimates o)) → (x : Expression) → BoundedInUnit (expression_estimate sheet estimates x)
  expression_bounded estimates b (Literal value) = literal_bounded sheet h value
  expression_bounded estimates b (ColumnRef column) = default_bounded sheet h
  expression_bounded estimates b (Unary op expr) = unary_bounded sheet h op expr
  expression_bounded estimates b (Binary op left right) = binary_bounded sheet h op left right
  expression_bounded estimates b (Nary op first count) =
      let operands = operands_of sheet first count in
      nary_bounded op (operand_product op estimates f64_one operands) (product_unit op estimates b f64_one one_unit operands)
  expression_bounded estimates b Like = like_bounded sheet h
  expression_bounded estimates b Other = default_bounded sheet h

  made_bounded : (estimates : ℕ → Estimate) → ((o : ℕ) → BoundedInUnit (estimates o)) → (e : ℕ) → BoundedInUnit (selectivity_by sheet estimates e)
  unfolding selectivity_by
  made_bounded estimates b e = expression_bounded estimates b (expression_of sheet e)

  -- ---- of a lawful sheet
  pub lawful_bounds : PredicateBoundedInUnit sheet
  unfolding filter_selectivity_for_predicate
  lawful_bounds e = each_number BoundedInUnit (selectivity_by sheet) (default_of sheet) (λ o. default_bounded sheet h) made_bounded e

pub lawful_predicate : (sheet : Sheet) → LawfulSheet sheet → PredicateInUnit sheet
lawful_predicate sheet h e = (lawful_bounds sheet h e).value

-- ---- of an accepted one
pub accepted_bounds : (s : List ℕ) → Bytes s → sheet_refusal s ≡ 0 → PredicateBoundedInUnit (sheet_in s)
accepted_bounds s b k = lawful_bounds (sheet_in s) (accepted_sheet s b k)

pub accepted_predicate : (s : List ℕ) → Bytes s → sheet_refusal s ≡ 0 → PredicateInUnit (sheet_in s)
accepted_predicate s b k = lawful_predicate (sheet_in s) (accepted_sheet s b k)
