-- The conjuncts that equate no columns: the product of their selectivities lies from 0 to 1. Assumes nothing.
use Prim.Native.Nat.{ℕ}
use mathlib.Core.List.{List, [], ◌∷◌}
use lib.Ieee.{Float}
use Rattle.float.specs.Order.{f64_one, Unit01}
use Rattle.float.proofs.UnitLaws.{one_unit, mul_unit}
use Rattle.sheet.specs.Sheet.{Sheet}
use Rattle.lawful.specs.Lawful.{LawfulSheet}
use Rattle.parts.specs.Parts.{column_equality}
use Rattle.std.specs.Prelude.{Option, None, Some}
use Rattle.parts.specs.declared.equalities.EqualColumns.{EqualColumns}
use Rattle.predicate.specs.Predicate.{filter_selectivity_for_predicate}
use Rattle.predicate_range.proofs.RangeLaws.{lawful_predicate}
use Rattle.join.specs.Residual.{times_predicate, residual_from, residual_selectivity}

module _ (sheet : Sheet) (h : LawfulSheet sheet) where
  times_unit : (product : Float) (e : ℕ) (c : Option EqualColumns) → Unit01 product → Unit01 (times_predicate sheet product e c)
  times_unit product e None u = mul_unit product (filter_selectivity_for_predicate sheet e).value u (lawful_predicate sheet h e)
  times_unit product e (Some columns) u = u

  from_unit : (product : Float) (l : List ℕ) → Unit01 product → Unit01 (residual_from sheet product l)
  unfolding residual_from
  from_unit product [] u = u
  from_unit product (e ∷ es) u = let c = column_equality sheet e in from_unit (times_predicate sheet product e c) es (times_unit product e c u)

  pub residual_unit : (conjuncts : List ℕ) → Unit01 (residual_selectivity sheet conjuncts)
  residual_unit conjuncts = from_unit f64_one conjuncts one_unit
