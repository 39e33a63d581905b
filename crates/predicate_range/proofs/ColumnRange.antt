-- A column against a literal by its range, and the part of its rows that is not null. Assumes nothing.
use Rattle.std.specs.Prelude.{Option, None, Some, IfSome}
use mathlib.Core.Path.{◌≡◌}
use mathlib.Core.Bool.{true}
use lib.Ieee.{Float}
use Rattle.float.specs.Order.{Unit01}
use Rattle.scalar.specs.Number.{scalar_to_f64}
use Rattle.scalar.specs.declared.Scalar.{Scalar}
use Rattle.scalar_bytes.specs.Encoding.{lawful_scalar, lawful_bound}
use Rattle.estimate.specs.Bytes.{LawfulFigure}
use Rattle.records.specs.declared.columns.ColumnProfile.{ColumnProfile}
use Rattle.records.specs.declared.expressions.BinaryOp.{BinaryOp}
use Rattle.records.specs.declared.expressions.BinaryOp.TheVariants.{Eq, IsNotDistinctFrom, NotEq, Lt, LtEq, Gt, GtEq, Add, Subtract, Multiply, Divide}
use Rattle.units.specs.Sizes.{Tame}
use Rattle.units.proofs.FigureLaws.{non_null_unit}
use Rattle.units.proofs.TameLaws.{share_below_unit, share_above_unit}
use Rattle.units.proofs.ScalarLaws.{scalar_tame}
use Rattle.range.specs.Selectivity.{non_null_fraction}
use Rattle.range.specs.Range.{bound_number, width, selected, range_of, range_selectivity}
use Rattle.predicate_range.specs.Range.{BoundedInUnit}
use Rattle.predicate_range.proofs.LeafRange.{unit_bounded}

-- ---- not null
pub fraction_unit : (frequency rows : Float) → LawfulFigure frequency → LawfulFigure rows → Unit01 (non_null_fraction frequency rows)
unfolding non_null_fraction
fraction_unit frequency rows f g = non_null_unit frequency rows f g

-- ---- the range
bound_tame : (x : Option Scalar) → lawful_bound x ≡ true → IfSome (bound_number x) Tame
unfolding lawful_bound
bound_tame None h = tt
bound_tame (Some x) h = scalar_tame x h

selected_unit : (op : BinaryOp) (fallback min max value : Float) → Unit01 fallback → Tame min → Tame max → Tame value → Unit01 (selected op fallback min max value)
unfolding selected width
selected_unit Eq fallback min max value u a b t = u
selected_unit IsNotDistinctFrom fallback min max value u a b t = u
selected_unit NotEq fallback min max value u a b t = u
selected_unit Lt fallback min max value u a b t = share_below_unit min max value a b t
selected_unit LtEq fallback min max value u a b t = share_below_unit min max value a b t
selected_unit Gt fallback min max value u a b t = share_above_unit min max value a b t
selected_unit GtEq fallback min max value u a b t = share_above_unit min max value a b t
selected_unit Add fallback min max value u a b t = u
selected_unit Subtract fallback min max value u a b t = u
selected_unit Multiply fallback min max value u a b t = u
selected_unit Divide fallback min max value u a b t = u

range_of_bounded : (op : BinaryOp) (fallback : Float) (min max value : Option Float) → Unit01 fallback → IfSome min Tame → IfSome max Tame → IfSome value Tame → BoundedInUnit (range_of op fallback min max value)
unfolding range_of
range_of_bounded op fallback None max value u a b t = unit_bounded fallback u
range_of_bounded op fallback (Some min) None value u a b t = unit_bounded fallback u
range_of_bounded op fallback (Some min) (Some max) None u a b t = unit_bounded fallback u
range_of_bounded op fallback (Some min) (Some max) (Some value) u a b t = unit_bounded (selected op fallback min max value) (selected_unit op fallback min max value u a b t)

pub range_bounded : (profile : ColumnProfile) (literal : Scalar) (op : BinaryOp) (fallback : Float) → lawful_bound profile.lower ≡ true → lawful_bound profile.upper ≡ true → lawful_scalar literal ≡ true → Unit01 fallback
    → BoundedInUnit (range_selectivity profile literal op fallback)
unfolding range_selectivity
range_bounded profile literal op fallback l h v u =
    range_of_bounded op fallback (bound_number profile.lower) (bound_number profile.upper) (scalar_to_f64 literal) u (bound_tame profile.lower l) (bound_tame profile.upper h) (scalar_tame literal v)
