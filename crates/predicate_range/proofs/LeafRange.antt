-- Estimates that stand alone: with the bounds 0 and 1, exact, and of a setting. Assumes nothing.
use Rattle.std.specs.Prelude.{Some}
use mathlib.Core.Path.{refl, sym, subst}
use mathlib.Core.Logic.{inl, inr}
use mathlib.Core.Bool.{Bool, true, false}
use lib.Dec.{T}
use lib.IntN.{negsuc}
use lib.Ieee.{Float, fin, le}
use lib.Ieee.Fits.{and_l, and_r}
use lib.Ieee.Positive as Positive
use Rattle.float.specs.Order.{f64_zero, f64_one, Unit01}
use Rattle.float.specs.Ranges.{plus_zero, between}
use Rattle.float.proofs.RangeLaws.{plus_zero_is}
use Rattle.float.proofs.NonNegLaws.{not_lt_le}
use Rattle.float.proofs.UnitLaws.{zero_unit, one_unit}
use Rattle.scalar.specs.declared.Scalar.{Scalar}
use Rattle.scalar.specs.declared.Scalar.TheVariants.{Null, Boolean, Int32, Int64, Float64, Decimal128, Date32, IntervalMonthDayNano, IntervalDayTime}
use Rattle.estimate.specs.Estimates.{exact, derived}
use Rattle.sheet.specs.Sheet.{Sheet}
use Rattle.lawful.specs.Lawful.{LawfulSelectivity, LawfulSheet}
use Rattle.units.proofs.SizeLaws.{nonneg_ordinary}
use Rattle.units.proofs.FigureLaws.{or_split, positive_nonneg}
use Rattle.units.proofs.UnitOperations.{nonneg_not_below, le_own, unit_estimate_law}
use Rattle.range.specs.Selectivity.{unit_estimate, default_estimate}
use Rattle.predicate.specs.Predicate.{truth_estimate, literal_estimate}
use Rattle.predicate_range.specs.Range.{BoundedInUnit}

-- ---- a setting
abbrev least : Float
least = fin false 1 (negsuc 63)

pub selectivity_unit : (x : Float) → LawfulSelectivity x → Unit01 x
selectivity_unit x h = elim (or_split (plus_zero x) (between least f64_one x) h.lawful) [
  | inl z ↦ subst Unit01 (sym (plus_zero_is x h.held z)) zero_unit
  | inr b ↦
      let lo = and_l (le least x) (le x f64_one) b in
      let hi = and_r (le least x) (le x f64_one) b in
      record { held = h.held; low = positive_nonneg x (Positive.between least x f64_one tt tt lo hi); high = hi }
]

-- ---- bounds
pub from_zero : (x : Float) → Unit01 x → T (le f64_zero x)
from_zero x u = not_lt_le x f64_zero u.low tt (nonneg_not_below x u.low)

pub unit_bounded : (x : Float) → Unit01 x → BoundedInUnit (unit_estimate x)
unfolding unit_estimate derived
unit_bounded x u =
    let v : Unit01 (derived x (Some f64_zero) (Some f64_one)).value = unit_estimate_law x u.held (nonneg_ordinary x u.low) in
    record { value = v; lower = zero_unit; upper = one_unit; has_lower = refl; has_upper = refl; above = from_zero (derived x (Some f64_zero) (Some f64_one)).value v; below = v.high }

pub exact_bounded : (x : Float) → Unit01 x → BoundedInUnit (exact x)
unfolding exact
exact_bounded x u = record { value = u; lower = u; upper = u; has_lower = refl; has_upper = refl; above = le_own x u.low; below = le_own x u.low }

-- ---- the default, Like and a literal
pub default_bounded : (sheet : Sheet) → LawfulSheet sheet → BoundedInUnit (default_estimate sheet)
unfolding default_estimate
default_bounded sheet h = unit_bounded sheet.settings.default_predicate_selectivity (selectivity_unit sheet.settings.default_predicate_selectivity h.settings.default_predicate_selectivity)

pub like_bounded : (sheet : Sheet) → LawfulSheet sheet → BoundedInUnit (unit_estimate sheet.settings.like_selectivity)
like_bounded sheet h = unit_bounded sheet.settings.like_selectivity (selectivity_unit sheet.settings.like_selectivity h.settings.like_selectivity)

truth_bounded : (b : Bool) → BoundedInUnit (truth_estimate b)
truth_bounded true = exact_bounded f64_one one_unit
truth_bounded false = exact_bounded f64_zero zero_unit

pub literal_bounded : (sheet : Sheet) → LawfulSheet sheet → (x : Scalar) → BoundedInUnit (literal_estimate sheet x)
unfolding literal_estimate
literal_bounded sheet h Null = default_bounded sheet h
literal_bounded sheet h (Boolean b) = truth_bounded b
literal_bounded sheet h (Int32 x) = default_bounded sheet h
literal_bounded sheet h (Int64 x) = default_bounded sheet h
literal_bounded sheet h (Float64 x) = default_bounded sheet h
literal_bounded sheet h (Decimal128 value precision scale) = default_bounded sheet h
literal_bounded sheet h (Date32 x) = default_bounded sheet h
literal_bounded sheet h (IntervalMonthDayNano months days nanoseconds) = default_bounded sheet h
literal_bounded sheet h (IntervalDayTime days milliseconds) = default_bounded sheet h
