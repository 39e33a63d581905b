-- The probability that a left row finds a partner lies from 0 to 1, through conjuncts that equate no columns too: the number of partners that it is raised to may be infinite, but is 1 at least. Assumes nothing.
use mathlib.Core.Path.{◌≡◌, refl}
use mathlib.Core.Bool.{Bool, true, false, ◌||◌, cond}
use lib.Dec.{T, lit≤}
use lib.Ieee.{Float, binary64, sub, mul, div, le, eq}
use Rattle.float.specs.Order.{f64_zero, f64_one, clamp_unit, nonneg, Unit01}
use Rattle.float.proofs.UnitLaws.{zero_unit, mul_unit}
use Rattle.power.specs.Power.{power}
use Rattle.power.proofs.Within.{power_unit}
use Rattle.estimate.specs.Bytes.{LawfulFigure}
use Rattle.units.specs.Sizes.{UpTo}
use Rattle.units.proofs.SizeLaws.{unit_up_to, mul_up_to, clamped_up_to}
use Rattle.units.proofs.FigureLaws.{figure_up_to}
use Rattle.units.proofs.UnitOperations.{nonneg_not_below, complement_unit}
use Rattle.predicate_range.proofs.NumberRange.{either}
use Rattle.join.specs.Residual.{residual_conditional_fanout, surviving_match_probability, clamped_match_probability, residual_match_probability}
use Rattle.join_range.proofs.ClearLaws.{nonneg_clear, div_clear, clear_max_one, not_zero_positive}
use Rattle.join_range.proofs.SketchJoinRange.{neither}

pub own_clamp_unit : (x : Float) → Unit01 x → Unit01 (clamp_unit x)
own_clamp_unit x u = clamped_up_to 0 x (unit_up_to x u)

pub rows_part_up_to : (rows part : Float) → LawfulFigure rows → Unit01 part → UpTo 64 (mul binary64 rows part)
rows_part_up_to rows part f u = mul_up_to 64 0 rows part (lit≤ tt) (figure_up_to rows f) (unit_up_to part u)

not_equal_not_below : (x : Float) → T (nonneg x) → eq x f64_zero ≡ false → le x f64_zero ≡ false
unfolding le
not_equal_not_below x p e = rw (nonneg_not_below x p) e

module _ (match selectivity rows residual : Float) (m : Unit01 match) (s : Unit01 selectivity) (f : LawfulFigure rows) (r : Unit01 residual) where
  fanout_from_one : eq match f64_zero ≡ false → T (le f64_one (residual_conditional_fanout match selectivity rows))
  unfolding residual_conditional_fanout
  fanout_from_one e =
      let k = not_equal_not_below match m.low e in
      let partners = mul binary64 rows selectivity in
      rw k (clear_max_one (div binary64 partners match) (div_clear partners match (nonneg_clear partners (rows_part_up_to rows selectivity f s).low) (not_zero_positive match m.low k)))

  surviving_unit : eq match f64_zero ≡ false → Unit01 (surviving_match_probability match selectivity rows residual)
  unfolding surviving_match_probability
  surviving_unit e =
      let fanout = residual_conditional_fanout match selectivity rows in
      let lost = power (sub binary64 f64_one residual) fanout in
      let survives = sub binary64 f64_one lost in
      own_clamp_unit (mul binary64 match survives) (mul_unit match survives m (complement_unit lost (power_unit (sub binary64 f64_one residual) fanout (complement_unit residual r) (fanout_from_one e))))

  clamped_match_unit : Unit01 (clamped_match_probability match selectivity rows residual)
  unfolding clamped_match_probability
  clamped_match_unit = go (eq match f64_zero || eq residual f64_zero) (neither (eq match f64_zero) (eq residual f64_zero))
    where
      go : (b : Bool) → (b ≡ false → (eq match f64_zero ≡ false) × (eq residual f64_zero ≡ false)) → Unit01 (cond b f64_zero (cond (eq residual f64_one) match (surviving_match_probability match selectivity rows residual)))
      go true n = zero_unit
      go false n = either Unit01 (eq residual f64_one) match (surviving_match_probability match selectivity rows residual) m (surviving_unit (n refl).0)

pub residual_match_unit : (match selectivity rows residual : Float) → Unit01 match → Unit01 selectivity → LawfulFigure rows → Unit01 residual → Unit01 (residual_match_probability match selectivity rows residual)
unfolding residual_match_probability
residual_match_unit match selectivity rows residual m s f r = clamped_match_unit (clamp_unit match) selectivity rows (clamp_unit residual) (own_clamp_unit match m) s f (own_clamp_unit residual r)
