-- Operations on values from 0 to 1 that give such values: the estimate with the bounds 0 and 1, the complement, the quotient by a number that is no less than 1, and the clamped sum. Assumes nothing.
use Rattle.std.specs.Prelude.{Some}
use mathlib.Core.Path.{◌≡◌, refl, ap}
use mathlib.Core.Bool.{Bool, true, false, cond}
use Prim.Native.Nat.{◌*◌}
use native.Mathlib.Nat.{le_refl, not-le_of_lt}
use lib.Dec.{T, lit≤}
use lib.Ieee.{Float, nan, inf, fin, binary64, add, sub, div, lt, le, fits}
use lib.Ieee.Positive.{num, den}
use Rattle.float.specs.Order.{f64_zero, f64_one, clamp_unit, nonneg, ordinary, Unit01}
use Rattle.float.proofs.SignLaws.{zero_least}
use Rattle.float.proofs.NonNegLaws.{cross_le, le_cross, lt_cross}
use Rattle.float.proofs.UnitLaws.{one_unit, clamped_unit}
use Rattle.estimate.specs.Estimates.{clamp_to_bounds, derived}
use Rattle.units.proofs.SizeLaws.{le_at_least, unit_up_to, up_to_unit, add_up_to, sub_up_to, div_up_to, clamped_up_to}

-- ---- the clamp of a value from 0 to 1 is the value
pub nonneg_not_below : (x : Float) → T (nonneg x) → lt x f64_zero ≡ false
nonneg_not_below nan p = absurd p
nonneg_not_below (inf s) p = absurd p
nonneg_not_below (fin true m e) p = absurd p
nonneg_not_below (fin false m e) p = zero_least m e

pub le_own : (x : Float) → T (nonneg x) → T (le x x)
le_own x p = cross_le x x p p (le_refl (num x * den x))

pub le_not_lt : (x y : Float) → T (nonneg x) → T (nonneg y) → T (le x y) → lt y x ≡ false
le_not_lt x y p q h = go (lt y x) refl
  where
    go : (b : Bool) → lt y x ≡ b → b ≡ false
    go true e = absurd (not-le_of_lt (lt_cross y x q p e) (le_cross x y p q h))
    go false e = refl

-- ---- an estimate with the bounds 0 and 1
pub bounded_is : (x : Float) → clamp_to_bounds x (Some f64_zero) (Some f64_one) ≡ clamp_unit x
unfolding clamp_to_bounds lt
bounded_is x = go (lt x f64_zero) refl
  where
    go : (b : Bool) → lt x f64_zero ≡ b
        → cond (lt f64_one (cond (lt (cond b f64_zero x) f64_zero) f64_zero (cond b f64_zero x))) f64_one (cond (lt (cond b f64_zero x) f64_zero) f64_zero (cond b f64_zero x)) ≡ cond b f64_zero (cond (lt f64_one x) f64_one x)
    go true e = refl
    go false e = ap (λ (t : Bool). cond (lt f64_one (cond t f64_zero x)) f64_one (cond t f64_zero x)) e

pub derived_is : (x : Float) → (derived x (Some f64_zero) (Some f64_one)).value ≡ clamp_unit x
unfolding derived
derived_is x = bounded_is x

pub unit_estimate_law : (x : Float) → T (fits binary64 x) → T (ordinary x) → Unit01 (derived x (Some f64_zero) (Some f64_one)).value
unit_estimate_law x h o = rw (derived_is x) (clamped_unit x h o)

-- ---- operations
pub complement_unit : (x : Float) → Unit01 x → Unit01 (sub binary64 f64_one x)
complement_unit x u = up_to_unit (sub binary64 f64_one x) (sub_up_to 0 f64_one x (lit≤ tt) (unit_up_to f64_one one_unit) u.low u.high)

pub quotient_unit : (x y : Float) → Unit01 x → T (nonneg y) → T (le f64_one y) → Unit01 (div binary64 x y)
quotient_unit x y u p h = up_to_unit (div binary64 x y) (div_up_to 0 0 x y (lit≤ tt) (unit_up_to x u) (le_at_least 0 y p h))

pub sum_unit : (x y : Float) → Unit01 x → Unit01 y → Unit01 (clamp_unit (add binary64 x y))
sum_unit x y u v = clamped_up_to 1 (add binary64 x y) (add_up_to 0 x y (lit≤ tt) (unit_up_to x u) (unit_up_to y v))
