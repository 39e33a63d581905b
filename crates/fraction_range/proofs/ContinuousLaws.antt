-- A fraction of a range of tame floats lies from 0 to 1 and is not -0: a difference of two that is not 0 has a size from 2 ^ -452 to 2 ^ 401, so a quotient of two such is finite and does not round to zero. Assumes nothing.
use Prim.Native.Nat.{ℕ}
use mathlib.Core.Path.{◌≡◌, refl, sym, ap, ◌∙◌, subst}
use mathlib.Core.Logic.{inl, inr}
use mathlib.Core.Bool.{Bool, true, false, cond, not, ◌||◌, true≢false}
use lib.Dec.{T, lit≤}
use lib.Ieee.{Float, nan, inf, fin, binary64, neg, sub, div, lt, eq}
use lib.Ieee.Positive.{positive}
use Rattle.float.specs.Order.{f64_zero, f64_one, clamp_unit, nonneg, Unit01}
use Rattle.float.proofs.UnitLaws.{one_unit}
use Rattle.units.specs.Sizes.{UpTo, AtLeast, Spread, Tame}
use Rattle.units.proofs.SizeLaws.{at_least_positive}
use Rattle.units.proofs.SpreadLaws.{spread_max_zero, div_spread, spread_clamped}
use Rattle.units.proofs.TameLaws.{tame_difference}
use Rattle.std.specs.Float.{float_is_finite}
use Rattle.interval.specs.Intervals.{interval_of}
use Rattle.interval.specs.Fraction.{ends_of, continuous}
use Rattle.std.specs.Prelude.{Some, None}
use Rattle.fraction_range.specs.Distinct.{InUnit}

-- ---- a width that is neither below zero nor zero
width_up_to : (l h : ℕ) (x : Float) → Spread l h x → lt x f64_zero ≡ false → UpTo h x
width_up_to l h x s e = subst (λ (b : Bool). UpTo h (cond b f64_zero x)) e (spread_max_zero l h x s)

neg_not_nonneg : (x : Float) → T (positive x) → T (nonneg (neg x)) → ⊥
unfolding neg
neg_not_nonneg nan p q = absurd p
neg_not_nonneg (inf s) p q = absurd p
neg_not_nonneg (fin true m e) p q = absurd p
neg_not_nonneg (fin false m e) p q = absurd q

zero_equal : eq f64_zero f64_zero ≡ true
unfolding eq
zero_equal = refl

width_at_least : (l h : ℕ) (x : Float) → Spread l h x → T (nonneg x) → eq x f64_zero ≡ false → AtLeast l x
width_at_least l h x (inl z) p e = absurd (true≢false (sym zero_equal ∙ ap (λ (w : Float). eq w f64_zero) (sym z) ∙ e))
width_at_least l h x (inr (inl w)) p e = w.0
width_at_least l h x (inr (inr w)) p e = absurd (neg_not_nonneg w.0 (at_least_positive l w.0 w.2) (subst (λ (v : Float). T (nonneg v)) w.1 p))

-- ---- the fraction
share_unit : (x w : Float) → Spread 452 401 x → Spread 452 401 w → lt w f64_zero ≡ false → eq w f64_zero ≡ false → Unit01 (clamp_unit (div binary64 x w))
share_unit x w s t b e =
    let u = width_up_to 452 401 w t b in
    spread_clamped 853 853 (div binary64 x w) (div_spread 452 401 452 401 x w (lit≤ tt) (lit≤ tt) s (width_at_least 452 401 w t u.low e) u)

by_tests : (x : Float) (f b z : Bool) → (b ≡ false → z ≡ false → Unit01 x) → InUnit (cond (not f || b) None (cond z (Some f64_one) (Some x)))
by_tests x false b z k = tt
by_tests x true true z k = tt
by_tests x true false true k = one_unit
by_tests x true false false k = k refl refl

pub continuous_unit : (lower upper overlap_lower overlap_upper : Float) → Tame lower → Tame upper → Tame overlap_lower → Tame overlap_upper → InUnit (continuous (ends_of (interval_of lower upper) (interval_of overlap_lower overlap_upper)))
unfolding continuous
continuous_unit l u ol ou a b c d =
    let w = sub binary64 u l in
    by_tests (clamp_unit (div binary64 (sub binary64 ou ol) w)) (float_is_finite w) (lt w f64_zero) (eq w f64_zero)
    (share_unit (sub binary64 ou ol) w (tame_difference ou ol d c) (tame_difference u l b a))
