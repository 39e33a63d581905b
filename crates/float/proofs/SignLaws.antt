-- Floats against zero. Assumes nothing.
use Rattle.std.proofs.Common.{◌≡◌, ℕ, zero, suc, ◌+◌, ◌*◌, ◌<◌, ◌≤◌, true, false, not, T, ℤ, sym, ap, ◌∙◌, subst, lt_of_lt_of_le, le-add_right, zero-lt-suc, mul-pos, zero-mul, arith, le-ltb, lt-ltb}
use mathlib.Core.Bool.{false≢true}
use lib.Ieee.{Float, nan, inf, fin, up, down, lt, is_nan}
use lib.Ieee.Fits.{up_pos}
use lib.Ieee.Positive.{positive}
use Rattle.float.specs.Order.{f64_zero}

-- ---- a number other than zero lies on the side that its sign says
size_pos : (m : ℕ) (e : ℤ) → 0 < suc m * up e * 1
size_pos m e = mul-pos (mul-pos (zero-lt-suc m) (up_pos e)) (zero-lt-suc 0)

pub zero_below : (m : ℕ) (e : ℤ) → lt f64_zero (fin false (suc m) e) ≡ true
unfolding lt
zero_below m e = lt-ltb (0 * 1 * down e) (suc m * up e * 1) (subst (λ (x : ℕ). x < suc m * up e * 1) (sym (zero-mul (down e))) (size_pos m e))

pub below_zero : (m : ℕ) (e : ℤ) → lt (fin true (suc m) e) f64_zero ≡ true
unfolding lt
below_zero m e = lt-ltb 0 (suc m * up e * 1 + 0 * 1 * down e) (lt_of_lt_of_le (size_pos m e) (le-add_right (suc m * up e * 1) (0 * 1 * down e)))

-- ---- nothing with the sign clear is below zero, and -0 is not
pub zero_least : (m : ℕ) (e : ℤ) → lt (fin false m e) f64_zero ≡ false
unfolding lt
zero_least m e = le-ltb (m * up e * 1) (0 * 1 * down e) (least (m * up e * 1) (0 * 1 * down e) (zero-mul (down e)))
  where
    least : (a b : ℕ) → b ≡ 0 → b ≤ a
    least a b h = omega arith

pub minus_zero_level : (e : ℤ) → lt (fin true zero e) f64_zero ≡ false
unfolding lt
minus_zero_level e = le-ltb 0 (zero * up e * 1 + 0 * 1 * down e) (none (zero * up e) (down e * 0) (0 * 1 * down e) (zero-mul (up e)) (zero-mul (down e)))
  where
    none : (a d b : ℕ) → a ≡ 0 → b ≡ 0 → a * 1 + b ≤ 0
    none a d b h k = omega arith

-- ---- what lies above zero
pub above_no_nan : (x : Float) → lt f64_zero x ≡ true → T (not (is_nan x))
unfolding lt is_nan
above_no_nan nan h = absurd (false≢true h)
above_no_nan (inf s) h = tt
above_no_nan (fin s m e) h = tt

pub above_not_zero : (x : Float) → lt f64_zero x ≡ true → x ≡ f64_zero → ⊥
unfolding lt
above_not_zero x h e = false≢true (ap (lt f64_zero) (sym e) ∙ h)

pub positive_above : (x : Float) → T (positive x) → lt f64_zero x ≡ true
positive_above nan h = absurd h
positive_above (inf s) h = absurd h
positive_above (fin true m e) h = absurd h
positive_above (fin false zero e) h = absurd h
positive_above (fin false (suc m) e) h = zero_below m e
