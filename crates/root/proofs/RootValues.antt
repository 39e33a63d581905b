-- `root` by the kind of its argument: a number of smallest values, an infinity, a number below zero, and what is neither above nor below zero. Assumes nothing.
use Rattle.std.proofs.Common.{◌≡◌, ℕ, zero, suc, ◌+◌, ◌*◌, ◌/◌, ◌^◌, ◌<◌, true, false, ℤ, sym, refl, ap, ◌∙◌, subst, true≢false, lt_irrefl, mul_assoc, mul-pos, zero-mul, mul_right_comm, mul-div_cancel, pow_pos, pow-add}
use mathlib.Core.Bool.{false≢true}
use lib.Ieee.{Float, nan, inf, fin, binary64, up, down, odd, lt}
use lib.Ieee.Exact.{HasValue, odd_sign}
use lib.Ieee.Fits.{down_pos}
use Rattle.float.specs.Order.{f64_zero}
use Rattle.float.proofs.SignLaws.{zero_below, below_zero, zero_least, minus_zero_level}
use Rattle.root.specs.Root.{round_root, root}

-- ---- `root` at a positive number of a smallest values
zero_product : (a y : ℕ) (u : ℕ) → 0 < a → 0 < y → zero * u * 2 ^ 1074 ≡ a * y → ⊥
zero_product a y u A Y e = lt_irrefl 0 (subst (λ (x : ℕ). 0 < x) (sym e ∙ ap (λ (x : ℕ). x * 2 ^ 1074) (zero-mul u) ∙ zero-mul (2 ^ 1074)) (mul-pos A Y))

pub exact : (m a : ℕ) (e : ℤ) → m * up e * 2 ^ 1074 ≡ a * down e → m * up e * 2 ^ 2148 / down e ≡ a * 2 ^ 1074
exact m a e h =
    ap (λ (x : ℕ). x / down e) (ap (λ (x : ℕ). m * up e * x) (pow-add 2 1074 1074) ∙ sym (mul_assoc (m * up e) (2 ^ 1074) (2 ^ 1074)) ∙ ap (λ (x : ℕ). x * 2 ^ 1074) h ∙ mul_right_comm a (down e) (2 ^ 1074))
    ∙ mul-div_cancel (a * 2 ^ 1074) (down_pos e)

pub root_at : (x : Float) (a : ℕ) → 0 < a → HasValue x false a (2 ^ 1074) → root x ≡ round_root binary64 (a * 2 ^ 1074)
unfolding root
root_at nan a A h = absurd h
root_at (inf s) a A h = absurd h
root_at (fin s zero e) a A h = absurd (zero_product a (down e) (up e) A (down_pos e) h.1)
root_at (fin true (suc m) e) a A h = absurd (true≢false h.0)
root_at (fin false (suc m) e) a A h = ap (round_root binary64) (exact (suc m) a e h.1)

pub root_of_odd : (d j : ℕ) → 0 < d → root (odd 53 false d j 1074) ≡ round_root binary64 (d * 2 ^ (j + 1074))
root_of_odd d j D =
    root_at (odd 53 false d j 1074) (d * 2 ^ j) (mul-pos D (pow_pos j)) (odd_sign 53 false d j 1074)
    ∙ ap (round_root binary64) (mul_assoc d (2 ^ j) (2 ^ 1074) ∙ ap (λ (x : ℕ). d * x) (sym (pow-add 2 j 1074)))

-- ---- the others
pub root_infinity : root (inf false) ≡ inf false
unfolding root
root_infinity = refl

pub root_same : (x : Float) → lt f64_zero x ≡ false → lt x f64_zero ≡ false → x ≡ root x
unfolding lt root
root_same nan h k = refl
root_same (inf true) h k = absurd (true≢false k)
root_same (inf false) h k = absurd (true≢false h)
root_same (fin s zero e) h k = refl
root_same (fin true (suc m) e) h k = absurd (true≢false (sym (below_zero m e) ∙ k))
root_same (fin false (suc m) e) h k = absurd (true≢false (sym (zero_below m e) ∙ h))

pub root_negative : (x : Float) → lt x f64_zero ≡ true → nan ≡ root x
unfolding lt root
root_negative nan h = absurd (false≢true h)
root_negative (inf true) h = refl
root_negative (inf false) h = absurd (false≢true h)
root_negative (fin true zero e) h = absurd (false≢true (sym (minus_zero_level e) ∙ h))
root_negative (fin false zero e) h = absurd (false≢true (sym (zero_least zero e) ∙ h))
root_negative (fin true (suc m) e) h = refl
root_negative (fin false (suc m) e) h = absurd (false≢true (sym (zero_least (suc m) e) ∙ h))
