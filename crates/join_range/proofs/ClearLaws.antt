-- Floats with the sign clear, the infinity among them: quotients that may overflow are such floats. Assumes nothing.
use Prim.Native.Nat.{ℕ, zero, suc, ◌+◌, ◌-◌, ◌*◌, ◌/◌, ◌%◌, ◌^◌, ◌≤◌, ◌<◌, compare}
use mathlib.Core.Path.{◌≡◌, refl, sym, subst}
use mathlib.Core.Logic.{inl, inr}
use mathlib.Core.Bool.{Bool, true, false, not, cond}
use native.Mathlib.Nat.{le_of_eq, lt_irrefl, zero-lt-suc, eq-zero-or-pos}
use native.Mathlib.Omega.{arith}
use lib.IntN.{pos}
use lib.Dec.{T, ltb, eqb, eqb→eq}
use lib.Ieee.{Float, nan, inf, fin, binary64, prec, emax, low, up, down, size, nearest, odd, units, round, of_int, add, div, lt, le, eq, fits}
use lib.Ieee.Fits.{and_l}
use lib.Ieee.Positive.{num, den, positive, positive_of_value}
use Rattle.float.specs.Order.{f64_zero, f64_one, f64_max, clamp_unit, nonneg, ordinary, Unit01}
use Rattle.float.proofs.NonNegLaws.{own_fraction, cross_le, lt_cross, le_round, le_trans, div_is}
use Rattle.float.proofs.UnitLaws.{one_unit, clamped_unit}
use Rattle.units.proofs.SizeLaws.{at_least_le, one_at_least, max_at_least}

-- no NaN, and the sign clear
abbrev pub clear : Float → Bool
clear nan = false
clear (inf s) = not s
clear (fin s m e) = not s

-- ---- what is clear
pub nonneg_clear : (x : Float) → T (nonneg x) → T (clear x)
nonneg_clear nan p = absurd p
nonneg_clear (inf s) p = absurd p
nonneg_clear (fin s m e) p = p

odd_clear : (d q k l : ℕ) → T (clear (odd d false q k l))
unfolding odd
odd_clear d zero k l = tt
odd_clear d (suc q) k l = tt

either_clear : (b : Bool) (x : Float) → T (clear x) → T (clear (cond b x (inf false)))
either_clear true x p = p
either_clear false x p = tt

units_clear : (q k : ℕ) → T (clear (units binary64 false q k))
unfolding units
units_clear q k = either_clear (ltb (q * 2 ^ k) (2 ^ (low binary64 + suc (emax binary64)))) (odd 54 false q k 1074) (odd_clear 54 q k 1074)

pub round_clear : (n c : ℕ) → T (clear (round binary64 false n c))
unfolding round
round_clear n c =
    let m = n * 2 ^ low binary64 in
    let k = size (m / c) - prec binary64 in
    let u = c * 2 ^ k in
    units_clear (nearest (m / u) (compare (m % u * 2) u)) k

pub count_clear : (n : ℕ) → T (clear (of_int binary64 (pos n)))
unfolding of_int
count_clear n = round_clear n 1

pub add_clear : (x y : Float) → T (nonneg x) → T (clear y) → T (clear (add binary64 x y))
unfolding add
add_clear nan y p q = absurd p
add_clear (inf s) y p q = absurd p
add_clear (fin true m e) y p q = absurd p
add_clear (fin false m e) nan p q = absurd q
add_clear (fin false m e) (inf t) p q = q
add_clear (fin false m e) (fin true n d) p q = absurd q
add_clear (fin false m e) (fin false n d) p q = round_clear (m * up e * down d + n * up d * down e) (down e * down d)

pub div_clear : (x y : Float) → T (clear x) → T (positive y) → T (clear (div binary64 x y))
unfolding div
div_clear nan y p q = absurd p
div_clear (inf true) y p q = absurd p
div_clear (inf false) nan p q = absurd q
div_clear (inf false) (inf t) p q = absurd q
div_clear (inf false) (fin true n d) p q = absurd q
div_clear (inf false) (fin false n d) p q = tt
div_clear (fin true m e) y p q = absurd p
div_clear (fin false m e) y p q = subst (λ (z : Float). T (clear z)) (sym (div_is binary64 (fin false m e) y tt q)) (round_clear (m * up e * den y) (num y * down e))

-- ---- what is known of it
clear_ordinary : (x : Float) → T (clear x) → T (ordinary x)
clear_ordinary nan p = absurd p
clear_ordinary (inf s) p = tt
clear_ordinary (fin true m e) p = absurd p
clear_ordinary (fin false m e) p = tt

pub clear_clamped : (x : Float) → T (fits binary64 x) → T (clear x) → Unit01 (clamp_unit x)
clear_clamped x h p = clamped_unit x h (clear_ordinary x p)

-- the larger of it and 1
pub clear_max_one : (x : Float) → T (clear x) → T (le f64_one (f64_max x f64_one))
unfolding lt le
clear_max_one nan p = absurd p
clear_max_one (inf true) p = absurd p
clear_max_one (inf false) p = tt
clear_max_one (fin true m e) p = absurd p
clear_max_one (fin false m e) p = at_least_le 0 (f64_max (fin false m e) f64_one) (max_at_least 0 (fin false m e) f64_one tt one_at_least)

-- ---- above zero
none_below : (n d : ℕ) → n ≡ 0 → n * 1 ≤ 0 * d
none_below n d h = omega arith

pub not_zero_positive : (x : Float) → T (nonneg x) → le x f64_zero ≡ false → T (positive x)
not_zero_positive x p e = elim (eq-zero-or-pos (num x)) [
  | inl z ↦ absurd (subst T e (cross_le x f64_zero p tt (none_below (num x) (den x) z)))
  | inr k ↦ positive_of_value x (num x) (den x) (own_fraction x p) k
]

-- 0 for a divisor that is 0
pub ratio_clear : (x y : Float) → T (nonneg x) → T (nonneg y) → T (clear (cond (le y f64_zero) f64_zero (div binary64 x y)))
ratio_clear x y p q = go (le y f64_zero) (not_zero_positive y q)
  where
    go : (b : Bool) → (b ≡ false → T (positive y)) → T (clear (cond b f64_zero (div binary64 x y)))
    go true k = tt
    go false k = div_clear x y (nonneg_clear x p) (k refl)

-- ---- a float above zero that equals a whole number is 1 at least
level_cross : (x y : Float) → T (nonneg x) → T (clear y) → T (eq x y) → T (nonneg y) × (num x * den y ≡ num y * den x)
unfolding eq
level_cross nan y p q h = absurd p
level_cross (inf s) y p q h = absurd p
level_cross (fin true m e) y p q h = absurd p
level_cross (fin false m e) nan p q h = absurd q
level_cross (fin false m e) (inf t) p q h = absurd h
level_cross (fin false m e) (fin true n d) p q h = absurd q
level_cross (fin false m e) (fin false n d) p q h = (tt, eqb→eq (m * up e * down d) (n * up d * down e) (and_l (eqb (m * up e * down d) (n * up d * down e)) _ h))

zero_count : of_int binary64 (pos 0) ≡ f64_zero
unfolding of_int
zero_count = refl

count_from_one : (n : ℕ) → T (le f64_one (of_int binary64 (pos (suc n))))
unfolding of_int
count_from_one n = le_round (suc n) 1 f64_one (zero-lt-suc 0) one_unit.held tt (more n)
  where
    more : (n : ℕ) → 1 * 1 ≤ suc n * 1
    more n = omega arith

pub level_from_one : (x : Float) (n : ℕ) → T (nonneg x) → lt f64_zero x ≡ true → T (eq x (of_int binary64 (pos n))) → T (le f64_one x)
level_from_one x zero p k h =
    let c = level_cross x f64_zero p tt (subst (λ (z : Float). T (eq x z)) zero_count h) in
    absurd (lt_irrefl (0 * den x) (subst (λ (m : ℕ). 0 * den x < m) c.1 (lt_cross f64_zero x tt p k)))
level_from_one x (suc n) p k h =
    let y = of_int binary64 (pos (suc n)) in
    let c = level_cross x y p (count_clear (suc n)) h in
    le_trans f64_one y x tt c.0 p (count_from_one n) (cross_le y x c.0 p (le_of_eq (sym c.1)))
