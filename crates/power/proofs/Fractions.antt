-- The fraction of a value of binary64 that is above zero, times 2 ^ 30: both are exact, and the whole part is the first 30 digits of the fraction. Assumes nothing.
use Rattle.std.proofs.Common.{◌≡◌, ℕ, zero, suc, ◌+◌, ◌-◌, ◌*◌, ◌/◌, ◌%◌, ◌^◌, ◌<◌, ◌≤◌, Bool, cond, min, true, false, T, ℤ, pos, negsuc, sym, refl, ap, ◌∙◌, subst, le_trans, le_of_eq, lt_of_lt_of_le, lt_of_le_of_lt, mod-lt, mod-eq_of_lt, mul-le-mul_left, mul-le-mul_right, zero-le, add_comm, div-le_self, mul-lt-mul_of_pos_right, mul-pos, mul_assoc, mul_comm, mul_right_comm, mul-one, zero-mul, add-mul, div-one, div-add-mod', div-mul-le_self, div-lt_iff_lt-mul, not-le_of_lt, lt_of_not-le, zero-lt-suc, arith, lit<, lit≤, pow_pos, pow_mono, pow-add}
use native.Mathlib.Nat.{mod-le, add-mul-div_right, add-mul-mod_self_right}
use lib.Ieee.{Float, nan, inf, fin, binary64, up, down, round, mul, lt, le, fits, to_unsigned}
use lib.Ieee.Fits.{down_pos}
use lib.Ieee.Exact.{HasValue, round_exact}
use lib.Ieee.Nearest.{div_same}
use lib.Ieee.Positive.{num, den, den_pos, positive, value→cross}
use lib.Ieee.Scale.{round_same}
use Rattle.std.proofs.lemmas.Float as Floats
use Rattle.std.specs.Float.{round_with, trunc, fract}
use Rattle.float.specs.Order.{f64_zero, f64_one, nonneg}
use Rattle.float.proofs.NonNegLaws.{cross_le, mul_is, sub_is, round_le, le_round}
use Rattle.float.proofs.RoundLaws.{fit, round_own}
use Rattle.power.specs.Power.{fraction_digits}
use Rattle.power.proofs.Exponents.{top, exponent_positive}

-- 2 ^ 30
abbrev pub weight : Float
weight = fin false 1 (pos 30)

value_nonneg : (x : Float) (a c : ℕ) → HasValue x false a c → T (nonneg x)
value_nonneg nan a c h = absurd h
value_nonneg (inf s) a c h = absurd h
value_nonneg (fin s m e) a c h = rw h.0 tt

-- ---- a / 2 ^ k without its fraction, and its fraction times 2 ^ i, need no rounding
module _ (a k : ℕ) (few : a < 2 ^ 53) (low : k ≤ 1074) where
  whole_few : a / 2 ^ k < 2 ^ 53
  whole_few = lt_of_le_of_lt (div-le_self a (2 ^ k)) few

  whole_exact : HasValue (round binary64 false (a / 2 ^ k) 1) false (a / 2 ^ k) 1
  whole_exact =
      round_exact binary64 false (a / 2 ^ k) 1 (a / 2 ^ k) 1074 (zero-lt-suc 0) whole_few
      (lt_of_lt_of_le (mul-lt-mul_of_pos_right whole_few (pow_pos 1074)) (lit≤ tt))
      (sym (mul-one (a / 2 ^ k * 2 ^ 1074)))

  left_few : a % 2 ^ k < 2 ^ 53
  left_few = lt_of_le_of_lt (mod-le a (2 ^ k)) few

  left_exact : (i : ℕ) → i ≤ 30 → HasValue (round binary64 false (a % 2 ^ k * 2 ^ i) (2 ^ k)) false (a % 2 ^ k * 2 ^ i) (2 ^ k)
  left_exact i h =
      round_exact binary64 false (a % 2 ^ k * 2 ^ i) (2 ^ k) (a % 2 ^ k) j (pow_pos k) left_few
      (lt_of_lt_of_le (mul-lt-mul_of_pos_right left_few (pow_pos j)) (le_trans (mul-le-mul_left (2 ^ 53) (pow_mono {j = 1104} (omega arith))) (lit≤ tt)))
      (mul_assoc (a % 2 ^ k) (2 ^ i) (2 ^ 1074) ∙ ap (λ (x : ℕ). a % 2 ^ k * x) (sym (pow-add 2 i 1074) ∙ ap (λ (x : ℕ). 2 ^ x) (parts i k low) ∙ pow-add 2 j k) ∙ sym (mul_assoc (a % 2 ^ k) (2 ^ j) (2 ^ k)))
    where
      j : ℕ
      j = i + (1074 - k)

      parts : (i k : ℕ) → k ≤ 1074 → i + 1074 ≡ i + (1074 - k) + k
      parts i k h = omega arith

-- ---- of a value with the sign clear
abbrev whole : ℕ → ℤ → ℕ
whole m e = m * up e / down e

abbrev left : ℕ → ℤ → ℕ
left m e = m * up e % down e

few_places : (k : ℕ) → 2 ^ k ≤ 2 ^ 1074 → k ≤ 1074
few_places k h = below (lt_of_not-le (λ (g : 1075 ≤ k). not-le_of_lt (lit< tt) (le_trans (pow_mono {j = k} g) h)))
  where
    below : (k < 1075) → k ≤ 1074
    below l = omega arith

module _ (m : ℕ) where
  whole_value : (e : ℤ) → T (fits binary64 (fin false (suc m) e)) → HasValue (round binary64 false (whole (suc m) e) 1) false (whole (suc m) e) 1
  whole_value (pos k) h =
      subst (λ (n : ℕ). HasValue (round binary64 false n 1) false n 1) (sym (div-one (suc m * 2 ^ k)))
      (subst (λ (x : Float). HasValue x false (suc m * 2 ^ k) 1) (sym (round_own binary64 false m (pos k) h)) (refl, refl))
  whole_value (negsuc k) h = let f = fit binary64 false m (negsuc k) h in whole_exact (suc m * 1) (suc k) (let g = f.few in omega arith) (few_places (suc k) f.low_end)

  left_value : (e : ℤ) → T (fits binary64 (fin false (suc m) e)) → (i : ℕ) → i ≤ 30 → HasValue (round binary64 false (left (suc m) e * 2 ^ i) (down e)) false (left (suc m) e * 2 ^ i) (down e)
  left_value (pos k) h i l =
      subst (λ (n : ℕ). HasValue (round binary64 false n 1) false n 1) (sym (none (suc m * 2 ^ k) (2 ^ i)))
      (round_exact binary64 false 0 1 0 0 (zero-lt-suc 0) (lit< tt) (lit< tt) refl)
    where
      none : (x y : ℕ) → x % 1 * y ≡ 0
      none x y = ap (λ (n : ℕ). n * y) (omega arith) ∙ zero-mul y
  left_value (negsuc k) h i l = let f = fit binary64 false m (negsuc k) h in left_exact (suc m * 1) (suc k) (let g = f.few in omega arith) (few_places (suc k) f.low_end) i l

  -- less its whole part n / c it is what is left, over its divisor
  taken : (a d n c : ℕ) → n ≡ a / d * c → (a * c - n * d) * d ≡ a % d * (d * c)
  taken a d n c e =
      let p : a / d * d * c + a % d * c ≡ a * c = sym (add-mul (a / d * d) (a % d) c) ∙ ap (λ (x : ℕ). x * c) (div-add-mod' a d) in
      let q : n * d ≡ a / d * d * c = ap (λ (x : ℕ). x * d) e ∙ mul_right_comm (a / d) c d in
      let r : a * c - n * d ≡ a % d * c = omega arith in
      ap (λ (x : ℕ). x * d) r ∙ mul_assoc (a % d) c d ∙ ap (λ (x : ℕ). a % d * x) (mul_comm c d)

  module _ (e : ℤ) (held : T (fits binary64 (fin false (suc m) e))) where
    abbrev f : Float
    f = fin false (suc m) e

    abbrev t : Float
    t = trunc binary64 f

    trunc_value : HasValue t false (whole (suc m) e) 1
    unfolding round_with
    trunc_value = whole_value e held

    trunc_num : num t ≡ whole (suc m) e * den t
    trunc_num = sym (mul-one (num t)) ∙ value→cross t (whole (suc m) e) 1 trunc_value

    trunc_le : T (le t f)
    trunc_le =
        cross_le t f (value_nonneg t (whole (suc m) e) 1 trunc_value) tt
        (le_trans (le_of_eq (ap (λ (x : ℕ). x * down e) trunc_num ∙ mul_right_comm (whole (suc m) e) (den t) (down e))) (mul-le-mul_right (den t) (div-mul-le_self (suc m * up e) (down e))))

    fract_is : fract binary64 f ≡ round binary64 false (left (suc m) e) (down e)
    fract_is =
        sub_is binary64 f t tt (value_nonneg t (whole (suc m) e) 1 trunc_value) trunc_le
        ∙ round_same binary64 false (suc m * up e * den t - num t * down e) (down e * den t) (left (suc m) e) (down e) (mul-pos (down_pos e) (den_pos t)) (down_pos e) (taken (suc m * up e) (down e) (num t) (den t) trunc_num)

    fract_value : HasValue (fract binary64 f) false (left (suc m) e) (down e)
    fract_value =
        subst (λ (x : Float). HasValue x false (left (suc m) e) (down e)) (sym fract_is)
        (subst (λ (n : ℕ). HasValue (round binary64 false n (down e)) false n (down e)) (mul-one (left (suc m) e)) (left_value e held 0 zero-le))

    weighed_is : mul binary64 (fract binary64 f) weight ≡ round binary64 false (left (suc m) e * 2 ^ 30) (down e)
    weighed_is =
        let s = fract binary64 f in
        mul_is binary64 s weight (value_nonneg s (left (suc m) e) (down e) fract_value) tt
        ∙ round_same binary64 false (num s * 2 ^ 30) (den s * 1) (left (suc m) e * 2 ^ 30) (down e) (mul-pos (den_pos s) (zero-lt-suc 0)) (down_pos e)
        (mul_right_comm (num s) (2 ^ 30) (down e) ∙ ap (λ (x : ℕ). x * 2 ^ 30) (value→cross s (left (suc m) e) (down e) fract_value) ∙ mul_right_comm (left (suc m) e) (den s) (2 ^ 30) ∙ ap (λ (x : ℕ). left (suc m) e * 2 ^ 30 * x) (sym (mul-one (den s))))

    weighed_value : HasValue (mul binary64 (fract binary64 f) weight) false (left (suc m) e * 2 ^ 30) (down e)
    weighed_value = subst (λ (x : Float). HasValue x false (left (suc m) e * 2 ^ 30) (down e)) (sym weighed_is) (left_value e held 30 (lit≤ tt))

-- ---- the digits
below_weight : (a d : ℕ) → 0 < d → a % d * 2 ^ 30 < 2 ^ 30 * d
below_weight a d D = lt_of_lt_of_le (mul-lt-mul_of_pos_right (mod-lt a D) (pow_pos 30)) (le_of_eq (mul_comm d (2 ^ 30)))

lower_digits : (a d : ℕ) → 0 < d → a % d * 2 ^ 30 / d ≡ a * 2 ^ 30 / d % 2 ^ 30
lower_digits a d D =
    sym
    (ap (λ (x : ℕ). x / d % 2 ^ 30) parts
    ∙ ap (λ (x : ℕ). x % 2 ^ 30) (add-mul-div_right (a % d * 2 ^ 30) (a / d * 2 ^ 30) D)
    ∙ add-mul-mod_self_right (a % d * 2 ^ 30 / d) (a / d) (2 ^ 30)
    ∙ mod-eq_of_lt ((div-lt_iff_lt-mul D).1 (below_weight a d D)))
  where
    parts : a * 2 ^ 30 ≡ a % d * 2 ^ 30 + a / d * 2 ^ 30 * d
    parts = ap (λ (x : ℕ). x * 2 ^ 30) (sym (div-add-mod' a d)) ∙ add-mul (a / d * d) (a % d) (2 ^ 30) ∙ ap (λ (x : ℕ). x + a % d * 2 ^ 30) (mul_right_comm (a / d) d (2 ^ 30)) ∙ add_comm _ _

pub fraction_digits_is : (f : Float) → T (positive f) → num f % den f * 2 ^ 30 / den f ≡ fraction_digits f
unfolding fraction_digits
fraction_digits_is nan p = absurd p
fraction_digits_is (inf s) p = absurd p
fraction_digits_is (fin true m e) p = absurd p
fraction_digits_is (fin false m e) p = lower_digits (m * up e) (down e) (down_pos e)

-- the whole part of a value a / c that is small enough
unsigned_is : (x : Float) (a c : ℕ) → 0 < c → HasValue x false a c → a < 2 ^ 30 * c → to_unsigned 64 x ≡ a / c
unfolding to_unsigned
unsigned_is nan a c C v h = absurd v
unsigned_is (inf s) a c C v h = absurd v
unsigned_is (fin s m e) a c C v h =
    ap (λ (t : Bool). cond t 0 (min (m * up e / down e) 0xffff_ffff_ffff_ffff)) v.0
    ∙ ap (λ (n : ℕ). min n 0xffff_ffff_ffff_ffff) (div_same (m * up e) (down e) a c (down_pos e) C v.1)
    ∙ kept (a / c) ((div-lt_iff_lt-mul C).1 h)
  where
    kept : (n : ℕ) → n < 2 ^ 30 → min n 0xffff_ffff_ffff_ffff ≡ n
    kept n h = omega arith

-- the product with the weight is from 0 to 2 ^ 30
module _ (m : ℕ) (e : ℤ) (held : T (fits binary64 (fin false (suc m) e))) where
  abbrev product : Float
  product = mul binary64 (fract binary64 (fin false (suc m) e)) weight

  product_low : T (le f64_zero product)
  unfolding fits
  product_low = subst (λ (x : Float). T (le f64_zero x)) (sym (weighed_is m e held)) (le_round (left (suc m) e * 2 ^ 30) (down e) f64_zero (down_pos e) tt tt (omega arith))

  product_high : T (le product weight)
  unfolding fits
  product_high =
      let b = below_weight (suc m * up e) (down e) (down_pos e) in
      subst (λ (x : Float). T (le x weight)) (sym (weighed_is m e held)) (round_le (left (suc m) e * 2 ^ 30) (down e) weight (down_pos e) tt tt (omega arith))

-- what the conversion of that product to a whole number asks, and what it gives
pub record Weighed (f : Float) : Type 0 where
  pub low : T (lt (fin true 1 (pos 0)) (mul binary64 (fract binary64 f) weight))
  pub high : T (lt (mul binary64 (fract binary64 f) weight) (fin false 1 (pos 64)))
  pub gives : to_unsigned 64 (mul binary64 (fract binary64 f) weight) ≡ fraction_digits f

below_zero : T (lt (fin true 1 (pos 0)) f64_zero)
unfolding lt
below_zero = tt

above_weight : T (lt weight (fin false 1 (pos 64)))
unfolding lt
above_weight = tt

of_positive : (f : Float) → T (fits binary64 f) → T (positive f) → Weighed f
of_positive nan h p = absurd p
of_positive (inf s) h p = absurd p
of_positive (fin true m e) h p = absurd p
of_positive (fin false zero e) h p = absurd p
of_positive (fin false (suc m) e) h p = record {
  low = Floats.lt_of_lt_of_le (fin true 1 (pos 0)) f64_zero (product m e h) below_zero (product_low m e h);
  high = Floats.lt_of_le_of_lt (product m e h) weight (fin false 1 (pos 64)) (product_high m e h) above_weight;
  gives = unsigned_is (product m e h) (left (suc m) e * 2 ^ 30) (down e) (down_pos e) (weighed_value m e h) (below_weight (suc m * up e) (down e) (down_pos e)) ∙ fraction_digits_is (fin false (suc m) e) p;
}

pub weighed : (f : Float) → T (fits binary64 f) → T (le f64_one f) → T (lt f top) → Weighed f
weighed f h lo hi = of_positive f h (exponent_positive f lo hi)
