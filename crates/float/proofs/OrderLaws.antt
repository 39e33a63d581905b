-- The order of the finite values with the sign clear is that of their bit patterns. Assumes nothing.
use Rattle.std.proofs.Common.{◌≡◌, ℕ, zero, suc, ◌+◌, ◌*◌, ◌/◌, ◌%◌, ◌^◌, ◌<◌, ◌≤◌, Bool, true, false, cond, not, ◌||◌, T, eqb, leb, sym, refl, ap, ◌∙◌, subst, inl, inr, true≢false, le_of_eq, lt_of_lt_of_le, le_of_suc-le-suc, le-add_right, mod-lt, zero-lt-suc, mul_assoc, mul_comm, mul-le-mul, eq-or-lt_of_le, mul-lt-mul_of_pos_right, pow-suc, lt_of_not-le, mul-one, not-le_of_lt, le_of_mul-le-mul_right, arith, pow_pos, pow_mono}
use lib.Dec.{nleb→lt}
use lib.Ieee.{Float, nan, inf, binary64, le, lt, eq, odd, of_fields, of_bits}
use lib.Ieee.Exact.{HasValue, odd_sign}
use lib.Ieee.Positive.{positive, values_of_le}
use Rattle.float.specs.Order.{f64_zero}
use Rattle.float.proofs.BitLaws.{of_bits_is, normal, subnormal}
use Rattle.float.proofs.SignLaws.{positive_above}

-- ---- the number of smallest values that an exponent's field x and digits t stand for
abbrev pub field_units : ℕ → ℕ → ℕ
field_units zero t = t
field_units (suc x) t = (0x10_0000_0000_0000 + t) * 2 ^ x

abbrev pub bit_units : ℕ → ℕ
bit_units b = field_units (b / 0x10_0000_0000_0000) (b % 0x10_0000_0000_0000)

pub bits_value : (b : ℕ) → b < 0x7ff0_0000_0000_0000 → HasValue (of_bits binary64 b) false (bit_units b) (2 ^ 1074)
bits_value b h = go (b / 0x10_0000_0000_0000) refl
  where
    go : (x : ℕ) → b / 0x10_0000_0000_0000 ≡ x → HasValue (of_bits binary64 b) false (field_units x (b % 0x10_0000_0000_0000)) (2 ^ 1074)
    go zero e =
        subst (λ (v : Float). HasValue v false (b % 0x10_0000_0000_0000) (2 ^ 1074)) (sym (subnormal b e))
        (subst (λ (a : ℕ). HasValue (odd 53 false (b % 0x10_0000_0000_0000) 0 1074) false a (2 ^ 1074)) (mul-one (b % 0x10_0000_0000_0000)) (odd_sign 53 false (b % 0x10_0000_0000_0000) 0 1074))
    go (suc x) e =
        subst (λ (v : Float). HasValue v false ((0x10_0000_0000_0000 + b % 0x10_0000_0000_0000) * 2 ^ x) (2 ^ 1074)) (sym (normal b x e h)) (odd_sign 53 false (0x10_0000_0000_0000 + b % 0x10_0000_0000_0000) x 1074)

-- ---- a larger pattern, a larger number
field_units_lt : (x t : ℕ) → t < 0x10_0000_0000_0000 → field_units x t < 0x10_0000_0000_0000 * 2 ^ x
field_units_lt zero t h = h
field_units_lt (suc x) t h = lt_of_lt_of_le (mul-lt-mul_of_pos_right (twice t h) (pow_pos x)) (le_of_eq (mul_assoc 0x10_0000_0000_0000 2 (2 ^ x) ∙ ap (λ (y : ℕ). 0x10_0000_0000_0000 * y) (mul_comm 2 (2 ^ x) ∙ sym (pow-suc 2 x))))
  where
    twice : (t : ℕ) → t < 0x10_0000_0000_0000 → 0x10_0000_0000_0000 + t < 0x10_0000_0000_0000 * 2
    twice t h = omega arith

field_units_fields : (x t y u : ℕ) → x < y → t < 0x10_0000_0000_0000 → field_units x t < field_units y u
field_units_fields x t zero u h k = absurd (no x h)
  where
    no : (x : ℕ) → x < 0 → ⊥
    no x h = omega arith
field_units_fields x t (suc y) u h k = lt_of_lt_of_le (field_units_lt x t k) (mul-le-mul (le-add_right 0x10_0000_0000_0000 u) (pow_mono (le_of_suc-le-suc h)))

field_units_digits : (x t u : ℕ) → t < u → field_units x t < field_units x u
field_units_digits zero t u h = h
field_units_digits (suc x) t u h = mul-lt-mul_of_pos_right (more t u h) (pow_pos x)
  where
    more : (t u : ℕ) → t < u → 0x10_0000_0000_0000 + t < 0x10_0000_0000_0000 + u
    more t u h = omega arith

pub bit_units_lt : (b c : ℕ) → b < c → bit_units b < bit_units c
bit_units_lt b c h = elim (eq-or-lt_of_le (fields b c h)) [
  | inl e ↦ subst (λ (x : ℕ). field_units x (b % 0x10_0000_0000_0000) < bit_units c) (sym e) (field_units_digits (c / 0x10_0000_0000_0000) (b % 0x10_0000_0000_0000) (c % 0x10_0000_0000_0000) (digits b c h e))
  | inr l ↦ field_units_fields (b / 0x10_0000_0000_0000) (b % 0x10_0000_0000_0000) (c / 0x10_0000_0000_0000) (c % 0x10_0000_0000_0000) l (mod-lt b (zero-lt-suc 4503599627370495))
]
  where
    fields : (b c : ℕ) → b < c → b / 0x10_0000_0000_0000 ≤ c / 0x10_0000_0000_0000
    fields b c h = omega arith

    digits : (b c : ℕ) → b < c → b / 0x10_0000_0000_0000 ≡ c / 0x10_0000_0000_0000 → b % 0x10_0000_0000_0000 < c % 0x10_0000_0000_0000
    digits b c h e = omega arith

-- ---- the order of the floats
pub le_bits : (b c : ℕ) → b < 0x7ff0_0000_0000_0000 → c < 0x7ff0_0000_0000_0000 → T (positive (of_bits binary64 b)) → T (positive (of_bits binary64 c)) → T (le (of_bits binary64 b) (of_bits binary64 c)) → b ≤ c
le_bits b c h k p q l =
    le_of_suc-le-suc (lt_of_not-le (λ (g : suc c ≤ b). not-le_of_lt (bit_units_lt c b g)
    (le_of_mul-le-mul_right {k = 2 ^ 1074} (values_of_le (of_bits binary64 b) (of_bits binary64 c) (bit_units b) (2 ^ 1074) (bit_units c) (2 ^ 1074) p q (bits_value b h) (bits_value c k) l) (pow_pos 1074))))

pub lt_le : (x y : Float) → T (lt x y) → T (le x y)
unfolding le
lt_le x y h = go (lt x y) (eq x y) h
  where
    go : (a b : Bool) → T a → T (a || b)
    go true b t = tt
    go false b t = absurd t

-- ---- above zero, a pattern from the infinity's on is the infinity's
odd_negative : (d q k l : ℕ) → lt f64_zero (odd d true q k l) ≡ false
unfolding lt odd
odd_negative d zero k l = refl
odd_negative d (suc q) k l = refl

cond_negative : (a b : Bool) (y : Float) → lt f64_zero y ≡ false → lt f64_zero (cond a (cond b (inf true) nan) y) ≡ false
unfolding lt
cond_negative true true y h = refl
cond_negative true false y h = refl
cond_negative false b y h = h

fields_negative : (x t : ℕ) → lt f64_zero (of_fields binary64 true x t) ≡ false
unfolding of_fields
fields_negative zero t = odd_negative 53 t 0 1074
fields_negative (suc x) t = cond_negative (eqb (suc x) 2047) (eqb t 0) (odd 53 true (0x10_0000_0000_0000 + t) x 1074) (odd_negative 53 (0x10_0000_0000_0000 + t) x 1074)

ones_above : (t : ℕ) → lt f64_zero (of_fields binary64 false 2047 t) ≡ true → of_fields binary64 false 2047 t ≡ inf false
unfolding of_fields lt
ones_above t h = go (eqb t 0) h
  where
    go : (b : Bool) → lt f64_zero (cond b (inf false) nan) ≡ true → cond b (inf false) nan ≡ inf false
    go true h = refl
    go false h = absurd (true≢false (sym h))

top_above : (s : Bool) (b : ℕ) → leb 0x8000_0000_0000_0000 b ≡ s → 0x7ff0_0000_0000_0000 ≤ b
    → lt f64_zero (of_fields binary64 s (b % 0x8000_0000_0000_0000 / 0x10_0000_0000_0000) (b % 0x10_0000_0000_0000)) ≡ true
    → of_fields binary64 s (b % 0x8000_0000_0000_0000 / 0x10_0000_0000_0000) (b % 0x10_0000_0000_0000) ≡ inf false
top_above true b e h k = absurd (true≢false (sym k ∙ fields_negative (b % 0x8000_0000_0000_0000 / 0x10_0000_0000_0000) (b % 0x10_0000_0000_0000)))
top_above false b e h k =
    let o = ones b (nleb→lt 0x8000_0000_0000_0000 b (subst (λ (t : Bool). T (not t)) (sym e) tt)) h in
    let f : (x : ℕ) → Float = λ x. of_fields binary64 false x (b % 0x10_0000_0000_0000) in
    ap f o ∙ ones_above (b % 0x10_0000_0000_0000) (ap (λ (x : ℕ). lt f64_zero (f x)) (sym o) ∙ k)
  where
    ones : (b : ℕ) → b < 0x8000_0000_0000_0000 → 0x7ff0_0000_0000_0000 ≤ b → b % 0x8000_0000_0000_0000 / 0x10_0000_0000_0000 ≡ 2047
    ones b h k = omega arith

pub top_bits : (b : ℕ) → 0x7ff0_0000_0000_0000 ≤ b → lt f64_zero (of_bits binary64 b) ≡ true → of_bits binary64 b ≡ inf false
top_bits b h k = of_bits_is b ∙ top_above (leb 0x8000_0000_0000_0000 b) b refl h (ap (lt f64_zero) (sym (of_bits_is b)) ∙ k)

pub positive_bits : (b : ℕ) → T (positive (of_bits binary64 b)) → b < 0x7ff0_0000_0000_0000
positive_bits b p = lt_of_not-le (λ (g : 0x7ff0_0000_0000_0000 ≤ b). subst (λ (v : Float). T (positive v)) (top_bits b g (positive_above (of_bits binary64 b) p)) p)
