-- Floats between powers of two: fractions round to such floats, and operations on such floats give such floats. Assumes nothing.
use mathlib.Core.Path.{◌≡◌, refl, sym, ap, ◌∙◌, subst}
use mathlib.Core.Bool.{Bool, true, false, cond}
use Prim.Native.Nat.{ℕ, zero, suc, ◌+◌, ◌-◌, ◌*◌, ◌^◌, ◌≤◌, ◌<◌, zero-le}
use native.Mathlib.Nat as Nat
use native.Mathlib.Nat.{le_of_eq, lt_of_lt_of_le, zero-lt-suc, mul-pos, mul_assoc, mul_comm, mul_left_comm, mul-le-mul, mul-le-mul_right, pow-suc}
use native.Mathlib.Omega.{arith}
use lib.IntN.{pos, negsuc}
use lib.Dec.{T, leb, ltb, lt→ltb, le→leb, lit<, lit≤}
use lib.Pow.{pow-add, pow_pos, pow-lt, pow_mono}
use lib.Ieee.{Float, nan, inf, fin, binary64, round, add, sub, mul, div, lt, le, fits, of_int}
use lib.Ieee.Fits.{and_i, round-fits}
use lib.Ieee.Positive.{num, den, den_pos, positive, positive_of_value, first_pos}
use Rattle.float.specs.Order.{f64_max, f64_zero, f64_one, clamp_unit, nonneg, ordinary, Unit01}
use Rattle.float.proofs.RoundLaws.{round_nonneg}
use Rattle.float.proofs.UnitLaws.{zero_unit, one_unit, clamped_unit}
use Rattle.float.proofs.NonNegLaws.{own_fraction, cross_le, le_cross, round_le, le_round, le_trans, not_lt_le, add_is, sub_is, mul_is, div_is}
use Rattle.units.specs.Sizes.{UpTo, AtLeast}

-- ---- powers of two
pub up_fits : (h : ℕ) → h ≤ 1023 → T (fits binary64 (fin false 1 (pos h)))
unfolding fits
up_fits h k = lt→ltb (1 * 2 ^ h) (2 ^ 1024 * 1) (under (2 ^ h) (2 ^ 1024) (pow-lt {i = h} {j = 1024} (omega arith)))
  where
    under : (a b : ℕ) → a < b → 1 * a < b * 1
    under a b h = omega arith

-- 2 ^ - l
abbrev pub tiny : ℕ → Float
tiny zero = fin false 1 (pos 0)
tiny (suc k) = fin false 1 (negsuc k)

pub tiny_fits : (l : ℕ) → l ≤ 1074 → T (fits binary64 (tiny l))
unfolding fits
tiny_fits zero h = tt
tiny_fits (suc k) h = and_i (leb (2 ^ suc k) (2 ^ 1074)) (ltb 1 (2 ^ 1024 * 2 ^ suc k)) (le→leb (2 ^ suc k) (2 ^ 1074) (pow_mono h)) (lt→ltb 1 (2 ^ 1024 * 2 ^ suc k) (Nat.le_trans (lit< tt) (mul-le-mul {n₁ = 2 ^ 1024} (Nat.le_refl (2 ^ 1024)) (pow_pos (suc k)))))

tiny_fraction : (l : ℕ) → T (nonneg (tiny l)) × (num (tiny l) ≡ 1) × (den (tiny l) ≡ 2 ^ l)
tiny_fraction zero = (tt, refl, refl)
tiny_fraction (suc k) = (tt, refl, refl)

-- ---- fractions
one_up : (a p c : ℕ) → a ≤ p * c → a * 1 ≤ 1 * p * c
one_up a p c h = Nat.le_trans (le_of_eq (Nat.mul-one a)) (Nat.le_trans h (le_of_eq (ap (λ (z : ℕ). z * c) (sym (Nat.one-mul p)))))

one_down : (a p c : ℕ) → a * 1 ≤ 1 * p * c → a ≤ p * c
one_down a p c h = Nat.le_trans (le_of_eq (sym (Nat.mul-one a))) (Nat.le_trans h (le_of_eq (ap (λ (z : ℕ). z * c) (Nat.one-mul p))))

pub round_up_to : (h n c : ℕ) → h ≤ 1023 → 0 < c → n ≤ 2 ^ h * c → UpTo h (round binary64 false n c)
round_up_to h n c H C k =
    let r = round binary64 false n c in
    let top = fin false 1 (pos h) in
    let l = round_le n c top C (up_fits h H) tt (one_up n (2 ^ h) c k) in
    let p = round_nonneg binary64 n c top tt l in
    record { held = round-fits binary64 false n c; low = p; high = one_down (num r) (2 ^ h) (den r) (le_cross r top p tt l) }

pub round_at_least : (l n c : ℕ) → l ≤ 1074 → 0 < c → c ≤ n * 2 ^ l → T (nonneg (round binary64 false n c)) → AtLeast l (round binary64 false n c)
round_at_least l n c L C k p =
    let r = round binary64 false n c in
    let t = tiny_fraction l in
    let low = le_round n c (tiny l) C (tiny_fits l L) t.0 (subst (λ (z : ℕ). z * c ≤ n * den (tiny l)) (sym t.1) (subst (λ (z : ℕ). 1 * c ≤ n * z) (sym t.2) (Nat.le_trans (le_of_eq (Nat.one-mul c)) k))) in
    let f = le_cross (tiny l) r t.0 p low in
    record { low = p; floor = Nat.le_trans (le_of_eq (sym (Nat.one-mul (den r)))) (subst (λ (z : ℕ). z * den r ≤ num r * 2 ^ l) t.1 (subst (λ (z : ℕ). num (tiny l) * den r ≤ num r * z) t.2 f)) }

-- ---- from and to the order of floats
pub le_up_to : (h : ℕ) (x : Float) → T (fits binary64 x) → T (nonneg x) → T (le x (fin false 1 (pos h))) → UpTo h x
le_up_to h x a p k = record { held = a; low = p; high = one_down (num x) (2 ^ h) (den x) (le_cross x (fin false 1 (pos h)) p tt k) }

pub up_to_le : (h : ℕ) (x : Float) → UpTo h x → T (le x (fin false 1 (pos h)))
up_to_le h x u = cross_le x (fin false 1 (pos h)) u.low tt (one_up (num x) (2 ^ h) (den x) u.high)

pub le_at_least : (l : ℕ) (x : Float) → T (nonneg x) → T (le (tiny l) x) → AtLeast l x
le_at_least l x p k =
    let t = tiny_fraction l in
    record { low = p; floor = Nat.le_trans (le_of_eq (sym (Nat.one-mul (den x)))) (subst (λ (z : ℕ). z * den x ≤ num x * 2 ^ l) t.1 (subst (λ (z : ℕ). num (tiny l) * den x ≤ num x * z) t.2 (le_cross (tiny l) x t.0 p k))) }

pub at_least_le : (l : ℕ) (x : Float) → AtLeast l x → T (le (tiny l) x)
at_least_le l x a =
    let t = tiny_fraction l in
    cross_le (tiny l) x t.0 a.low (subst (λ (z : ℕ). z * den x ≤ num x * den (tiny l)) (sym t.1) (subst (λ (z : ℕ). 1 * den x ≤ num x * z) (sym t.2) (Nat.le_trans (le_of_eq (Nat.one-mul (den x))) a.floor)))

pub at_least_num : (l : ℕ) (x : Float) → AtLeast l x → 0 < num x
at_least_num l x a = first_pos (num x) (2 ^ l) (lt_of_lt_of_le (den_pos x) a.floor)

pub at_least_positive : (l : ℕ) (x : Float) → AtLeast l x → T (positive x)
at_least_positive l x a = positive_of_value x (num x) (den x) (own_fraction x a.low) (at_least_num l x a)

pub unit_up_to : (x : Float) → Unit01 x → UpTo 0 x
unit_up_to x u = le_up_to 0 x u.held u.low u.high

pub up_to_unit : (x : Float) → UpTo 0 x → Unit01 x
up_to_unit x u = record { held = u.held; low = u.low; high = up_to_le 0 x u }

-- a larger power
pub up_to_more : (h k : ℕ) (x : Float) → h ≤ k → UpTo h x → UpTo k x
up_to_more h k x l u = record { held = u.held; low = u.low; high = Nat.le_trans u.high (mul-le-mul_right (den x) (pow_mono l)) }

pub at_least_more : (l k : ℕ) (x : Float) → l ≤ k → AtLeast l x → AtLeast k x
at_least_more l k x h a = record { low = a.low; floor = Nat.le_trans a.floor (Nat.mul-le-mul_left (num x) (pow_mono h)) }

-- ---- operations
pub sum_bound : (x y d e p q : ℕ) → q ≡ p * 2 → x ≤ p * d → y ≤ p * e → x * e + y * d ≤ q * (d * e)
sum_bound x y d e p q k a b =
    let s = mul-le-mul_right e a in
    let t = mul-le-mul_right d b in
    let u : p * d * e ≡ p * (d * e) = mul_assoc p d e in
    let v : p * e * d ≡ p * (d * e) = mul_assoc p e d ∙ ap (λ (z : ℕ). p * z) (mul_comm e d) in
    let w : q * (d * e) ≡ p * (d * e) * 2 = ap (λ (z : ℕ). z * (d * e)) k ∙ Nat.mul_right_comm p 2 (d * e) in
    omega arith

pub add_up_to : (h : ℕ) (x y : Float) → suc h ≤ 1023 → UpTo h x → UpTo h y → UpTo (suc h) (add binary64 x y)
add_up_to h x y H u v =
    subst (UpTo (suc h)) (sym (add_is binary64 x y u.low v.low))
    (round_up_to (suc h) (num x * den y + num y * den x) (den x * den y) H (mul-pos (den_pos x) (den_pos y)) (sum_bound (num x) (num y) (den x) (den y) (2 ^ h) (2 ^ suc h) (pow-suc 2 h) u.high v.high))

difference_bound : (x y d e p : ℕ) → x ≤ p * d → x * e - y * d ≤ p * (d * e)
difference_bound x y d e p a =
    let s = mul-le-mul_right e a in
    let u : p * d * e ≡ p * (d * e) = mul_assoc p d e in
    omega arith

pub sub_up_to : (h : ℕ) (x y : Float) → h ≤ 1023 → UpTo h x → T (nonneg y) → T (le y x) → UpTo h (sub binary64 x y)
sub_up_to h x y H u q k =
    subst (UpTo h) (sym (sub_is binary64 x y u.low q k))
    (round_up_to h (num x * den y - num y * den x) (den x * den y) H (mul-pos (den_pos x) (den_pos y)) (difference_bound (num x) (num y) (den x) (den y) (2 ^ h) u.high))

pub mul_up_to : (h k : ℕ) (x y : Float) → h + k ≤ 1023 → UpTo h x → UpTo k y → UpTo (h + k) (mul binary64 x y)
mul_up_to h k x y H u v =
    subst (UpTo (h + k)) (sym (mul_is binary64 x y u.low v.low))
    (round_up_to (h + k) (num x * num y) (den x * den y) H (mul-pos (den_pos x) (den_pos y))
    (Nat.le_trans (mul-le-mul u.high v.high) (le_of_eq (Nat.mul-mul-mul_comm (2 ^ h) (den x) (2 ^ k) (den y) ∙ ap (λ (z : ℕ). z * (den x * den y)) (sym (pow-add 2 h k))))))

quotient_bound : (x y d e p q : ℕ) → x ≤ p * d → e ≤ y * q → x * e ≤ p * q * (y * d)
quotient_bound x y d e p q a b = Nat.le_trans (mul-le-mul a b) (le_of_eq (simp (mul_assoc, mul_comm, mul_left_comm)))

pub div_up_to : (h l : ℕ) (x y : Float) → h + l ≤ 1023 → UpTo h x → AtLeast l y → UpTo (h + l) (div binary64 x y)
div_up_to h l x y H u a =
    subst (UpTo (h + l)) (sym (div_is binary64 x y u.low (at_least_positive l y a)))
    (round_up_to (h + l) (num x * den y) (num y * den x) H (mul-pos (at_least_num l y a) (den_pos x))
    (subst (λ (z : ℕ). num x * den y ≤ z * (num y * den x)) (sym (pow-add 2 h l)) (quotient_bound (num x) (num y) (den x) (den y) (2 ^ h) (2 ^ l) u.high a.floor)))

pub div_at_least : (l k h : ℕ) (x y : Float) → l + h ≤ 1074 → AtLeast l x → AtLeast k y → UpTo h y → T (nonneg (div binary64 x y)) → AtLeast (l + h) (div binary64 x y)
div_at_least l k h x y H a b u p =
    let e = div_is binary64 x y a.low (at_least_positive k y b) in
    subst (AtLeast (l + h)) (sym e)
    (round_at_least (l + h) (num x * den y) (num y * den x) H (mul-pos (at_least_num k y b) (den_pos x))
    (Nat.le_trans (mul-le-mul u.high a.floor) (le_of_eq (other (2 ^ h) (den y) (num x) (2 ^ l) ∙ ap (λ (z : ℕ). num x * den y * z) (sym (pow-add 2 l h)))))
    (subst (λ (z : Float). T (nonneg z)) e p))
  where
    other : (a b c d : ℕ) → a * b * (c * d) ≡ c * b * (d * a)
    other a b c d = simp (mul_assoc, mul_comm, mul_left_comm)

-- ---- the larger of two
pub max_up_to : (h : ℕ) (x y : Float) → UpTo h x → UpTo h y → UpTo h (f64_max x y)
max_up_to h x y u v = go (lt x y)
  where
    go : (b : Bool) → UpTo h (cond b y x)
    go true = v
    go false = u

pub max_at_least : (l : ℕ) (x y : Float) → T (nonneg x) → AtLeast l y → AtLeast l (f64_max x y)
max_at_least l x y p a = go (lt x y) (not_lt_le x y p a.low)
  where
    go : (b : Bool) → (b ≡ false → T (le y x)) → AtLeast l (cond b y x)
    go true k = a
    go false k = le_at_least l x p (le_trans (tiny l) y x (tiny_fraction l).0 a.low p (at_least_le l y a) (k refl))

pub zero_up_to : (h : ℕ) → UpTo h f64_zero
zero_up_to h = up_to_more 0 h f64_zero zero-le (unit_up_to f64_zero zero_unit)

pub one_up_to : (h : ℕ) → UpTo h f64_one
one_up_to h = up_to_more 0 h f64_one zero-le (unit_up_to f64_one one_unit)

pub one_at_least : AtLeast 0 f64_one
one_at_least = le_at_least 0 f64_one tt one_unit.high

pub max_one : (h : ℕ) (x : Float) → UpTo h x → UpTo h (f64_max x f64_one) × AtLeast 0 (f64_max x f64_one)
max_one h x u = (max_up_to h x f64_one u (one_up_to h), max_at_least 0 x f64_one u.low one_at_least)

-- ---- counts
pub count_up_to : (h n : ℕ) → h ≤ 1023 → n ≤ 2 ^ h → UpTo h (of_int binary64 (pos n))
unfolding of_int
count_up_to h n H k = round_up_to h n 1 H (zero-lt-suc 0) (Nat.le_trans k (le_of_eq (sym (Nat.mul-one (2 ^ h)))))

pub count_at_least : (n : ℕ) → 0 < n → T (nonneg (of_int binary64 (pos n))) → AtLeast 0 (of_int binary64 (pos n))
unfolding of_int
count_at_least n k p = round_at_least 0 n 1 (lit≤ tt) (zero-lt-suc 0) (Nat.le_trans k (le_of_eq (sym (Nat.mul-one n)))) p

-- ---- the clamp
pub nonneg_ordinary : (x : Float) → T (nonneg x) → T (ordinary x)
nonneg_ordinary nan p = absurd p
nonneg_ordinary (inf s) p = absurd p
nonneg_ordinary (fin true m e) p = absurd p
nonneg_ordinary (fin false m e) p = tt

pub clamped_up_to : (h : ℕ) (x : Float) → UpTo h x → Unit01 (clamp_unit x)
clamped_up_to h x u = clamped_unit x u.held (nonneg_ordinary x u.low)
