-- Differences: of two floats that are multiples of 2 ^ - l the difference is +0 or of a size of at least 2 ^ - l, so it is never -0. Assumes nothing.
use mathlib.Core.Path.{◌≡◌, refl, sym, ap, ◌∙◌, subst}
use mathlib.Core.Logic.{inl, inr}
use mathlib.Core.Bool.{Bool, true, false, not, cond, beq, ◌&&◌, false≢true}
use Prim.Native.Nat.{ℕ, zero, suc, ◌+◌, ◌-◌, ◌*◌, ◌^◌, ◌≤◌, ◌<◌}
use native.Mathlib.Nat as Nat
use native.Mathlib.Nat.{le_of_eq, zero-lt-suc, eq-zero-or-pos, zero-mul, mul-pos, mul_assoc, mul_comm, mul_right_comm, mul-sub, add-mul, mul-le-mul_right, pow-suc}
use native.Mathlib.Omega.{arith}
use lib.IntN.{ℤ}
use lib.Dec.{T, ltb, eqb, ltb→lt, eqb→eq, lit≤}
use lib.Pow.{pow_pos, pow_mono}
use borrow.Author.Tests.{lt-ltb}
use lib.Ieee.{Float, nan, inf, fin, binary64, up, down, round, sum, sub, neg, div, lt, fits}
use lib.Ieee.Fits.{up_pos, down_pos, neg-fits}
use lib.Ieee.Positive.{num, den, positive, first_pos}
use lib.Ieee.Scale.{round_same}
use Rattle.float.specs.Order.{f64_max, f64_zero, f64_one, clamp_unit, nonneg, ordinary, Unit01, absolute}
use Rattle.float.proofs.IntegerLaws.{round_neg}
use Rattle.float.proofs.RoundLaws.{fit, own_units}
use Rattle.float.proofs.SignLaws.{below_zero}
use Rattle.float.proofs.NonNegLaws.{div_is}
use Rattle.float.proofs.UnitLaws.{zero_unit, clamped_unit}
use Rattle.units.specs.Sizes.{UpTo, AtLeast, Spread, Stepped}
use Rattle.units.proofs.SizeLaws.{round_up_to, round_at_least, sum_bound, at_least_num, at_least_positive, unit_up_to, up_to_unit, div_up_to, div_at_least, max_up_to, zero_up_to, one_up_to, one_at_least, max_one, nonneg_ordinary}
use Rattle.units.proofs.UnitOperations.{nonneg_not_below}

-- ---- fractions n / c that are multiples of 1 / p
abbrev Multiple : ℕ → ℕ → ℕ → Type 0
Multiple p c n = (v : ℕ) × (n * p ≡ v * c)

multiple_add : (p c a b : ℕ) → Multiple p c a → Multiple p c b → Multiple p c (a + b)
multiple_add p c a b g h = (g.0 + h.0, add-mul a b p ∙ (λ i. g.1 i + h.1 i) ∙ sym (add-mul g.0 h.0 c))

less_mul : (a b p : ℕ) → (a - b) * p ≡ a * p - b * p
less_mul a b p = mul_comm (a - b) p ∙ mul-sub p a b ∙ (λ i. mul_comm p a i - mul_comm p b i)

multiple_sub : (p c a b : ℕ) → Multiple p c a → Multiple p c b → Multiple p c (a - b)
multiple_sub p c a b g h = (g.0 - h.0, less_mul a b p ∙ (λ i. g.1 i - h.1 i) ∙ sym (less_mul g.0 h.0 c))

-- other than zero, it is 1 / p at least
multiple_floor : (p c n : ℕ) → 0 < p → 0 < n → Multiple p c n → c ≤ n * p
multiple_floor p c n P N g =
    Nat.le_trans (le_of_eq (sym (Nat.one-mul c))) (Nat.le_trans (mul-le-mul_right c (first_pos g.0 c (subst (λ (z : ℕ). 0 < z) g.1 (mul-pos N P)))) (le_of_eq (sym g.1)))

-- ---- what such a fraction rounds to
zero_rounds : round binary64 false 0 1 ≡ f64_zero
unfolding round
zero_rounds = refl

round_none : (n c : ℕ) → 0 < c → n ≡ 0 → round binary64 false n c ≡ f64_zero
round_none n c C e = ap (λ (z : ℕ). round binary64 false z c) e ∙ round_same binary64 false 0 c 0 1 C (zero-lt-suc 0) (Nat.mul-one 0 ∙ sym (zero-mul c)) ∙ zero_rounds

record Room (l h n c : ℕ) : Type 0 where
  small : l ≤ 1074
  large : h ≤ 1023
  under : 0 < c
  steps : Multiple (2 ^ l) c n
  high : n ≤ 2 ^ h * c

sized : (l h n c : ℕ) → Room l h n c → 0 < n → AtLeast l (round binary64 false n c) × UpTo h (round binary64 false n c)
sized l h n c r N =
    let u = round_up_to h n c r.large r.under r.high in
    (round_at_least l n c r.small r.under (multiple_floor (2 ^ l) c n (pow_pos l) N r.steps) u.low, u)

spread_plus : (l h n c : ℕ) → Room l h n c → Spread l h (round binary64 false n c)
spread_plus l h n c r = elim (eq-zero-or-pos n) [ inl e ↦ inl (round_none n c r.under e) | inr N ↦ inr (inl (sized l h n c r N)) ]

spread_minus : (l h n c : ℕ) → Room l h n c → 0 < n → Spread l h (round binary64 true n c)
spread_minus l h n c r N = let s = sized l h n c r N in inr (inr (round binary64 false n c, round_neg binary64 n c, s.0, s.1))

-- ---- a sum with signs
record Terms (l h : ℕ) (s : Bool) (a : ℕ) (t : Bool) (b c : ℕ) : Type 0 where
  small : l ≤ 1074
  large : h ≤ 1023
  under : 0 < c
  first : Multiple (2 ^ l) c a
  second : Multiple (2 ^ l) c b
  plain : s ≡ true → 0 < a
  both : beq s t ≡ true → a + b ≤ 2 ^ h * c
  left : a ≤ 2 ^ h * c
  right : b ≤ 2 ^ h * c

less : (a b m : ℕ) → a ≤ m → a - b ≤ m
less a b m h = omega arith

some : (a b : ℕ) → b < a → 0 < a - b
some a b h = omega arith

more : (a b : ℕ) → 0 < a → 0 < a + b
more a b h = omega arith

added : (l h : ℕ) (s : Bool) (a : ℕ) (t : Bool) (b c : ℕ) → Terms l h s a t b c → beq s t ≡ true → Room l h (a + b) c
added l h s a t b c r e = record { small = r.small; large = r.large; under = r.under; steps = multiple_add (2 ^ l) c a b r.first r.second; high = r.both e }

first_less : (l h : ℕ) (s : Bool) (a : ℕ) (t : Bool) (b c : ℕ) → Terms l h s a t b c → Room l h (a - b) c
first_less l h s a t b c r = record { small = r.small; large = r.large; under = r.under; steps = multiple_sub (2 ^ l) c a b r.first r.second; high = less a b (2 ^ h * c) r.left }

second_less : (l h : ℕ) (s : Bool) (a : ℕ) (t : Bool) (b c : ℕ) → Terms l h s a t b c → Room l h (b - a) c
second_less l h s a t b c r = record { small = r.small; large = r.large; under = r.under; steps = multiple_sub (2 ^ l) c b a r.second r.first; high = less b a (2 ^ h * c) r.right }

sum_spread : (l h : ℕ) (s : Bool) (a : ℕ) (t : Bool) (b c : ℕ) → Terms l h s a t b c → Spread l h (sum binary64 s a t b c)
unfolding sum
sum_spread l h false a false b c r = spread_plus l h (a + b) c (added l h false a false b c r refl)
sum_spread l h true a true b c r = spread_minus l h (a + b) c (added l h true a true b c r refl) (more a b (r.plain refl))
sum_spread l h false a true b c r = go (ltb a b) (ltb→lt a b)
  where
    go : (x : Bool) → (T x → a < b) → Spread l h (cond x (round binary64 true (b - a) c) (round binary64 false (a - b) c))
    go true k = spread_minus l h (b - a) c (second_less l h false a true b c r) (some b a (k tt))
    go false k = spread_plus l h (a - b) c (first_less l h false a true b c r)
sum_spread l h true a false b c r = go (ltb a b) (ltb b a) (ltb→lt b a)
  where
    go : (x y : Bool) → (T y → b < a) → Spread l h (cond x (round binary64 false (b - a) c) (round binary64 (true && y) (a - b) c))
    go true y k = spread_plus l h (b - a) c (second_less l h true a false b c r)
    go false true k = spread_minus l h (a - b) c (first_less l h true a false b c r) (some a b (k tt))
    go false false k = spread_plus l h (a - b) c (first_less l h true a false b c r)

-- ---- the difference of two floats
sub_is_sum : (s : Bool) (m : ℕ) (e : ℤ) (t : Bool) (n : ℕ) (d : ℤ) → sub binary64 (fin s m e) (fin t n d) ≡ sum binary64 s (m * up e * down d) (not t) (n * up d * down e) (down e * down d)
unfolding sub
sub_is_sum s m e t n d = refl

wider : (p c d n : ℕ) → Multiple p c n → Multiple p (c * d) (n * d)
wider p c d n g = (g.0, mul_right_comm n d p ∙ ap (λ (z : ℕ). z * d) g.1 ∙ mul_assoc g.0 c d)

wider_bound : (n p q c d : ℕ) → p ≤ q → n ≤ p * c → n * d ≤ q * (c * d)
wider_bound n p q c d h k = Nat.le_trans (mul-le-mul_right d k) (Nat.le_trans (le_of_eq (mul_assoc p c d)) (mul-le-mul_right (c * d) h))

negative_size : (s : Bool) (m : ℕ) (e : ℤ) (d : ℕ) → T (ordinary (fin s m e)) → 0 < d → s ≡ true → 0 < m * up e * d
negative_size true m e d o D k = mul-pos (mul-pos (ltb→lt 0 m o) (up_pos e)) D
negative_size false m e d o D k = absurd (false≢true k)

terms : (l h k : ℕ) (s : Bool) (m : ℕ) (e : ℤ) (t : Bool) (n : ℕ) (d : ℤ) → l ≤ 1074 → k ≤ 1023 → h ≤ k → (beq s (not t) ≡ true → suc h ≤ k)
    → Stepped l h (fin s m e) → Stepped l h (fin t n d) → Terms l k s (m * up e * down d) (not t) (n * up d * down e) (down e * down d)
terms l h k s m e t n d L K H B x y =
    let turn = mul_comm (down d) (down e) in
    record {
      small = L;
      large = K;
      under = mul-pos (down_pos e) (down_pos d);
      first = wider (2 ^ l) (down e) (down d) (m * up e) x.steps;
      second = subst (λ (z : ℕ). Multiple (2 ^ l) z (n * up d * down e)) turn (wider (2 ^ l) (down d) (down e) (n * up d) y.steps);
      plain = negative_size s m e (down d) x.plain (down_pos d);
      both = λ (w : beq s (not t) ≡ true). Nat.le_trans (sum_bound (m * up e) (n * up d) (down e) (down d) (2 ^ h) (2 ^ suc h) (pow-suc 2 h) x.high y.high) (mul-le-mul_right (down e * down d) (pow_mono (B w)));
      left = wider_bound (m * up e) (2 ^ h) (2 ^ k) (down e) (down d) (pow_mono H) x.high;
      right = subst (λ (z : ℕ). n * up d * down e ≤ 2 ^ k * z) turn (wider_bound (n * up d) (2 ^ h) (2 ^ k) (down d) (down e) (pow_mono H) y.high);
    }

pub sub_spread : (l h : ℕ) (x y : Float) → l ≤ 1074 → suc h ≤ 1023 → Stepped l h x → Stepped l h y → Spread l (suc h) (sub binary64 x y)
sub_spread l h nan y L H u v = absurd u.whole
sub_spread l h (inf s) y L H u v = absurd u.whole
sub_spread l h (fin s m e) nan L H u v = absurd v.whole
sub_spread l h (fin s m e) (inf t) L H u v = absurd v.whole
sub_spread l h (fin s m e) (fin t n d) L H u v =
    subst (Spread l (suc h)) (sym (sub_is_sum s m e t n d))
    (sum_spread l (suc h) s (m * up e * down d) (not t) (n * up d * down e) (down e * down d) (terms l h (suc h) s m e t n d L H (Nat.le-suc h) (λ w. Nat.le_refl (suc h)) u v))

-- with both signs clear it is no larger than the larger of the two
pub sub_nonneg_spread : (l h : ℕ) (x y : Float) → l ≤ 1074 → h ≤ 1023 → T (nonneg x) → T (nonneg y) → Stepped l h x → Stepped l h y → Spread l h (sub binary64 x y)
sub_nonneg_spread l h nan y L H p q u v = absurd p
sub_nonneg_spread l h (inf s) y L H p q u v = absurd p
sub_nonneg_spread l h (fin true m e) y L H p q u v = absurd p
sub_nonneg_spread l h (fin false m e) nan L H p q u v = absurd q
sub_nonneg_spread l h (fin false m e) (inf t) L H p q u v = absurd q
sub_nonneg_spread l h (fin false m e) (fin true n d) L H p q u v = absurd q
sub_nonneg_spread l h (fin false m e) (fin false n d) L H p q u v =
    subst (Spread l h) (sym (sub_is_sum false m e false n d))
    (sum_spread l h false (m * up e * down d) true (n * up d * down e) (down e * down d) (terms l h h false m e false n d L H (Nat.le_refl h) (λ w. absurd (false≢true w)) u v))

-- every value of binary64 is a multiple of 2 ^ -1074
zero_steps : (a p c : ℕ) → 0 * a * p ≡ 0 * c
zero_steps a p c = ap (λ (z : ℕ). z * p) (zero-mul a) ∙ zero-mul p ∙ sym (zero-mul c)

pub up_to_stepped : (h : ℕ) (x : Float) → UpTo h x → Stepped 1074 h x
up_to_stepped h nan u = absurd u.low
up_to_stepped h (inf s) u = absurd u.low
up_to_stepped h (fin true m e) u = absurd u.low
up_to_stepped h (fin false zero e) u = record { whole = tt; plain = tt; steps = (0, zero_steps (up e) (2 ^ 1074) (down e)); high = u.high }
up_to_stepped h (fin false (suc m) e) u =
    let w = own_units (suc m) 1074 e (fit binary64 false m e u.held).low_end in
    record { whole = tt; plain = tt; steps = (suc m * 2 ^ w.0, w.1); high = u.high }

-- ---- numbers below zero
pub neg_neg : (x : Float) → neg (neg x) ≡ x
unfolding neg
neg_neg nan = refl
neg_neg (inf true) = refl
neg_neg (inf false) = refl
neg_neg (fin true m e) = refl
neg_neg (fin false m e) = refl

neg_below_zero : (x : Float) → T (positive x) → lt (neg x) f64_zero ≡ true
unfolding neg
neg_below_zero nan p = absurd p
neg_below_zero (inf s) p = absurd p
neg_below_zero (fin true m e) p = absurd p
neg_below_zero (fin false zero e) p = absurd p
neg_below_zero (fin false (suc m) e) p = below_zero m e

neg_below_one : (x : Float) → T (nonneg x) → lt (neg x) f64_one ≡ true
unfolding neg lt
neg_below_one nan p = absurd p
neg_below_one (inf s) p = absurd p
neg_below_one (fin true m e) p = absurd p
neg_below_one (fin false m e) p = lt-ltb 0 (m * up e * 1 + 1 * down e) (over (m * up e * 1) (1 * down e) (mul-pos (zero-lt-suc 0) (down_pos e)))
  where
    over : (a b : ℕ) → 0 < b → 0 < a + b
    over a b h = omega arith

neg_ordinary : (x : Float) → T (positive x) → T (ordinary (neg x))
unfolding neg
neg_ordinary nan p = absurd p
neg_ordinary (inf s) p = absurd p
neg_ordinary (fin true m e) p = absurd p
neg_ordinary (fin false m e) p = p

div_neg : (x y : Float) → T (nonneg x) → T (positive y) → div binary64 (neg x) y ≡ neg (div binary64 x y)
div_neg x y p q = turned_is x y p q ∙ ap neg (sym (div_is binary64 x y p q))
  where
    none : (n : ℕ) → 0 < n → n ≡ 0 → ⊥
    none n a b = omega arith

    turned_is : (x y : Float) → T (nonneg x) → T (positive y) → div binary64 (neg x) y ≡ neg (round binary64 false (num x * den y) (num y * den x))
    turned_is nan y p q = absurd p
    turned_is (inf s) y p q = absurd p
    turned_is (fin true m e) y p q = absurd p
    turned_is (fin false m e) nan p q = absurd q
    turned_is (fin false m e) (inf t) p q = absurd q
    turned_is (fin false m e) (fin true n d) p q = absurd q
    turned_is (fin false m e) (fin false n d) p q = unfold div neg in go (eqb n 0) (eqb→eq n 0)
      where
        go : (t : Bool) → (T t → n ≡ 0) → cond t (cond (eqb m 0) nan (inf true)) (round binary64 true (m * up e * down d) (n * up d * down e)) ≡ neg (round binary64 false (m * up e * down d) (n * up d * down e))
        go true k = absurd (none n (ltb→lt 0 n q) (k tt))
        go false k = round_neg binary64 (m * up e * down d) (n * up d * down e)

-- ---- what a difference is used for
pub spread_max_zero : (l h : ℕ) (x : Float) → Spread l h x → UpTo h (f64_max x f64_zero)
spread_max_zero l h x (inl e) = max_up_to h x f64_zero (subst (UpTo h) (sym e) (zero_up_to h)) (zero_up_to h)
spread_max_zero l h x (inr (inl w)) = max_up_to h x f64_zero w.1 (zero_up_to h)
spread_max_zero l h x (inr (inr w)) =
    subst (λ (z : Float). UpTo h (f64_max z f64_zero)) (sym w.1)
    (subst (λ (b : Bool). UpTo h (cond b f64_zero (neg w.0))) (sym (neg_below_zero w.0 (at_least_positive l w.0 w.2))) (zero_up_to h))

pub spread_max_one : (l h : ℕ) (x : Float) → Spread l h x → UpTo h (f64_max x f64_one) × AtLeast 0 (f64_max x f64_one)
spread_max_one l h x (inl e) = max_one h x (subst (UpTo h) (sym e) (zero_up_to h))
spread_max_one l h x (inr (inl w)) = max_one h x w.1
spread_max_one l h x (inr (inr w)) =
    subst (λ (z : Float). UpTo h (f64_max z f64_one) × AtLeast 0 (f64_max z f64_one)) (sym w.1)
    (subst (λ (b : Bool). UpTo h (cond b f64_one (neg w.0)) × AtLeast 0 (cond b f64_one (neg w.0))) (sym (neg_below_one w.0 w.2.low)) (one_up_to h, one_at_least))

nonneg_absolute : (h : ℕ) (x : Float) → UpTo h x → UpTo h (absolute x)
nonneg_absolute h x u = subst (λ (b : Bool). UpTo h (cond b (neg x) x)) (sym (nonneg_not_below x u.low)) u

pub spread_absolute : (l h : ℕ) (x : Float) → Spread l h x → UpTo h (absolute x)
spread_absolute l h x (inl e) = nonneg_absolute h x (subst (UpTo h) (sym e) (zero_up_to h))
spread_absolute l h x (inr (inl w)) = nonneg_absolute h x w.1
spread_absolute l h x (inr (inr w)) =
    subst (λ (z : Float). UpTo h (absolute z)) (sym w.1)
    (subst (λ (b : Bool). UpTo h (cond b (neg (neg w.0)) (neg w.0))) (sym (neg_below_zero w.0 (at_least_positive l w.0 w.2))) (subst (UpTo h) (sym (neg_neg w.0)) w.3))

zero_quotient : (i : ℕ) (y : Float) → AtLeast i y → div binary64 f64_zero y ≡ f64_zero
zero_quotient i y a = div_is binary64 f64_zero y tt (at_least_positive i y a) ∙ round_none (0 * 1 * den y) (num y * 1) (mul-pos (at_least_num i y a) (zero-lt-suc 0)) (zero-mul (den y))

sized_quotient : (l h i k : ℕ) (x y : Float) → l + k ≤ 1074 → h + i ≤ 1023 → AtLeast l x → UpTo h x → AtLeast i y → UpTo k y → AtLeast (l + k) (div binary64 x y) × UpTo (h + i) (div binary64 x y)
sized_quotient l h i k x y L H a u b v = let w = div_up_to h i x y H u b in (div_at_least l i k x y L a b v w.low, w)

pub div_spread : (l h i k : ℕ) (x y : Float) → l + k ≤ 1074 → h + i ≤ 1023 → Spread l h x → AtLeast i y → UpTo k y → Spread (l + k) (h + i) (div binary64 x y)
div_spread l h i k x y L H (inl e) a u = inl (ap (λ (z : Float). div binary64 z y) e ∙ zero_quotient i y a)
div_spread l h i k x y L H (inr (inl w)) a u = inr (inl (sized_quotient l h i k x y L H w.0 w.1 a u))
div_spread l h i k x y L H (inr (inr w)) a u =
    let s = sized_quotient l h i k w.0 y L H w.2 w.3 a u in
    inr (inr (div binary64 w.0 y, ap (λ (z : Float). div binary64 z y) w.1 ∙ div_neg w.0 y w.2.low (at_least_positive i y a), s.0, s.1))

pub spread_fits : (l h : ℕ) (x : Float) → Spread l h x → T (fits binary64 x)
spread_fits l h x (inl e) = subst (λ (z : Float). T (fits binary64 z)) (sym e) zero_unit.held
spread_fits l h x (inr (inl w)) = w.1.held
spread_fits l h x (inr (inr w)) = subst (λ (z : Float). T (fits binary64 z)) (sym w.1) (neg-fits binary64 w.0 w.3.held)

pub spread_ordinary : (l h : ℕ) (x : Float) → Spread l h x → T (ordinary x)
spread_ordinary l h x (inl e) = subst (λ (z : Float). T (ordinary z)) (sym e) tt
spread_ordinary l h x (inr (inl w)) = nonneg_ordinary x w.1.low
spread_ordinary l h x (inr (inr w)) = subst (λ (z : Float). T (ordinary z)) (sym w.1) (neg_ordinary w.0 (at_least_positive l w.0 w.2))

pub spread_clamped : (l h : ℕ) (x : Float) → Spread l h x → Unit01 (clamp_unit x)
spread_clamped l h x s = clamped_unit x (spread_fits l h x s) (spread_ordinary l h x s)

-- ---- of two values from 0 to 1, the difference where it is above zero, and else 0
pub positive_difference_unit : (x y : Float) → Unit01 x → Unit01 y → Unit01 (f64_max (sub binary64 x y) f64_zero)
positive_difference_unit x y u v =
    up_to_unit (f64_max (sub binary64 x y) f64_zero)
    (spread_max_zero 1074 0 (sub binary64 x y) (sub_nonneg_spread 1074 0 x y (lit≤ tt) (lit≤ tt) u.low v.low (up_to_stepped 0 x (unit_up_to x u)) (up_to_stepped 0 y (unit_up_to y v))))
