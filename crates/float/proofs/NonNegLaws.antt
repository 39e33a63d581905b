-- The finite values with the sign clear, +0 among them, each as the fraction num / den: comparisons are those of fractions, operations are roundings of fractions, and a bound on a fraction is a bound on what it rounds to.
-- So a product with a factor from 0 to 1 is no larger than the other factor (`mul_shrinks`), and a clamped float lies from 0 to 1 (`clamp_range`). Assumes nothing.
use Rattle.std.proofs.Common.{◌≡◌, ℕ, zero, suc, ◌+◌, ◌-◌, ◌*◌, ◌<◌, ◌≤◌, Bool, true, false, cond, ◌&&◌, ◌||◌, T, eqb, ltb, ℤ, pos, sym, refl, ap, ◌∙◌, subst, true≢false, le_of_eq, le_of_lt, zero-lt-suc, mul_assoc, mul-le-mul_left, mul-pos, zero-mul, mul_right_comm, not-le_of_lt, arith, eqb→eq, ltb→lt, ltb-false, ltb-true}
use native.Mathlib.Nat as Nat
use lib.Ieee.{Float, nan, inf, fin, Format, binary64, up, down, round, add, sub, mul, div, lt, le, fits}
use lib.Ieee.Fits.{down_pos}
use lib.Ieee.Exact.{HasValue}
use lib.Ieee.Order.{round_mono, le_of_values}
use lib.Ieee.Positive.{num, den, den_pos, positive, through}
use Rattle.float.specs.Order.{f64_zero, f64_one, clamp_unit, nonneg, ordinary}
use Rattle.float.proofs.RoundLaws.{round_own, round_nonneg, zero_exp}
use Rattle.float.proofs.SignLaws.{below_zero}

-- ---- the order, as one of fractions
pub own_fraction : (x : Float) → T (nonneg x) → HasValue x false (num x) (den x)
own_fraction nan p = absurd p
own_fraction (inf s) p = absurd p
own_fraction (fin true m e) p = absurd p
own_fraction (fin false m e) p = (refl, refl)

pub cross_le : (x y : Float) → T (nonneg x) → T (nonneg y) → num x * den y ≤ num y * den x → T (le x y)
cross_le x y p q h = le_of_values x y (num x) (den x) (num y) (den y) (den_pos x) (den_pos y) (own_fraction x p) (own_fraction y q) h

or_le : (a b : ℕ) → T (ltb a b || (eqb a b && true)) → a ≤ b
or_le a b h = go (ltb a b) (eqb a b) (ltb→lt a b) (eqb→eq a b) h
  where
    go : (s t : Bool) → (T s → a < b) → (T t → a ≡ b) → T (s || (t && true)) → a ≤ b
    go true t p q h = le_of_lt (p tt)
    go false true p q h = le_of_eq (q tt)
    go false false p q h = absurd h

pub le_cross : (x y : Float) → T (nonneg x) → T (nonneg y) → T (le x y) → num x * den y ≤ num y * den x
unfolding le
le_cross nan y p q h = absurd p
le_cross (inf s) y p q h = absurd p
le_cross (fin true m e) y p q h = absurd p
le_cross (fin false m e) nan p q h = absurd q
le_cross (fin false m e) (inf t) p q h = absurd q
le_cross (fin false m e) (fin true n d) p q h = absurd q
le_cross (fin false m e) (fin false n d) p q h = or_le (m * up e * down d) (n * up d * down e) h

-- what `if x < y` gives, in each arm
pub lt_cross : (x y : Float) → T (nonneg x) → T (nonneg y) → lt x y ≡ true → num x * den y < num y * den x
unfolding lt
lt_cross nan y p q h = absurd p
lt_cross (inf s) y p q h = absurd p
lt_cross (fin true m e) y p q h = absurd p
lt_cross (fin false m e) nan p q h = absurd q
lt_cross (fin false m e) (inf t) p q h = absurd q
lt_cross (fin false m e) (fin true n d) p q h = absurd q
lt_cross (fin false m e) (fin false n d) p q h = ltb-true (m * up e * down d) (n * up d * down e) h

pub not_lt_cross : (x y : Float) → T (nonneg x) → T (nonneg y) → lt x y ≡ false → num y * den x ≤ num x * den y
unfolding lt
not_lt_cross nan y p q h = absurd p
not_lt_cross (inf s) y p q h = absurd p
not_lt_cross (fin true m e) y p q h = absurd p
not_lt_cross (fin false m e) nan p q h = absurd q
not_lt_cross (fin false m e) (inf t) p q h = absurd q
not_lt_cross (fin false m e) (fin true n d) p q h = absurd q
not_lt_cross (fin false m e) (fin false n d) p q h = ltb-false (m * up e * down d) (n * up d * down e) h

pub not_lt_le : (x y : Float) → T (nonneg x) → T (nonneg y) → lt x y ≡ false → T (le y x)
not_lt_le x y p q h = cross_le y x q p (not_lt_cross x y p q h)

pub le_trans : (x y z : Float) → T (nonneg x) → T (nonneg y) → T (nonneg z) → T (le x y) → T (le y z) → T (le x z)
le_trans x y z p q r h k = cross_le x z p r (through (num x) (num y) (num z) (den x) (den y) (den z) (den_pos y) (le_cross x y p q h) (le_cross y z q r k))

-- ---- a bound on a fraction is one on what it rounds to
round_zero : round binary64 false 0 1 ≡ fin false zero (pos 0)
unfolding round
round_zero = refl

-- a value is what its own fraction rounds to, or 0 / 1 where it is zero
pub as_round : (x : Float) → T (fits binary64 x) → T (nonneg x) → (a : ℕ) × (c : ℕ) × (0 < c) × (round binary64 false a c ≡ x) × (a * den x ≡ num x * c)
as_round nan h p = absurd p
as_round (inf s) h p = absurd p
as_round (fin true m e) h p = absurd p
as_round (fin false zero e) h p = (0, 1, zero-lt-suc 0, round_zero ∙ ap (λ (g : ℤ). fin false zero g) (sym (zero_exp binary64 false e h)), zero-mul (down e) ∙ sym (ap (λ (x : ℕ). x * 1) (zero-mul (up e))))
as_round (fin false (suc m) e) h p = (suc m * up e, down e, down_pos e, round_own binary64 false m e h, refl)

pub round_le : (a c : ℕ) (x : Float) → 0 < c → T (fits binary64 x) → T (nonneg x) → a * den x ≤ num x * c → T (le (round binary64 false a c) x)
round_le a c x C h p l =
    let r = as_round x h p in
    subst (λ (v : Float). T (le (round binary64 false a c) v)) r.3
    (round_mono binary64 a c r.0 r.1 C r.2 (through a (num x) r.0 c (den x) r.1 (den_pos x) l (le_of_eq (sym r.4))))

pub le_round : (a c : ℕ) (x : Float) → 0 < c → T (fits binary64 x) → T (nonneg x) → num x * c ≤ a * den x → T (le x (round binary64 false a c))
le_round a c x C h p l =
    let r = as_round x h p in
    subst (λ (v : Float). T (le v (round binary64 false a c))) r.3
    (round_mono binary64 r.0 r.1 a c r.2 C (through r.0 (num x) a r.1 (den x) c (den_pos x) (le_of_eq r.4) l))

-- ---- the operations, as roundings
pub mul_is : (f : Format) (x y : Float) → T (nonneg x) → T (nonneg y) → mul f x y ≡ round f false (num x * num y) (den x * den y)
unfolding mul
mul_is f nan y p q = absurd p
mul_is f (inf s) y p q = absurd p
mul_is f (fin true m e) y p q = absurd p
mul_is f (fin false m e) nan p q = absurd q
mul_is f (fin false m e) (inf t) p q = absurd q
mul_is f (fin false m e) (fin true n d) p q = absurd q
mul_is f (fin false m e) (fin false n d) p q = refl

pub add_is : (f : Format) (x y : Float) → T (nonneg x) → T (nonneg y) → add f x y ≡ round f false (num x * den y + num y * den x) (den x * den y)
unfolding add
add_is f nan y p q = absurd p
add_is f (inf s) y p q = absurd p
add_is f (fin true m e) y p q = absurd p
add_is f (fin false m e) nan p q = absurd q
add_is f (fin false m e) (inf t) p q = absurd q
add_is f (fin false m e) (fin true n d) p q = absurd q
add_is f (fin false m e) (fin false n d) p q = refl

pub sub_is : (f : Format) (x y : Float) → T (nonneg x) → T (nonneg y) → T (le y x) → sub f x y ≡ round f false (num x * den y - num y * den x) (den x * den y)
unfolding sub
sub_is f nan y p q h = absurd p
sub_is f (inf s) y p q h = absurd p
sub_is f (fin true m e) y p q h = absurd p
sub_is f (fin false m e) nan p q h = absurd q
sub_is f (fin false m e) (inf t) p q h = absurd q
sub_is f (fin false m e) (fin true n d) p q h = absurd q
sub_is f (fin false m e) (fin false n d) p q h = go (ltb (m * up e * down d) (n * up d * down e)) (ltb→lt (m * up e * down d) (n * up d * down e))
  where
    go : (t : Bool) → (T t → m * up e * down d < n * up d * down e) → cond t (round f true (n * up d * down e - m * up e * down d) (down e * down d)) (round f false (m * up e * down d - n * up d * down e) (down e * down d)) ≡ round f false (m * up e * down d - n * up d * down e) (down e * down d)
    go true k = absurd (not-le_of_lt (k tt) (le_cross (fin false n d) (fin false m e) tt tt h))
    go false k = refl

pub div_is : (f : Format) (x y : Float) → T (nonneg x) → T (positive y) → div f x y ≡ round f false (num x * den y) (num y * den x)
unfolding div
div_is f nan y p q = absurd p
div_is f (inf s) y p q = absurd p
div_is f (fin true m e) y p q = absurd p
div_is f (fin false m e) nan p q = absurd q
div_is f (fin false m e) (inf t) p q = absurd q
div_is f (fin false m e) (fin true n d) p q = absurd q
div_is f (fin false m e) (fin false n d) p q = go (eqb n 0) (eqb→eq n 0)
  where
    no : (n : ℕ) → 0 < n → n ≡ 0 → ⊥
    no n a b = omega arith

    go : (t : Bool) → (T t → n ≡ 0) → cond t (cond (eqb m 0) nan (inf false)) (round f false (m * up e * down d) (n * up d * down e)) ≡ round f false (m * up e * down d) (n * up d * down e)
    go true k = absurd (no n (ltb→lt 0 n q) (k tt))
    go false k = refl

-- ---- a product with a factor from 0 to 1
smaller : (a b c d : ℕ) → b * 1 ≤ 1 * 1 * d → a * b * c ≤ a * (c * d)
smaller a b c d h = Nat.le_trans (le_of_eq (mul_right_comm a b c)) (Nat.le_trans (mul-le-mul_left (a * c) (one b d h)) (le_of_eq (mul_assoc a c d)))
  where
    one : (b d : ℕ) → b * 1 ≤ 1 * 1 * d → b ≤ d
    one b d h = omega arith

pub mul_shrinks : (x p : Float) → T (fits binary64 x) → T (nonneg x) → T (nonneg p) → T (le p f64_one) → T (le (mul binary64 x p) x)
mul_shrinks x p h a b l =
    subst (λ (v : Float). T (le v x)) (sym (mul_is binary64 x p a b))
    (round_le (num x * num p) (den x * den p) x (mul-pos (den_pos x) (den_pos p)) h a (smaller (num x) (num p) (den x) (den p) (le_cross p f64_one b tt l)))

pub mul_nonneg : (x p : Float) → T (fits binary64 x) → T (nonneg x) → T (nonneg p) → T (le p f64_one) → T (nonneg (mul binary64 x p))
mul_nonneg x p h a b l =
    let e = mul_is binary64 x p a b in
    subst (λ (v : Float). T (nonneg v)) (sym e) (round_nonneg binary64 (num x * num p) (den x * den p) x a (subst (λ (v : Float). T (le v x)) e (mul_shrinks x p h a b l)))

-- ---- the clamp: of a float that is no NaN and no -0, the result lies from 0 to 1
inf_low : lt (inf true) f64_zero ≡ true
unfolding lt
inf_low = refl

inf_high : lt f64_one (inf false) ≡ true
unfolding lt
inf_high = refl

ends : T (le f64_zero f64_one) × T (le f64_one f64_one)
unfolding le
ends = (tt, tt)

picked : (x : Float) (s t : Bool) → (s ≡ false → t ≡ false → T (nonneg x) × T (le x f64_one)) → T (nonneg (cond s f64_zero (cond t f64_one x))) × T (le (cond s f64_zero (cond t f64_one x)) f64_one)
picked x true t h = (tt, ends.0)
picked x false true h = (tt, ends.1)
picked x false false h = h refl refl

pub clamp_range : (x : Float) → T (ordinary x) → T (nonneg (clamp_unit x)) × T (le (clamp_unit x) f64_one)
clamp_range x u = picked x (lt x f64_zero) (lt f64_one x) (λ a b. inside x u a b)
  where
    inside : (x : Float) → T (ordinary x) → lt x f64_zero ≡ false → lt f64_one x ≡ false → T (nonneg x) × T (le x f64_one)
    inside nan u a b = absurd u
    inside (inf true) u a b = absurd (true≢false (sym inf_low ∙ a))
    inside (inf false) u a b = absurd (true≢false (sym inf_high ∙ b))
    inside (fin true zero e) u a b = absurd u
    inside (fin true (suc m) e) u a b = absurd (true≢false (sym (below_zero m e) ∙ a))
    inside (fin false m e) u a b = (tt, not_lt_le f64_one (fin false m e) tt tt b)
