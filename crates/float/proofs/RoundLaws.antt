-- A value that a format holds is fixed by its number (`value_unique`), so rounding that number gives it back (`round_own`). Assumes nothing.
use Rattle.std.proofs.Common.{◌≡◌, ℕ, zero, suc, ◌+◌, ◌-◌, ◌*◌, ◌%◌, ◌^◌, ◌<◌, ◌≤◌, Bool, true, false, cond, ◌&&◌, T, eqb, ltb, leb, ℤ, pos, negsuc, sym, refl, ap, ◌∙◌, subst, le_of_eq, lt_of_lt_of_le, le_of_suc-le-suc, lt_irrefl, zero-lt-suc, mul_assoc, add_comm, lt_of_mul-lt-mul_right, mul-lt-mul_of_pos_right, mul-pos, one-mul, pow-suc, lt_of_not-le, zero-mul, mul-one, mul_right_comm, mul_left_comm, arith, eqb→eq, ltb→lt, leb→le, pow_pos, pow-add}
use native.Mathlib.Nat.{eq_of_mul-eq-mul_right, pow-succ'}
use lib.Pow.{pow-lt}
use lib.Ieee.{Float, nan, inf, fin, Format, prec, emax, low, up, down, odd, units, round, le, fits}
use lib.Ieee.Fits.{and_l, and_r, up_pos, down_pos, round-fits}
use lib.Ieee.Exact.{HasValue, round_exact}
use Rattle.float.specs.Order.{nonneg}

-- ---- what `fits` says
pub record Fit (f : Format) (m : ℕ) (e : ℤ) : Type 0 where
  pub odd : m % 2 ≡ 1
  pub few : m < 2 ^ prec f
  pub low_end : down e ≤ 2 ^ low f
  pub high_end : m * up e < 2 ^ suc (emax f) * down e

pub fit : (f : Format) (s : Bool) (m : ℕ) (e : ℤ) → T (fits f (fin s (suc m) e)) → Fit f (suc m) e
unfolding fits
fit f s m e h =
    let A = eqb (suc m % 2) 1 in
    let B = ltb (suc m) (2 ^ prec f) in
    let C = leb (down e) (2 ^ low f) in
    let D = ltb (suc m * up e) (2 ^ suc (emax f) * down e) in record {
      odd = eqb→eq (suc m % 2) 1 (and_l A B (and_l (A && B) C (and_l (A && B && C) D h)));
      few = ltb→lt (suc m) (2 ^ prec f) (and_r A B (and_l (A && B) C (and_l (A && B && C) D h)));
      low_end = leb→le (down e) (2 ^ low f) (and_r (A && B) C (and_l (A && B && C) D h));
      high_end = ltb→lt (suc m * up e) (2 ^ suc (emax f) * down e) (and_r (A && B && C) D h);
    }

two_up : (p : ℕ) → 0 < p → 2 * p ≡ 1 → ⊥
two_up p h e = omega arith

flat : (e : ℤ) → up e * down e ≡ 1 → e ≡ pos 0
flat (pos zero) h = refl
flat (pos (suc k)) h = absurd (two_up (2 ^ k) (pow_pos k) (sym (pow-succ' 2 k) ∙ sym (mul-one (2 ^ suc k)) ∙ h))
flat (negsuc k) h = absurd (two_up (2 ^ k) (pow_pos k) (sym (pow-succ' 2 k) ∙ sym (one-mul (2 ^ suc k)) ∙ h))

pub zero_exp : (f : Format) (s : Bool) (e : ℤ) → T (fits f (fin s zero e)) → e ≡ pos 0
unfolding fits
zero_exp f s e t = flat e (eqb→eq (up e * down e) 1 t)

-- ---- an odd number times a power of two, in one way
even_odd : (m t : ℕ) → m % 2 ≡ 1 → m ≡ 2 * t → ⊥
even_odd m t o h = omega arith

pub odd_pow : (m n a b : ℕ) → m % 2 ≡ 1 → n % 2 ≡ 1 → m * 2 ^ a ≡ n * 2 ^ b → (m ≡ n) × (a ≡ b)
odd_pow m n zero zero o p h = (sym (mul-one m) ∙ h ∙ mul-one n, refl)
odd_pow m n zero (suc b) o p h = absurd (even_odd m (n * 2 ^ b) o (sym (mul-one m) ∙ h ∙ ap (λ (x : ℕ). n * x) (pow-succ' 2 b) ∙ mul_left_comm n 2 (2 ^ b)))
odd_pow m n (suc a) zero o p h = absurd (even_odd n (m * 2 ^ a) p (sym (mul-one n) ∙ sym h ∙ ap (λ (x : ℕ). m * x) (pow-succ' 2 a) ∙ mul_left_comm m 2 (2 ^ a)))
odd_pow m n (suc a) (suc b) o p h =
    let r = odd_pow m n a b o p (eq_of_mul-eq-mul_right 2 (zero-lt-suc 1) (m * 2 ^ a) (n * 2 ^ b)
    (mul_assoc m (2 ^ a) 2 ∙ ap (λ (x : ℕ). m * x) (sym (pow-suc 2 a)) ∙ h ∙ ap (λ (x : ℕ). n * x) (pow-suc 2 b) ∙ sym (mul_assoc n (2 ^ b) 2))) in
    (r.0, ap suc r.1)

-- m * 2 ^ e and n * 2 ^ d, equal
same_odd : (m n : ℕ) (e d : ℤ) → m % 2 ≡ 1 → n % 2 ≡ 1 → m * up e * down d ≡ n * up d * down e → (m ≡ n) × (e ≡ d)
same_odd m n (pos a) (pos b) o p h = let r = odd_pow m n a b o p (sym (mul-one (m * 2 ^ a)) ∙ h ∙ mul-one (n * 2 ^ b)) in (r.0, ap pos r.1)
same_odd m n (pos a) (negsuc b) o p h = absurd (no (odd_pow m n (a + suc b) 0 o p (ap (λ (x : ℕ). m * x) (pow-add 2 a (suc b)) ∙ sym (mul_assoc m (2 ^ a) (2 ^ suc b)) ∙ h ∙ mul-one (n * 1))).1)
  where
    no : a + suc b ≡ 0 → ⊥
    no e = omega arith
same_odd m n (negsuc a) (pos b) o p h = absurd (no (odd_pow m n 0 (b + suc a) o p (sym (mul-one (m * 1)) ∙ h ∙ mul_assoc n (2 ^ b) (2 ^ suc a) ∙ ap (λ (x : ℕ). n * x) (sym (pow-add 2 b (suc a))))).1)
  where
    no : 0 ≡ b + suc a → ⊥
    no e = omega arith
same_odd m n (negsuc a) (negsuc b) o p h = let r = odd_pow m n (suc b) (suc a) o p (ap (λ (x : ℕ). x * 2 ^ suc b) (sym (mul-one m)) ∙ h ∙ ap (λ (x : ℕ). x * 2 ^ suc a) (mul-one n)) in (r.0, ap negsuc (back r.1))
  where
    back : suc b ≡ suc a → a ≡ b
    back e = omega arith

-- a / c as x / de and as y / dd
cross : (x y c de dd a : ℕ) → 0 < c → x * c ≡ a * de → y * c ≡ a * dd → x * dd ≡ y * de
cross x y c de dd a C p q = eq_of_mul-eq-mul_right c C (x * dd) (y * de) (mul_right_comm x dd c ∙ ap (λ (z : ℕ). z * dd) p ∙ mul_right_comm a de dd ∙ ap (λ (z : ℕ). z * de) (sym q) ∙ mul_right_comm y c de)

no_zero : (u d n v e : ℕ) → 0 < v → 0 < e → zero * u * d ≡ suc n * v * e → ⊥
no_zero u d n v e k l h = lt_irrefl 0 (subst (λ (x : ℕ). 0 < x) (sym h ∙ ap (λ (x : ℕ). x * d) (zero-mul u) ∙ zero-mul d) (mul-pos (mul-pos (zero-lt-suc n) k) l))

pub value_unique : (f : Format) (x y : Float) (s : Bool) (a c : ℕ) → 0 < c → T (fits f x) → T (fits f y) → HasValue x s a c → HasValue y s a c → x ≡ y
value_unique f nan y s a c C p q v w = absurd v
value_unique f (inf t) y s a c C p q v w = absurd v
value_unique f (fin t m e) nan s a c C p q v w = absurd w
value_unique f (fin t m e) (inf u) s a c C p q v w = absurd w
value_unique f (fin t zero e) (fin u zero d) s a c C p q v w = λ i. fin ((v.0 ∙ sym w.0) i) zero ((zero_exp f t e p ∙ sym (zero_exp f u d q)) i)
value_unique f (fin t zero e) (fin u (suc n) d) s a c C p q v w = absurd (no_zero (up e) (down d) n (up d) (down e) (up_pos d) (down_pos e) (cross (zero * up e) (suc n * up d) c (down e) (down d) a C v.1 w.1))
value_unique f (fin t (suc m) e) (fin u zero d) s a c C p q v w = absurd (no_zero (up d) (down e) m (up e) (down d) (up_pos e) (down_pos d) (sym (cross (suc m * up e) (zero * up d) c (down e) (down d) a C v.1 w.1)))
value_unique f (fin t (suc m) e) (fin u (suc n) d) s a c C p q v w =
    let r = same_odd (suc m) (suc n) e d (fit f t m e p).odd (fit f u n d q).odd (cross (suc m * up e) (suc n * up d) c (down e) (down d) a C v.1 w.1) in
    λ i. fin ((v.0 ∙ sym w.0) i) (r.0 i) (r.1 i)

-- ---- rounding a value of the format
below_top : (f : Format) (m j l : ℕ) (e : ℤ) → m * up e * 2 ^ l ≡ m * 2 ^ j * down e → m * up e < 2 ^ suc (emax f) * down e → m * 2 ^ j < 2 ^ (l + suc (emax f))
below_top f m j l e h k =
    lt_of_mul-lt-mul_right (down e)
    (subst (λ (x : ℕ). x < 2 ^ (l + suc (emax f)) * down e) h
    (lt_of_lt_of_le (mul-lt-mul_of_pos_right k (pow_pos l)) (le_of_eq (mul_right_comm (2 ^ suc (emax f)) (down e) (2 ^ l) ∙ ap (λ (x : ℕ). x * down e) (sym (pow-add 2 (suc (emax f)) l) ∙ ap (λ (x : ℕ). 2 ^ x) (add_comm (suc (emax f)) l))))))

pow_back : (a l : ℕ) → 2 ^ a ≤ 2 ^ l → a ≤ l
pow_back a l h = le_of_suc-le-suc (lt_of_not-le (λ (g : suc l ≤ a). lt_irrefl (2 ^ l) (lt_of_lt_of_le (pow-lt g) h)))

-- m * 2 ^ e as a number of units of 2 ^ -l, where it is one
pub own_units : (m l : ℕ) (e : ℤ) → down e ≤ 2 ^ l → (j : ℕ) × (m * up e * 2 ^ l ≡ m * 2 ^ j * down e)
own_units m l (pos a) h = (a + l, mul_assoc m (2 ^ a) (2 ^ l) ∙ ap (λ (x : ℕ). m * x) (sym (pow-add 2 a l)) ∙ sym (mul-one (m * 2 ^ (a + l))))
own_units m l (negsuc a) h =
    let k : suc a ≤ l = pow_back (suc a) l h in
    (l - suc a, ap (λ (x : ℕ). x * 2 ^ l) (mul-one m) ∙ ap (λ (x : ℕ). m * x) (ap (λ (x : ℕ). 2 ^ x) (sym (back a l k)) ∙ pow-add 2 (l - suc a) (suc a)) ∙ sym (mul_assoc m (2 ^ (l - suc a)) (2 ^ suc a)))
  where
    back : (a l : ℕ) → suc a ≤ l → l - suc a + suc a ≡ l
    back a l h = omega arith

pub round_own : (f : Format) (s : Bool) (m : ℕ) (e : ℤ) → T (fits f (fin s (suc m) e)) → round f s (suc m * up e) (down e) ≡ fin s (suc m) e
round_own f s m e h =
    let k = fit f s m e h in
    let u = own_units (suc m) (low f) e k.low_end in
    value_unique f (round f s (suc m * up e) (down e)) (fin s (suc m) e) s (suc m * up e) (down e) (down_pos e) (round-fits f s (suc m * up e) (down e)) h
    (round_exact f s (suc m * up e) (down e) (suc m) u.0 (down_pos e) k.few (below_top f (suc m) u.0 (low f) e u.1 k.high_end) u.1)
    (refl, refl)

-- ---- what a fraction with no sign rounds to is finite and not negative, where some such value bounds it
odd_nonneg : (d q k l : ℕ) → T (nonneg (odd d false q k l))
unfolding odd
odd_nonneg d zero k l = tt
odd_nonneg d (suc q) k l = tt

-- what lies below a finite value is not the infinity
units_nonneg : (f : Format) (q k : ℕ) (x : Float) → T (nonneg x) → T (le (units f false q k) x) → T (nonneg (units f false q k))
unfolding units
units_nonneg f q k x n h = go (ltb (q * 2 ^ k) (2 ^ (low f + suc (emax f)))) h
  where
    no : (x : Float) → T (nonneg x) → T (le (inf false) x) → ⊥
    no nan a b = a
    no (inf s) a b = a
    no (fin s m e) a b = unfold le in b

    go : (b : Bool) → T (le (cond b (odd (suc (prec f)) false q k (low f)) (inf false)) x) → T (nonneg (cond b (odd (suc (prec f)) false q k (low f)) (inf false)))
    go true h = odd_nonneg (suc (prec f)) q k (low f)
    go false h = absurd (no x n h)

pub round_nonneg : (f : Format) (a c : ℕ) (x : Float) → T (nonneg x) → T (le (round f false a c) x) → T (nonneg (round f false a c))
unfolding round
round_nonneg f a c x n h = units_nonneg f _ _ x n h
