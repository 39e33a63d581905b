-- `isqrt` is the whole part of the root, and `round_root` of a number whose root has 54 digits in front is half of those digits, rounded. Assumes nothing.
use Rattle.std.proofs.Common.{◌≡◌, ℕ, zero, suc, ◌+◌, ◌-◌, ◌*◌, ◌/◌, ◌%◌, ◌^◌, ◌<◌, ◌≤◌, Bool, true, false, cond, not, T, eqb, ltb, leb, sym, refl, ap, ◌∙◌, subst, zero-le, le_trans, le_of_eq, lt_of_lt_of_le, le_of_suc-le-suc, lt_of_le_of_lt, mul-le-mul_right, zero-lt-suc, mul_assoc, mul_comm, div-lt_iff_lt-mul, le_antisymm, mul-lt-mul_of_pos_right, mul-pos, pow-suc, lt_of_not-le, le-div_iff_mul-le, not-le_of_lt, add-one, arith, lit≤, eqb→eq, ltb→lt, leb→le, pow_pos, pow_mono, pow-add}
use Prim.Native.Nat.{compare, Ordering}
use native.Mathlib.Nat.{mul-mul-mul_comm, pow-le-pow_left, div-div-eq-div-mul}
use lib.Arith.{lt_of_le-ne}
use lib.Dec.{is_le, compare_is_eq, nleb→lt, eqb_refl}
use lib.Ieee.{Float, binary64, size, nearest, units}
use lib.Ieee.Digits.{size-lt, size-le}
use lib.Ieee.Fits.{and_l, and_r}
use Rattle.root.specs.Isqrt.{at_least, digit_root, newton, is_root, checked, tried, lower, isqrt}
use Rattle.root.specs.Root.{middle, round_root}
use Rattle.root.specs.Digits.{RootDigits, all_digits, rounded_by, rounded_half}
use Rattle.root.specs.declared.digits.Digits.{Digits}
use Rattle.root.proofs.Squares.{sq_lt, sq_suc, sq_double}

-- ---- the whole part of a root
abbrev pub Whole : ℕ → ℕ → Type 0
Whole n r = (r * r ≤ n) × (n < suc r * suc r)

-- there is but one such number
pub whole_unique : (n r s : ℕ) → Whole n r → Whole n s → r ≡ s
whole_unique n r s a b = le_antisymm (le_of_suc-le-suc (sq_lt r (suc s) (lt_of_le_of_lt a.0 b.1))) (le_of_suc-le-suc (sq_lt s (suc r) (lt_of_le_of_lt b.0 a.1)))

-- one digit more
step : (r n : ℕ) → Whole (n / 4) r → Whole n (at_least (2 * r) n)
step r n h = go (leb (suc (2 * r) * suc (2 * r)) n) (leb→le (suc (2 * r) * suc (2 * r)) n) (nleb→lt (suc (2 * r) * suc (2 * r)) n)
  where
    lo : 2 * r * (2 * r) ≤ n
    lo = let d = sq_double r in let a = h.0 in omega arith

    hi : n < suc (suc (2 * r)) * suc (suc (2 * r))
    hi = let d = sq_double (suc r) in let a = h.1 in subst (λ (x : ℕ). n < x * x) (is r) (omega arith)
      where
        is : (r : ℕ) → 2 * suc r ≡ suc (suc (2 * r))
        is r = omega arith

    go : (b : Bool) → (T b → suc (2 * r) * suc (2 * r) ≤ n) → (T (not b) → n < suc (2 * r) * suc (2 * r))
        → (cond b (suc (2 * r)) (2 * r) * cond b (suc (2 * r)) (2 * r) ≤ n) × (n < suc (cond b (suc (2 * r)) (2 * r)) * suc (cond b (suc (2 * r)) (2 * r)))
    go true a b = (a tt, hi)
    go false a b = (lo, b tt)

digits_whole : (d n : ℕ) → n < 4 ^ d → Whole n (digit_root d n)
unfolding digit_root
digits_whole zero n h = (zero-le, h)
digits_whole (suc d) n h = step (digit_root d (n / 4)) n (digits_whole d (n / 4) ((div-lt_iff_lt-mul (zero-lt-suc 3)).1 (subst (λ (x : ℕ). n < x) (pow-suc 4 d) h)))

tried_whole : (r n : ℕ) → Whole n (tried r n)
unfolding tried
tried_whole r n = go (is_root r n) (λ t. (leb→le (r * r) n (and_l (leb (r * r) n) (ltb n (suc r * suc r)) t), ltb→lt n (suc r * suc r) (and_r (leb (r * r) n) (ltb n (suc r * suc r)) t)))
  where
    go : (b : Bool) → (T b → Whole n r) → Whole n (checked b r n)
    go true h = h tt
    go false h = digits_whole (size n) n (lt_of_lt_of_le (size-lt n) (pow-le-pow_left (lit≤ tt) (size n)))

pub isqrt_whole : (n : ℕ) → Whole n (isqrt n)
unfolding isqrt
isqrt_whole n = tried_whole (lower (newton 14 (2 ^ (size n / 2 + 1)) n) n) n

-- ---- what `compare` says
abbrev pub Cmp : Ordering → ℕ → ℕ → Type 0
Cmp Ordering.lt a b = a < b
Cmp Ordering.eq a b = a ≡ b
Cmp Ordering.gt a b = b < a

pub cmp : (a b : ℕ) → Cmp (compare a b) a b
cmp a b = go (compare a b) (leb→le a b) (nleb→lt a b) (eqb→eq a b) (λ (e : a ≡ b). subst (λ (x : ℕ). T (eqb a x)) e (eqb_refl a))
  where
    go : (o : Ordering) → (T (is_le o) → a ≤ b) → (T (not (is_le o)) → b < a) → (T (compare_is_eq o) → a ≡ b) → (a ≡ b → T (compare_is_eq o)) → Cmp o a b
    go Ordering.lt h k e n = lt_of_le-ne (h tt) n
    go Ordering.eq h k e n = e tt
    go Ordering.gt h k e n = k tt

neither : {a b : ℕ} → a < b → b < a → ⊥
neither h k = omega arith

not_same : {a b : ℕ} → a < b → a ≡ b → ⊥
not_same h k = omega arith

pub nearest_lt : (q a b : ℕ) → a < b → nearest q (compare a b) ≡ q
nearest_lt q a b h = go (compare a b) (cmp a b)
  where
    go : (o : Ordering) → Cmp o a b → nearest q o ≡ q
    go Ordering.lt x = refl
    go Ordering.eq x = absurd (not_same h x)
    go Ordering.gt x = absurd (neither h x)

pub nearest_eq : (q a b : ℕ) → a ≡ b → nearest q (compare a b) ≡ q + q % 2
nearest_eq q a b h = go (compare a b) (cmp a b)
  where
    go : (o : Ordering) → Cmp o a b → nearest q o ≡ q + q % 2
    go Ordering.lt x = absurd (not_same x h)
    go Ordering.eq x = refl
    go Ordering.gt x = absurd (not_same x (sym h))

pub nearest_gt : (q a b : ℕ) → b < a → nearest q (compare a b) ≡ q + 1
nearest_gt q a b h = go (compare a b) (cmp a b)
  where
    one : (q : ℕ) → suc q ≡ q + 1
    one q = omega arith

    go : (o : Ordering) → Cmp o a b → nearest q o ≡ q + 1
    go Ordering.lt x = absurd (neither x h)
    go Ordering.eq x = absurd (not_same h (sym x))
    go Ordering.gt x = one q

-- ---- half of the digits, rounded. p stands for 4 times a square
half_rounded : (digits rest p : ℕ) → rest ≤ 2 * digits → 0 < p
    → nearest (digits / 2) (compare ((digits * digits + rest) * p) ((2 * (digits / 2) + 1) * (2 * (digits / 2) + 1) * p)) ≡ rounded_half digits rest
half_rounded digits rest p h P = go (digits % 2) rest refl refl
  where
    even : digits % 2 ≡ 0 → digits * digits + rest < (2 * (digits / 2) + 1) * (2 * (digits / 2) + 1)
    even e = subst (λ (x : ℕ). digits * digits + rest < (x + 1) * (x + 1)) (is digits e) (let s = sq_suc digits in omega arith)
      where
        is : (r : ℕ) → r % 2 ≡ 0 → r ≡ 2 * (r / 2)
        is r e = omega arith

    odd : (o : ℕ) → digits % 2 ≡ suc o → (2 * (digits / 2) + 1) * (2 * (digits / 2) + 1) ≡ digits * digits
    odd o e = ap (λ (x : ℕ). x * x) (is digits e)
      where
        is : (r : ℕ) → r % 2 ≡ suc o → 2 * (r / 2) + 1 ≡ r
        is r e = omega arith

    go : (o r : ℕ) → digits % 2 ≡ o → rest ≡ r → nearest (digits / 2) (compare ((digits * digits + rest) * p) ((2 * (digits / 2) + 1) * (2 * (digits / 2) + 1) * p)) ≡ rounded_by o (digits / 2) r
    go zero r e f = nearest_lt (digits / 2) _ _ (mul-lt-mul_of_pos_right (even e) P)
    go (suc o) zero e f = nearest_eq (digits / 2) _ _ (ap (λ (x : ℕ). x * p) (plain (digits * digits) rest f ∙ sym (odd o e)))
      where
        plain : (s r : ℕ) → r ≡ 0 → s + r ≡ s
        plain s r f = omega arith
    go (suc o) (suc r) e f = nearest_gt (digits / 2) _ _ (mul-lt-mul_of_pos_right (subst (λ (x : ℕ). x < digits * digits + rest) (sym (odd o e)) (more (digits * digits) rest r f)) P)
      where
        more : (s t r : ℕ) → t ≡ suc r → s < s + t
        more s t r f = omega arith

-- ---- how many digits a number has
pub size_is : (n j : ℕ) → 2 ^ j ≤ n → n < 2 ^ suc j → size n ≡ suc j
size_is n j lo hi = le_antisymm (size-le n (suc j) hi) (lt_of_not-le (λ (g : size n ≤ j). not-le_of_lt (lt_of_lt_of_le (size-lt n) (pow_mono g)) lo))

-- ---- `round_root` where n is (digits * digits + rest) * 4 ^ z
module _ (digits rest z n : ℕ) (small : rest ≤ 2 * digits) (lo : 2 ^ 53 ≤ digits) (hi : digits < 2 ^ 54) (is : n ≡ (digits * digits + rest) * (2 ^ z * 2 ^ z)) where
  low_end : digits * 2 ^ z ≤ isqrt n
  low_end = le_of_suc-le-suc (sq_lt (digits * 2 ^ z) (suc (isqrt n)) (lt_of_le_of_lt (le_trans (le_of_eq (mul-mul-mul_comm digits (2 ^ z) digits (2 ^ z))) (le_trans (mul-le-mul_right (2 ^ z * 2 ^ z) (part (digits * digits) rest)) (le_of_eq (sym is)))) (isqrt_whole n).1))
    where
      part : (s r : ℕ) → s ≤ s + r
      part s r = omega arith

  high_end : isqrt n < suc digits * 2 ^ z
  high_end = sq_lt (isqrt n) (suc digits * 2 ^ z) (lt_of_le_of_lt (isqrt_whole n).0 (subst (λ (x : ℕ). x < suc digits * 2 ^ z * (suc digits * 2 ^ z)) (sym is) (lt_of_lt_of_le (mul-lt-mul_of_pos_right under (mul-pos (pow_pos z) (pow_pos z))) (le_of_eq (sym (mul-mul-mul_comm (suc digits) (2 ^ z) (suc digits) (2 ^ z)))))))
    where
      under : digits * digits + rest < suc digits * suc digits
      under = subst (λ (x : ℕ). digits * digits + rest < x * x) (one digits) (let s = sq_suc digits in omega arith)
        where
          one : (r : ℕ) → r + 1 ≡ suc r
          one r = omega arith

  front : isqrt n / 2 ^ z ≡ digits
  front = le_antisymm (le_of_suc-le-suc ((div-lt_iff_lt-mul (pow_pos z)).1 high_end)) ((le-div_iff_mul-le (pow_pos z)).1 low_end)

  how_many : size (isqrt n) ≡ suc (53 + z)
  how_many =
      size_is (isqrt n) (53 + z)
      (le_trans (le_of_eq (pow-add 2 53 z)) (le_trans (mul-le-mul_right (2 ^ z) lo) low_end))
      (lt_of_lt_of_le high_end (le_trans (mul-le-mul_right (2 ^ z) hi) (le_of_eq (sym (pow-add 2 54 z) ∙ ap (λ (k : ℕ). 2 ^ k) (shift z)))))
    where
      shift : (z : ℕ) → 54 + z ≡ suc (53 + z)
      shift z = omega arith

  dropped : size (isqrt n) - 53 ≡ suc z
  dropped = ap (λ (k : ℕ). k - 53) how_many ∙ less z
    where
      less : (z : ℕ) → suc (53 + z) - 53 ≡ suc z
      less z = omega arith

  kept : isqrt n / 2 ^ suc z ≡ digits / 2
  kept = ap (λ (x : ℕ). isqrt n / x) (pow-suc 2 z) ∙ sym (div-div-eq-div-mul (isqrt n) (2 ^ z) 2) ∙ ap (λ (x : ℕ). x / 2) front

  squared : (c : ℕ) → c * 2 ^ suc z * (c * 2 ^ suc z) ≡ c * c * (4 * (2 ^ z * 2 ^ z))
  squared c = mul-mul-mul_comm c (2 ^ suc z) c (2 ^ suc z) ∙ ap (λ (x : ℕ). c * c * x) (ap (λ (x : ℕ). x * x) (pow-suc 2 z ∙ mul_comm (2 ^ z) 2) ∙ sq_double (2 ^ z))

  four : 4 * n ≡ (digits * digits + rest) * (4 * (2 ^ z * 2 ^ z))
  four = ap (λ (x : ℕ). 4 * x) is ∙ sym (mul_assoc 4 (digits * digits + rest) (2 ^ z * 2 ^ z)) ∙ ap (λ (x : ℕ). x * (2 ^ z * 2 ^ z)) (mul_comm 4 (digits * digits + rest)) ∙ mul_assoc (digits * digits + rest) 4 (2 ^ z * 2 ^ z)

  abbrev at : ℕ → ℕ → Float
  at q k = units binary64 false (nearest q (compare (4 * n) (middle q k * middle q k))) k

  round_root_is : round_root binary64 n ≡ at (isqrt n / 2 ^ (size (isqrt n) - 53)) (size (isqrt n) - 53)
  unfolding round_root
  round_root_is = refl

  pub round_root_law : round_root binary64 n ≡ units binary64 false (rounded_half digits rest) (suc z)
  round_root_law =
      round_root_is
      ∙ ap (λ (k : ℕ). at (isqrt n / 2 ^ k) k) dropped
      ∙ ap (λ (q : ℕ). at q (suc z)) kept
      ∙ ap (λ (x : ℕ). units binary64 false (nearest (digits / 2) (compare x (middle (digits / 2) (suc z) * middle (digits / 2) (suc z)))) (suc z)) four
      ∙ ap (λ (x : ℕ). units binary64 false (nearest (digits / 2) (compare ((digits * digits + rest) * (4 * (2 ^ z * 2 ^ z))) x)) (suc z)) (squared (2 * (digits / 2) + 1))
      ∙ ap (λ (q : ℕ). units binary64 false q (suc z)) (half_rounded digits rest (4 * (2 ^ z * 2 ^ z)) small (mul-pos (zero-lt-suc 3) (mul-pos (pow_pos z) (pow_pos z))))

-- digits and rest are fixed by what they promise
abbrev digits_of : ℕ → ℕ → Digits
digits_of d r = record { digits = d; rest = r }

pub digits_fixed : (w : ℕ) (t : Digits) → RootDigits w t.digits t.rest → t ≡ all_digits w
unfolding all_digits
digits_fixed w t h =
    let k : t.digits * t.digits + t.rest ≡ w * 4 ^ 27 = h.whole in
    let m : t.rest ≤ 2 * t.digits = h.small in
    let s : (t.digits + 1) * (t.digits + 1) ≡ t.digits * t.digits + 2 * t.digits + 1 = sq_suc t.digits in
    let u : w * 4 ^ 27 < (t.digits + 1) * (t.digits + 1) = omega arith in
    let v : w * 4 ^ 27 < suc t.digits * suc t.digits = subst (λ (x : ℕ). w * 4 ^ 27 < x * x) (add-one t.digits) u in
    let e : t.digits ≡ isqrt (w * 4 ^ 27) = whole_unique (w * 4 ^ 27) t.digits (isqrt (w * 4 ^ 27)) (omega arith, v) (isqrt_whole (w * 4 ^ 27)) in
    let f : t.rest ≡ w * 4 ^ 27 - t.digits * t.digits = omega arith in
    ap (digits_of t.digits) f ∙ ap (λ (x : ℕ). digits_of x (w * 4 ^ 27 - x * x)) e
