-- Of all values of binary64 with the sign clear, `root x` alone is the nearest to √x, for an x that is finite and above zero. Assumes nothing.
-- In units of the smallest value √x is √n, which lies from q * 2 ^ k to (q + 1) * 2 ^ k with a q of 53 digits. A value has no more digits than that, so none lies strictly between these two, and the square of their middle has more digits than x.
use Rattle.std.proofs.Common.{◌≡◌, ℕ, zero, suc, ◌+◌, ◌-◌, ◌*◌, ◌/◌, ◌^◌, ◌<◌, ◌≤◌, Bool, true, false, cond, T, ltb, ◌⊎◌, ℤ, pos, sym, refl, ap, ◌∙◌, subst, inl, inr, le_trans, le_of_eq, lt_of_lt_of_le, lt_of_le_of_lt, le_of_lt, mul-le-mul_right, zero-lt-suc, mul_assoc, suc-mul, mul_comm, div-lt_iff_lt-mul, add-mul, mul-le-mul, lt_of_mul-lt-mul_right, mul-le-mul_left, mul-lt-mul_of_pos_right, mul-pos, pow-suc, lt_of_not-le, le-div_iff_mul-le, zero-mul, mul-one, mul_right_comm, not-le_of_lt, div-mul-le_self, arith, lit<, ltb→lt, pow_pos, pow_mono, pow-add}
use Prim.Native.Nat.{compare, Ordering}
use native.Mathlib.Nat.{mul-mul-mul_comm}
use lib.Ieee.{Float, nan, inf, fin, binary64, up, down, size, nearest, odd, units, round, lt, le, fits}
use lib.Ieee.Bits.{is_true}
use lib.Ieee.Digits.{size-lt, size_reaches}
use lib.Ieee.Exact.{units_val}
use lib.Ieee.Fits.{round-fits}
use lib.Ieee.Positive.{num, den, den_pos, positive, value→cross}
use Rattle.float.specs.Order.{nonneg}
use Rattle.float.proofs.RoundLaws.{fit, odd_pow, own_units, round_nonneg}
use Rattle.float.proofs.NonNegLaws.{lt_cross}
use Rattle.root.specs.Isqrt.{isqrt}
use Rattle.root.specs.Root.{middle, round_root, root}
use Rattle.root.specs.NearestRoot.{square, sum_num, NearestRoot}
use Rattle.root.proofs.Squares.{sq_less, sq_double, sq_odd}
use Rattle.root.proofs.Roots.{isqrt_whole, Cmp, cmp}
use Rattle.root.proofs.RootLaws.{one, side, long, grid, squares, root_is, large, in_squares, root_below, root_round}

-- ---- √n between its neighbours q * 2 ^ k and (q + 1) * 2 ^ k
module _ (n : ℕ) (big : 2 ^ 106 ≤ n) where
  abbrev k : ℕ
  k = size (isqrt n) - 53

  abbrev q : ℕ
  q = isqrt n / 2 ^ k

  abbrev twice : ℕ
  twice = middle q k

  low_end : q * 2 ^ k * (q * 2 ^ k) ≤ n
  low_end = let h = div-mul-le_self (isqrt n) (2 ^ k) in le_trans (mul-le-mul h h) (isqrt_whole n).0

  high_end : n < suc q * 2 ^ k * (suc q * 2 ^ k)
  high_end = let h = (div-lt_iff_lt-mul (pow_pos k)).0 (next q) in lt_of_lt_of_le (isqrt_whole n).1 (mul-le-mul h h)
    where
      next : (q : ℕ) → q < suc q
      next q = omega arith

  digits : 2 ^ 52 ≤ q
  digits = (le-div_iff_mul-le (pow_pos k)).1 (le_trans (le_of_eq (sym (pow-add 2 52 k))) (size_reaches (isqrt n) (52 + k) (under (size (isqrt n)) some)))
    where
      some : 53 < size (isqrt n)
      some = lt_of_not-le (λ (g : size (isqrt n) ≤ 53). not-le_of_lt (lt_of_lt_of_le (size-lt (isqrt n)) (pow_mono g)) (long n big))

      under : (z : ℕ) → 53 < z → 52 + (z - 53) < z
      under z h = omega arith

  -- the neighbours add up to twice the middle
  ends : q * 2 ^ k + suc q * 2 ^ k ≡ twice
  ends = let a = add-mul (2 * q) 1 (2 ^ k) in let b = mul_assoc 2 q (2 ^ k) in let c = suc-mul q (2 ^ k) in omega arith

  -- no value lies strictly between the neighbours
  gap : (m j : ℕ) → m < 2 ^ 53 → q * 2 ^ k < m * 2 ^ j → suc q * 2 ^ k ≤ m * 2 ^ j
  gap m j f h = elim (side j k) [
    | inl l ↦ absurd (not-le_of_lt h (le_trans (few l) (mul-le-mul_right (2 ^ k) digits)))
    | inr l ↦
        let e : m * 2 ^ j ≡ m * 2 ^ (j - k) * 2 ^ k = ap (λ (x : ℕ). m * 2 ^ x) (parts j k l) ∙ ap (λ (x : ℕ). m * x) (pow-add 2 (j - k) k) ∙ sym (mul_assoc m (2 ^ (j - k)) (2 ^ k)) in
        le_trans (mul-le-mul_right (2 ^ k) (lt_of_mul-lt-mul_right (2 ^ k) (subst (λ (x : ℕ). q * 2 ^ k < x) e h))) (le_of_eq (sym e))
  ]
    where
      parts : (j k : ℕ) → k ≤ j → j ≡ j - k + k
      parts j k l = omega arith

      half : (m : ℕ) → m < 2 ^ 53 → m ≤ 2 ^ 52 * 2
      half m f = omega arith

      few : j < k → m * 2 ^ j ≤ 2 ^ 52 * 2 ^ k
      few l = le_trans (mul-le-mul_right (2 ^ j) (half m f)) (le_trans (le_of_eq (mul_assoc (2 ^ 52) 2 (2 ^ j) ∙ ap (λ (x : ℕ). 2 ^ 52 * x) (mul_comm 2 (2 ^ j) ∙ sym (pow-suc 2 j)))) (mul-le-mul_left (2 ^ 52) (pow_mono l)))

  -- the neighbour that the root r is, and the side of the middle that √n is on
  abbrev Side : ℕ → Type 0
  Side r = ((r ≡ q * 2 ^ k) × (4 * n < twice * twice)) ⊎ ((r ≡ suc q * 2 ^ k) × (twice * twice < 4 * n))

  rounded : (4 * n ≡ twice * twice → ⊥) → Side (nearest q (compare (4 * n) (twice * twice)) * 2 ^ k)
  rounded tie = go (compare (4 * n) (twice * twice)) (cmp (4 * n) (twice * twice))
    where
      go : (o : Ordering) → Cmp o (4 * n) (twice * twice) → Side (nearest q o * 2 ^ k)
      go Ordering.lt h = inl (refl, h)
      go Ordering.eq h = absurd (tie h)
      go Ordering.gt h = inr (refl, h)

  beyond : (r m j : ℕ) → Side r → m < 2 ^ 53 → r < m * 2 ^ j → 4 * n < (r + m * 2 ^ j) * (r + m * 2 ^ j)
  beyond r m j (inl s) f h =
      let g : suc q * 2 ^ k ≤ m * 2 ^ j = gap m j f (subst (λ (x : ℕ). x < m * 2 ^ j) s.0 h) in
      let e = ends in
      let b = s.0 in
      let l : twice ≤ r + m * 2 ^ j = omega arith in
      lt_of_lt_of_le s.1 (mul-le-mul l l)
  beyond r m j (inr s) f h =
      let l : 2 * r ≤ r + m * 2 ^ j = omega arith in
      let t : n < r * r = subst (λ (x : ℕ). n < x * x) (sym s.0) high_end in
      let d = sq_double r in
      let u : 4 * n < 2 * r * (2 * r) = omega arith in
      lt_of_lt_of_le u (mul-le-mul l l)

  short : (r m j : ℕ) → Side r → m < 2 ^ 53 → m * 2 ^ j < r → (r + m * 2 ^ j) * (r + m * 2 ^ j) < 4 * n
  short r m j (inl s) f h =
      let l : r + m * 2 ^ j < 2 * r = omega arith in
      let t : r * r ≤ n = subst (λ (x : ℕ). x * x ≤ n) (sym s.0) low_end in
      let d = sq_double r in
      let u : 2 * r * (2 * r) ≤ 4 * n = omega arith in
      lt_of_lt_of_le (sq_less (r + m * 2 ^ j) (2 * r) l) u
  short r m j (inr s) f h =
      let g : m * 2 ^ j ≤ q * 2 ^ k = elim (side (q * 2 ^ k) (m * 2 ^ j)) [ inl x ↦ absurd (not-le_of_lt (subst (λ (y : ℕ). m * 2 ^ j < y) s.0 h) (gap m j f x)) | inr x ↦ x ] in
      let e = ends in
      let b = s.0 in
      let l : r + m * 2 ^ j ≤ twice = omega arith in
      lt_of_le_of_lt (mul-le-mul l l) s.1

-- ---- from units to fractions: a / c is r / u, and b / e is y / u
module _ (a b c e u r y : ℕ) (h : a * u ≡ r * c) (g : b * u ≡ y * e) where
  left : a * e * u ≡ r * (c * e)
  left = mul_right_comm a e u ∙ ap (λ (x : ℕ). x * e) h ∙ mul_assoc r c e

  right : b * c * u ≡ y * (c * e)
  right = mul_right_comm b c u ∙ ap (λ (x : ℕ). x * c) g ∙ mul_right_comm y e c ∙ mul_assoc y c e

  order : 0 < u → a * e < b * c → r < y
  order U l = lt_of_mul-lt-mul_right (c * e) (subst (λ (x : ℕ). x < y * (c * e)) left (subst (λ (x : ℕ). a * e * u < x) right (mul-lt-mul_of_pos_right l U)))

  total : (a * e + b * c) * u ≡ (r + y) * (c * e)
  total = let p = left in let s = right in let t = add-mul (a * e) (b * c) u in let w = add-mul r y (c * e) in omega arith

squares_over : (s d u w : ℕ) → s * u ≡ w * d → s * s * (u * u) ≡ w * w * (d * d)
squares_over s d u w h = mul-mul-mul_comm s s u u ∙ ap (λ (x : ℕ). x * x) h ∙ mul-mul-mul_comm w d w d

-- X / D is n / (u * u), and s / d is w / u
module _ (X D n s d u w : ℕ) (h : X * (u * u) ≡ n * D) (g : s * u ≡ w * d) (pos-d : 0 < d) (pos-D : 0 < D) where
  four : 4 * X * (d * d) * (u * u) ≡ 4 * n * (d * d * D)
  four = mul_right_comm (4 * X) (d * d) (u * u) ∙ ap (λ (x : ℕ). x * (d * d)) (mul_assoc 4 X (u * u) ∙ ap (λ (x : ℕ). 4 * x) h ∙ sym (mul_assoc 4 n D)) ∙ mul_right_comm (4 * n) D (d * d) ∙ mul_assoc (4 * n) (d * d) D

  whole : s * s * D * (u * u) ≡ w * w * (d * d * D)
  whole = mul_right_comm (s * s) D (u * u) ∙ ap (λ (x : ℕ). x * D) (squares_over s d u w g) ∙ mul_assoc (w * w) (d * d) D

  larger : 4 * n < w * w → 4 * X * (d * d) < s * s * D
  larger l = lt_of_mul-lt-mul_right (u * u) (subst (λ (x : ℕ). x < s * s * D * (u * u)) (sym four) (subst (λ (x : ℕ). 4 * n * (d * d * D) < x) (sym whole) (mul-lt-mul_of_pos_right l (mul-pos (mul-pos pos-d pos-d) pos-D))))

  smaller : w * w < 4 * n → s * s * D < 4 * X * (d * d)
  smaller l = lt_of_mul-lt-mul_right (u * u) (subst (λ (x : ℕ). x < 4 * X * (d * d) * (u * u)) (sym whole) (subst (λ (x : ℕ). w * w * (d * d * D) < x) (sym four) (mul-lt-mul_of_pos_right l (mul-pos (mul-pos pos-d pos-d) pos-D))))

-- ---- values in units of the smallest
in_units : (y : Float) → T (fits binary64 y) → T (nonneg y) → (m : ℕ) × (j : ℕ) × (m < 2 ^ 53) × (num y * one ≡ m * 2 ^ j * den y)
in_units nan h p = absurd p
in_units (inf s) h p = absurd p
in_units (fin true m e) h p = absurd p
in_units (fin false zero e) h p = (0, 0, lit< tt, ap (λ (x : ℕ). x * one) (zero-mul (up e)) ∙ zero-mul one ∙ sym (zero-mul (down e)))
in_units (fin false (suc m) e) h p = let k = fit binary64 false m e h in let u = own_units (suc m) 1074 e k.low_end in (suc m, u.0, k.few, u.1)

units_finite : (q k : ℕ) → T (nonneg (units binary64 false q k)) → q * 2 ^ k < 2 ^ 2098
unfolding units
units_finite q k p = go (ltb (q * 2 ^ k) (2 ^ 2098)) (ltb→lt (q * 2 ^ k) (2 ^ 2098)) p
  where
    go : (b : Bool) → (T b → q * 2 ^ k < 2 ^ 2098) → T (nonneg (cond b (odd 54 false q k 1074) (inf false))) → q * 2 ^ k < 2 ^ 2098
    go true t p = t tt
    go false t p = absurd p

units_own : (q k : ℕ) → T (nonneg (units binary64 false q k)) → num (units binary64 false q k) * one ≡ q * 2 ^ k * den (units binary64 false q k)
units_own q k p = value→cross (units binary64 false q k) (q * 2 ^ k) one (units_val binary64 false q k (units_finite q k p))

-- ---- `root`, in units
form : (n : ℕ) (big : 2 ^ 106 ≤ n) → round_root binary64 n ≡ units binary64 false (nearest (q n big) (compare (4 * n) (twice n big * twice n big))) (k n big)
unfolding round_root
form n big = refl

ceiling : round binary64 false (2 ^ 512) 1 ≡ fin false 1 (pos 512)
unfolding round
ceiling = refl

module _ (m : ℕ) (e : ℤ) (held : T (fits binary64 (fin false (suc m) e))) where
  abbrev x : Float
  x = fin false (suc m) e

  abbrev n : ℕ
  n = squares m e held

  big : 2 ^ 106 ≤ n
  big = large m e held

  -- a middle has 54 digits, so its square has more than x has
  no_tie : 4 * n ≡ twice n big * twice n big → ⊥
  no_tie h =
      let o : ℕ = 2 * q n big + 1 in
      let s = sq_odd (q n big) in
      let d = digits n big in
      let few = (fit binary64 false m e held).few in
      let same : suc m ≡ o * o = (odd_pow (suc m) (o * o) ((grid m e held).0 + 1076) (k n big + k n big) (fit binary64 false m e held).odd (omega arith) (sym (four_is (suc m) (grid m e held).0) ∙ h ∙ squared o (k n big))).0 in
      omega arith
    where
      four_is : (a j : ℕ) → 4 * (a * 2 ^ j * one) ≡ a * 2 ^ (j + 1076)
      four_is a j = mul_comm 4 (a * 2 ^ j * one) ∙ mul_assoc (a * 2 ^ j) one 4 ∙ mul_assoc a (2 ^ j) (2 ^ 1076) ∙ ap (λ (y : ℕ). a * y) (sym (pow-add 2 j 1076))

      squared : (o k : ℕ) → o * 2 ^ k * (o * 2 ^ k) ≡ o * o * 2 ^ (k + k)
      squared o k = mul-mul-mul_comm o (2 ^ k) o (2 ^ k) ∙ ap (λ (y : ℕ). o * o * y) (sym (pow-add 2 k k))

  -- the root is below 2 ^ 512, so it is finite
  root_finite : T (nonneg (root x))
  root_finite =
      let r = root_round m e held in
      let h = (fit binary64 false m e held).high_end in
      let l : T (le (root x) (fin false 1 (pos 512))) = subst (λ (v : Float). T (le (root x) v)) ceiling (root_below m e held (2 ^ 512) 1 (zero-lt-suc 0) (le_trans (le_of_eq (mul-one (suc m * up e))) (le_of_lt h))) in
      subst (λ (v : Float). T (nonneg v)) (sym r.2) (round_nonneg binary64 r.0 r.1 (fin false 1 (pos 512)) tt (subst (λ (v : Float). T (le v (fin false 1 (pos 512)))) r.2 l))

  root_held : T (fits binary64 (root x))
  root_held = let r = root_round m e held in subst (λ (v : Float). T (fits binary64 v)) (sym r.2) (round-fits binary64 false r.0 r.1)

  abbrev whole_units : ℕ
  whole_units = nearest (q n big) (compare (4 * n) (twice n big * twice n big))

  abbrev r : Float
  r = units binary64 false whole_units (k n big)

  is : root x ≡ r
  is = root_is m e held ∙ form n big

  nearest_to : NearestRoot x (root x)
  nearest_to = subst (λ (v : Float). NearestRoot x v) (sym is) (record { held = fit_r; finite = plus; above = λ y h p l. over y h p l; below = λ y h p l. under y h p l })
    where
      fit_r : T (fits binary64 r)
      fit_r = subst (λ (v : Float). T (fits binary64 v)) is root_held

      plus : T (nonneg r)
      plus = subst (λ (v : Float). T (nonneg v)) is root_finite

      over : (y : Float) → T (fits binary64 y) → T (nonneg y) → T (lt r y) → 4 * num x * square (den r * den y) < square (sum_num r y) * den x
      over y h p l =
          let g = in_units y h p in
          let v = units_own whole_units (k n big) plus in
          larger (num x) (den x) n (sum_num r y) (den r * den y) one (whole_units * 2 ^ k n big + g.0 * 2 ^ g.1) (in_squares m e held)
          (total (num r) (num y) (den r) (den y) one (whole_units * 2 ^ k n big) (g.0 * 2 ^ g.1) v g.3)
          (mul-pos (den_pos r) (den_pos y)) (den_pos x)
          (beyond n big (whole_units * 2 ^ k n big) g.0 g.1 (rounded n big no_tie) g.2
          (order (num r) (num y) (den r) (den y) one (whole_units * 2 ^ k n big) (g.0 * 2 ^ g.1) v g.3 (pow_pos 1074) (lt_cross r y plus p (is_true (lt r y) l))))

      under : (y : Float) → T (fits binary64 y) → T (nonneg y) → T (lt y r) → square (sum_num r y) * den x < 4 * num x * square (den r * den y)
      under y h p l =
          let g = in_units y h p in
          let v = units_own whole_units (k n big) plus in
          smaller (num x) (den x) n (sum_num r y) (den r * den y) one (whole_units * 2 ^ k n big + g.0 * 2 ^ g.1) (in_squares m e held)
          (total (num r) (num y) (den r) (den y) one (whole_units * 2 ^ k n big) (g.0 * 2 ^ g.1) v g.3)
          (mul-pos (den_pos r) (den_pos y)) (den_pos x)
          (short n big (whole_units * 2 ^ k n big) g.0 g.1 (rounded n big no_tie) g.2
          (order (num y) (num r) (den y) (den r) one (g.0 * 2 ^ g.1) (whole_units * 2 ^ k n big) g.3 v (pow_pos 1074) (lt_cross y r p plus (is_true (lt y r) l))))

pub root_nearest : (x : Float) → T (fits binary64 x) → T (positive x) → NearestRoot x (root x)
root_nearest nan h p = absurd p
root_nearest (inf s) h p = absurd p
root_nearest (fin true m e) h p = absurd p
root_nearest (fin false zero e) h p = absurd p
root_nearest (fin false (suc m) e) h p = nearest_to m e h
