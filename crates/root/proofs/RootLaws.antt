-- `root x` is the real number √x, rounded as `round` rounds a fraction: a fraction that is no larger than √x rounds to a value that is no larger than `root x` (`root_above`), and one that is no smaller to one that is no smaller (`root_below`).
-- That fixes the value: where √x is a fraction, `root x` is what it rounds to; elsewhere √x is no middle between two values, so the fractions close to it, on both sides, all round to one value, which is `root x`. Assumes nothing.
use Rattle.std.proofs.Common.{◌≡◌, ℕ, zero, suc, ◌+◌, ◌-◌, ◌*◌, ◌/◌, ◌%◌, ◌^◌, ◌<◌, ◌≤◌, Bool, true, false, not, T, ltb, ◌⊎◌, ℤ, sym, refl, ap, ◌∙◌, subst, inl, inr, le_trans, le_of_eq, le_refl, lt_of_lt_of_le, le_of_suc-le-suc, lt_of_le_of_lt, le_of_lt, mul-le-mul_right, zero-lt-suc, mul_assoc, suc-mul, mul_comm, div-lt_iff_lt-mul, add-mul, mul-le-mul, le_antisymm, eq-or-lt_of_le, mul-lt-mul_of_pos_right, mul-pos, one-mul, pow-suc, lt_of_not-le, div-add-mod', le-div_iff_mul-le, mul_right_comm, not-le_of_lt, le_of_mul-le-mul_right, mul_left_comm, arith, lit≤, ltb→lt, nltb→le, pow_pos, pow_mono}
use Prim.Native.Nat.{compare, Ordering}
use native.Mathlib.Nat.{mul-mul-mul_comm, div-div-eq-div-mul}
use lib.Ieee.{Float, nan, inf, fin, binary64, up, down, size, nearest, units, round, le, fits}
use lib.Ieee.Digits.{size-lt}
use lib.Ieee.Fits.{round_is, round-fits, down_pos}
use lib.Ieee.Order.{round_mono}
use Rattle.root.specs.Isqrt.{isqrt}
use Rattle.root.specs.Root.{middle, round_root, root}
use Rattle.root.proofs.Squares.{sq_lt, sq_le, sq_double}
use Rattle.root.proofs.Roots.{isqrt_whole, Cmp, cmp, nearest_lt, nearest_eq, nearest_gt}
use Rattle.root.proofs.RootValues.{exact}
use Rattle.float.proofs.RoundLaws.{fit, own_units, round_nonneg}
use Rattle.float.proofs.NonNegLaws.{le_cross}
use Rattle.float.specs.Order.{f64_one, Unit01}

-- as many smallest values make 1
abbrev pub one : ℕ
one = 2 ^ 1074

-- ---- two comparisons that come out alike
same_side_law : (q a b c d : ℕ) → (a < b → c < d) → (a ≡ b → c ≡ d) → (b < a → d < c) → nearest q (compare a b) ≡ nearest q (compare c d)
same_side_law q a b c d x y z = go (compare a b) (cmp a b)
  where
    up_one : (q : ℕ) → suc q ≡ q + 1
    up_one q = omega arith

    go : (o : Ordering) → Cmp o a b → nearest q o ≡ nearest q (compare c d)
    go Ordering.lt h = sym (nearest_lt q c d (x h))
    go Ordering.eq h = sym (nearest_eq q c d (y h))
    go Ordering.gt h = up_one q ∙ sym (nearest_gt q c d (z h))

-- ---- a number is below another, or it is not
pub side : (r m : ℕ) → (r < m) ⊎ (m ≤ r)
side r m = go (ltb r m) (ltb→lt r m) (nltb→le r m)
  where
    go : (b : Bool) → (T b → r < m) → (T (not b) → m ≤ r) → (r < m) ⊎ (m ≤ r)
    go true x y = inl (x tt)
    go false x y = inr (y tt)

-- ---- √n, by its whole part R, of which k digits are dropped and q is kept; half is the middle between q * 2 ^ k and (q + 1) * 2 ^ k
module _ (n : ℕ) (big : 2 ^ 106 ≤ n) where
  abbrev R : ℕ
  R = isqrt n

  abbrev k : ℕ
  k = size R - 53

  abbrev q : ℕ
  q = R / 2 ^ k

  abbrev half : ℕ
  half = (2 * q + 1) * 2 ^ (k - 1)

  lo : R * R ≤ n
  lo = (isqrt_whole n).0

  hi : n < suc R * suc R
  hi = (isqrt_whole n).1

  pub long : 2 ^ 53 ≤ R
  long = le_of_suc-le-suc (sq_lt (2 ^ 53) (suc R) (lt_of_le_of_lt big hi))

  some : k ≡ suc (k - 1)
  some = is (size R) (lt_of_not-le (λ (g : size R ≤ 53). not-le_of_lt (lt_of_lt_of_le (size-lt R) (pow_mono g)) long))
    where
      is : (z : ℕ) → 53 < z → z - 53 ≡ suc (z - 53 - 1)
      is z h = omega arith

  middle_is : middle q k ≡ 2 * half
  middle_is = ap (λ (j : ℕ). (2 * q + 1) * 2 ^ j) some ∙ ap (λ (x : ℕ). (2 * q + 1) * x) (pow-suc 2 (k - 1) ∙ mul_comm (2 ^ (k - 1)) 2) ∙ mul_left_comm (2 * q + 1) 2 (2 ^ (k - 1))

  squared : middle q k * middle q k ≡ 4 * (half * half)
  squared = ap (λ (x : ℕ). x * x) middle_is ∙ sq_double half

  -- √n against the middle
  root_form : round_root binary64 n ≡ units binary64 false (nearest q (compare n (half * half))) k
  unfolding round_root
  root_form =
      ap (λ (x : ℕ). units binary64 false (nearest q (compare (4 * n) x)) k) squared
      ∙ ap (λ (x : ℕ). units binary64 false x k) (same_side_law q (4 * n) (4 * (half * half)) n (half * half) (less n (half * half)) (same n (half * half)) (less (half * half) n))
    where
      less : (a b : ℕ) → 4 * a < 4 * b → a < b
      less a b h = omega arith

      same : (a b : ℕ) → 4 * a ≡ 4 * b → a ≡ b
      same a b h = omega arith

  -- a fraction a / b, in smallest values, whose whole part is R too, against the middle
  round_form : (a b : ℕ) → 0 < b → R * b ≤ a * one → a * one < suc R * b → round binary64 false a b ≡ units binary64 false (nearest q (compare (a * one) (half * b))) k
  round_form a b B l h =
      round_is binary64 false a b
      ∙ ap (λ (w : ℕ). units binary64 false (nearest (a * one / (b * 2 ^ (size w - 53))) (compare (a * one % (b * 2 ^ (size w - 53)) * 2) (b * 2 ^ (size w - 53)))) (size w - 53)) whole
      ∙ ap (λ (x : ℕ). units binary64 false (nearest x (compare (a * one % (b * 2 ^ k) * 2) (b * 2 ^ k))) k) kept
      ∙ ap (λ (x : ℕ). units binary64 false x k)
      (same_side_law q (a * one % (b * 2 ^ k) * 2) (b * 2 ^ k) (a * one) (half * b)
      (λ g. down (a * one) (a * one % (b * 2 ^ k)) (q * (b * 2 ^ k)) (b * 2 ^ k) (half * b) parts twice g)
      (λ g. level (a * one) (a * one % (b * 2 ^ k)) (q * (b * 2 ^ k)) (b * 2 ^ k) (half * b) parts twice g)
      (λ g. over (a * one) (a * one % (b * 2 ^ k)) (q * (b * 2 ^ k)) (b * 2 ^ k) (half * b) parts twice g))
    where
      whole : a * one / b ≡ R
      whole = le_antisymm (le_of_suc-le-suc ((div-lt_iff_lt-mul B).1 h)) ((le-div_iff_mul-le B).1 l)

      kept : a * one / (b * 2 ^ k) ≡ q
      kept = sym (div-div-eq-div-mul (a * one) b (2 ^ k)) ∙ ap (λ (x : ℕ). x / 2 ^ k) whole

      parts : q * (b * 2 ^ k) + a * one % (b * 2 ^ k) ≡ a * one
      parts = ap (λ (x : ℕ). x * (b * 2 ^ k) + a * one % (b * 2 ^ k)) (sym kept) ∙ div-add-mod' (a * one) (b * 2 ^ k)

      -- twice half * b is (2 * q + 1) * (b * 2 ^ k)
      twice : 2 * (half * b) ≡ 2 * (q * (b * 2 ^ k)) + b * 2 ^ k
      twice = sym (mul_assoc 2 half b) ∙ ap (λ (x : ℕ). x * b) (sym middle_is) ∙ mul_assoc (2 * q + 1) (2 ^ k) b ∙ ap (λ (x : ℕ). (2 * q + 1) * x) (mul_comm (2 ^ k) b) ∙ add-mul (2 * q) 1 (b * 2 ^ k) ∙ ends (b * 2 ^ k)
        where
          ends : (u : ℕ) → 2 * q * u + 1 * u ≡ 2 * (q * u) + u
          ends u = ap (λ (x : ℕ). x + 1 * u) (mul_assoc 2 q u) ∙ ap (λ (x : ℕ). 2 * (q * u) + x) (one-mul u)

      down : (N r p u m : ℕ) → p + r ≡ N → 2 * m ≡ 2 * p + u → r * 2 < u → N < m
      down N r p u m e f g = omega arith

      level : (N r p u m : ℕ) → p + r ≡ N → 2 * m ≡ 2 * p + u → r * 2 ≡ u → N ≡ m
      level N r p u m e f g = omega arith

      over : (N r p u m : ℕ) → p + r ≡ N → 2 * m ≡ 2 * p + u → u < r * 2 → m < N
      over N r p u m e f g = omega arith

  -- where √n is the whole number R
  square : n ≡ R * R → round_root binary64 n ≡ round binary64 false R one
  square e =
      root_form
      ∙ ap (λ (x : ℕ). units binary64 false x k)
      (same_side_law q n (half * half) (R * one) (half * one)
      (λ g. mul-lt-mul_of_pos_right (sq_lt R half (subst (λ (x : ℕ). x < half * half) e g)) (pow_pos 1074))
      (λ g. ap (λ (x : ℕ). x * one) (sq_same R half (sym e ∙ g)))
      (λ g. mul-lt-mul_of_pos_right (sq_lt half R (subst (λ (x : ℕ). half * half < x) e g)) (pow_pos 1074)))
      ∙ sym (round_form R one (pow_pos 1074) (le_refl (R * one)) (mul-lt-mul_of_pos_right (Nat·suc R) (pow_pos 1074)))
    where
      Nat·suc : (r : ℕ) → r < suc r
      Nat·suc r = omega arith

      sq_same : (a b : ℕ) → a * a ≡ b * b → a ≡ b
      sq_same a b h = le_antisymm (sq_le a b (le_of_eq h)) (sq_le b a (le_of_eq (sym h)))

  -- where it lies above R, each fraction between R and R + 1 smallest values rounds alike
  cell : R * R < n → (a b : ℕ) → 0 < b → R * b < a * one → a * one < suc R * b → round binary64 false a b ≡ round_root binary64 n
  cell above a b B l h = round_form a b B (le_of_lt l) h ∙ ap (λ (x : ℕ). units binary64 false x k) (pick (side R half)) ∙ sym root_form
    where
      pick : (suc R ≤ half) ⊎ (half ≤ R) → nearest q (compare (a * one) (half * b)) ≡ nearest q (compare n (half * half))
      pick (inl g) = nearest_lt q (a * one) (half * b) (lt_of_lt_of_le h (mul-le-mul_right b g)) ∙ sym (nearest_lt q n (half * half) (lt_of_lt_of_le hi (mul-le-mul g g)))
      pick (inr g) = nearest_gt q (a * one) (half * b) (lt_of_le_of_lt (mul-le-mul_right b g) l) ∙ sym (nearest_gt q n (half * half) (lt_of_le_of_lt (mul-le-mul g g) above))

  -- R + 1 / 2 smallest values
  abbrev inner : Float
  inner = round binary64 false (2 * R + 1) (2 * one)

  inner_is : R * R < n → inner ≡ round_root binary64 n
  inner_is above = cell above (2 * R + 1) (2 * one) (mul-pos (zero-lt-suc 1) (pow_pos 1074)) (below R one (pow_pos 1074)) (over R one (pow_pos 1074))
    where
      below : (r u : ℕ) → 0 < u → r * (2 * u) < (2 * r + 1) * u
      below r u h = let x = add-mul (2 * r) 1 u in let y : r * (2 * u) ≡ 2 * r * u = sym (mul_assoc r 2 u) ∙ ap (λ (z : ℕ). z * u) (mul_comm r 2) in let z = one-mul u in omega arith

      over : (r u : ℕ) → 0 < u → (2 * r + 1) * u < suc r * (2 * u)
      over r u h = let x = add-mul (2 * r) 1 u in let y : suc r * (2 * u) ≡ 2 * suc r * u = sym (mul_assoc (suc r) 2 u) ∙ ap (λ (z : ℕ). z * u) (mul_comm (suc r) 2) in let t : 2 * suc r * u ≡ 2 * r * u + 2 * u = ap (λ (z : ℕ). z * u) (two r) ∙ add-mul (2 * r) 2 u in let z = one-mul u in omega arith
        where
          two : (r : ℕ) → 2 * suc r ≡ 2 * r + 2
          two r = omega arith

  le_same : (x y : Float) → x ≡ y → T (le x x) → T (le x y)
  le_same x y e h = subst (λ (v : Float). T (le x v)) e h

  round_self : (a b : ℕ) → 0 < b → T (le (round binary64 false a b) (round binary64 false a b))
  round_self a b B = round_mono binary64 a b a b B B (le_refl (a * b))

  root_ge : (a b : ℕ) → 0 < b → a * one * (a * one) ≤ n * (b * b) → T (le (round binary64 false a b) (round_root binary64 n))
  root_ge a b B h = elim (eq-or-lt_of_le lo) [
    | inl e ↦
        subst (λ (v : Float). T (le (round binary64 false a b) v)) (sym (square (sym e)))
        (round_mono binary64 a b R one B (pow_pos 1074) (sq_le (a * one) (R * b) (le_trans h (le_of_eq (ap (λ (x : ℕ). x * (b * b)) (sym e) ∙ mul-mul-mul_comm R R b b)))))
    | inr above ↦ elim (side (R * b) (a * one)) [
      | inl l ↦ le_same (round binary64 false a b) (round_root binary64 n) (cell above a b B l (sq_lt (a * one) (suc R * b) (lt_of_le_of_lt h (lt_of_lt_of_le (mul-lt-mul_of_pos_right hi (mul-pos B B)) (le_of_eq (mul-mul-mul_comm (suc R) (suc R) b b)))))) (round_self a b B)
      | inr g ↦ subst (λ (v : Float). T (le (round binary64 false a b) v)) (inner_is above) (round_mono binary64 a b (2 * R + 1) (2 * one) B (mul-pos (zero-lt-suc 1) (pow_pos 1074)) (below a R b one g))
    ]
  ]
    where
      below : (a r b u : ℕ) → a * u ≤ r * b → a * (2 * u) ≤ (2 * r + 1) * b
      below a r b u g = let x : a * (2 * u) ≡ 2 * (a * u) = mul_left_comm a 2 u in let y = add-mul (2 * r) 1 b in let z : 2 * r * b ≡ 2 * (r * b) = mul_assoc 2 r b in omega arith

  root_le : (a b : ℕ) → 0 < b → n * (b * b) ≤ a * one * (a * one) → T (le (round_root binary64 n) (round binary64 false a b))
  root_le a b B h = elim (eq-or-lt_of_le lo) [
    | inl e ↦
        subst (λ (v : Float). T (le v (round binary64 false a b))) (sym (square (sym e)))
        (round_mono binary64 R one a b (pow_pos 1074) B (sq_le (R * b) (a * one) (le_trans (le_of_eq (mul-mul-mul_comm R b R b ∙ ap (λ (x : ℕ). x * (b * b)) e)) h)))
    | inr above ↦ elim (side (a * one) (suc R * b)) [
      | inl l ↦
          subst (λ (v : Float). T (le v (round binary64 false a b)))
          (cell above a b B (sq_lt (R * b) (a * one) (lt_of_lt_of_le (lt_of_le_of_lt (le_of_eq (mul-mul-mul_comm R b R b)) (mul-lt-mul_of_pos_right above (mul-pos B B))) h)) l)
          (round_self a b B)
      | inr g ↦ subst (λ (v : Float). T (le v (round binary64 false a b))) (inner_is above) (round_mono binary64 (2 * R + 1) (2 * one) a b (mul-pos (zero-lt-suc 1) (pow_pos 1074)) B (over a R b one g))
    ]
  ]
    where
      over : (a r b u : ℕ) → suc r * b ≤ a * u → (2 * r + 1) * b ≤ a * (2 * u)
      over a r b u g = let x : a * (2 * u) ≡ 2 * (a * u) = mul_left_comm a 2 u in let y = add-mul (2 * r) 1 b in let z : 2 * r * b ≡ 2 * (r * b) = mul_assoc 2 r b in let t : suc r * b ≡ r * b + b = suc-mul r b in omega arith

  -- it is what some fraction rounds to
  some_round : (a : ℕ) × (c : ℕ) × (round_root binary64 n ≡ round binary64 false a c)
  some_round = elim (eq-or-lt_of_le lo) [ inl e ↦ (R, one, square (sym e)) | inr above ↦ (2 * R + 1, 2 * one, sym (inner_is above)) ]

-- ---- the law, of a value x that is (suc m) * 2 ^ e
module _ (m : ℕ) (e : ℤ) (held : T (fits binary64 (fin false (suc m) e))) where
  -- x in smallest values, and n in squares of them
  abbrev pub grid : (j : ℕ) × (suc m * up e * one ≡ suc m * 2 ^ j * down e)
  grid = own_units (suc m) 1074 e (fit binary64 false m e held).low_end

  abbrev pub squares : ℕ
  squares = suc m * 2 ^ grid.0 * one

  pub root_is : root (fin false (suc m) e) ≡ round_root binary64 squares
  unfolding root
  root_is = ap (round_root binary64) (exact (suc m) (suc m * 2 ^ grid.0) e grid.1)

  pub large : 2 ^ 106 ≤ squares
  large = le_trans (lit≤ tt) (le_trans (le_of_eq (sym (one-mul one))) (mul-le-mul_right one (mul-pos (zero-lt-suc m) (pow_pos grid.0))))

  -- squares * down e is x's numerator times one * one
  pub in_squares : suc m * up e * (one * one) ≡ squares * down e
  in_squares = sym (mul_assoc (suc m * up e) one one) ∙ ap (λ (x : ℕ). x * one) grid.1 ∙ mul_right_comm (suc m * 2 ^ grid.0) (down e) one

  scaled : (b : ℕ) → suc m * up e * (b * b) * (one * one) ≡ squares * (b * b) * down e
  scaled b = mul_right_comm (suc m * up e) (b * b) (one * one) ∙ ap (λ (x : ℕ). x * (b * b)) in_squares ∙ mul_right_comm squares (down e) (b * b)

  lifted : (a : ℕ) → a * a * down e * (one * one) ≡ a * one * (a * one) * down e
  lifted a = mul_right_comm (a * a) (down e) (one * one) ∙ ap (λ (x : ℕ). x * down e) (mul-mul-mul_comm a a one one)

  pub root_above : (a b : ℕ) → 0 < b → a * a * down e ≤ suc m * up e * (b * b) → T (le (round binary64 false a b) (root (fin false (suc m) e)))
  root_above a b B h =
      subst (λ (v : Float). T (le (round binary64 false a b) v)) (sym root_is)
      (root_ge squares large a b B (le_of_mul-le-mul_right {k = down e} (le_trans (le_of_eq (sym (lifted a))) (le_trans (mul-le-mul_right (one * one) h) (le_of_eq (scaled b)))) (down_pos e)))

  pub root_below : (a b : ℕ) → 0 < b → suc m * up e * (b * b) ≤ a * a * down e → T (le (root (fin false (suc m) e)) (round binary64 false a b))
  root_below a b B h =
      subst (λ (v : Float). T (le v (round binary64 false a b))) (sym root_is)
      (root_le squares large a b B (le_of_mul-le-mul_right {k = down e} (le_trans (le_of_eq (sym (scaled b))) (le_trans (mul-le-mul_right (one * one) h) (le_of_eq (lifted a)))) (down_pos e)))

  pub root_round : (a : ℕ) × (c : ℕ) × (root (fin false (suc m) e) ≡ round binary64 false a c)
  root_round = let r = some_round squares large in (r.0, r.1, root_is ∙ r.2)

-- ---- the root of a value from 0 to 1 is such a value
one_is : round binary64 false 1 1 ≡ f64_one
unfolding round
one_is = refl

root_high : (m : ℕ) (e : ℤ) → Unit01 (fin false (suc m) e) → T (le (root (fin false (suc m) e)) f64_one)
root_high m e u =
    subst (λ (v : Float). T (le (root (fin false (suc m) e)) v)) one_is
    (root_below m e u.held 1 1 (zero-lt-suc 0) (le_cross (fin false (suc m) e) f64_one tt tt u.high))

root_zero : (e : ℤ) → root (fin false zero e) ≡ fin false zero e
unfolding root
root_zero e = refl

pub root_unit : (x : Float) → Unit01 x → Unit01 (root x)
root_unit nan u = absurd u.low
root_unit (inf s) u = absurd u.low
root_unit (fin true m e) u = absurd u.low
root_unit (fin false zero e) u = subst Unit01 (sym (root_zero e)) u
root_unit (fin false (suc m) e) u =
    let r = root_round m e u.held in
    let h : T (le (round binary64 false r.0 r.1) f64_one) = subst (λ (v : Float). T (le v f64_one)) r.2 (root_high m e u) in
    subst Unit01 (sym r.2) (record { held = round-fits binary64 false r.0 r.1; low = round_nonneg binary64 r.0 r.1 f64_one tt h; high = h })
