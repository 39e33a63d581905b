-- Differences of natural numbers as integers, and the float of a negative integer. Assumes nothing.
use Rattle.std.proofs.Common.{◌≡◌, ℕ, zero, suc, ◌+◌, ◌-◌, ◌*◌, ◌/◌, ◌%◌, ◌^◌, ◌<◌, ◌≤◌, Bool, true, false, cond, not, T, ltb, ℤ, pos, negsuc, ◌+ℤ◌, ◌-ℤ◌, sym, refl, ap, ◌∙◌, arith, ltb→lt, nltb→le}
use Prim.Native.Nat.{compare}
use lib.IntN.{sub_ℕ}
use lib.Signed.{mag}
use lib.Ieee.{inf, Format, prec, emax, low, size, nearest, odd, units, round, neg, of_int}
use lib.Ieee.Fits.{round_is}
use Rattle.float.specs.Integers.{offset}

-- ---- a - b ≡ c - d, where a + d ≡ c + b
pub subℕ_eq : (a b c d : ℕ) → a + d ≡ c + b → sub_ℕ a b ≡ sub_ℕ c d
subℕ_eq a b c d e = go (ltb a b) (ltb c d) (ltb→lt a b) (nltb→le a b) (ltb→lt c d) (nltb→le c d)
  where
    neg_same : a < b → b - suc a ≡ d - suc c
    neg_same h = omega arith

    pos_same : b ≤ a → a - b ≡ c - d
    pos_same h = omega arith

    left : a < b → d ≤ c → ⊥
    left h k = omega arith

    right : b ≤ a → c < d → ⊥
    right h k = omega arith

    go : (s t : Bool) → (T s → a < b) → (T (not s) → b ≤ a) → (T t → c < d) → (T (not t) → d ≤ c)
        → cond s (negsuc (b - suc a)) (pos (a - b)) ≡ cond t (negsuc (d - suc c)) (pos (c - d))
    go true true h k l m = ap negsuc (neg_same (h tt))
    go true false h k l m = absurd (left (h tt) (m tt))
    go false true h k l m = absurd (right (k tt) (l tt))
    go false false h k l m = ap pos (pos_same (k tt))

-- a - b where it is d, and where it is - (d + 1)
pub subℕ_pos : (a b d : ℕ) → d + b ≡ a → sub_ℕ a b ≡ pos d
subℕ_pos a b d e = go (ltb a b) (ltb→lt a b)
  where
    no : a < b → ⊥
    no h = omega arith

    is : a - b ≡ d
    is = omega arith

    go : (s : Bool) → (T s → a < b) → cond s (negsuc (b - suc a)) (pos (a - b)) ≡ pos d
    go true h = absurd (no (h tt))
    go false h = ap pos is

pub subℕ_neg : (a b d : ℕ) → suc d + a ≡ b → sub_ℕ a b ≡ negsuc d
subℕ_neg a b d e = go (ltb a b) (nltb→le a b)
  where
    no : b ≤ a → ⊥
    no h = omega arith

    is : b - suc a ≡ d
    is = omega arith

    go : (s : Bool) → (T (not s) → b ≤ a) → cond s (negsuc (b - suc a)) (pos (a - b)) ≡ negsuc d
    go true h = ap negsuc is
    go false h = absurd (no (h tt))

-- a number added
pub subℕ_add : (a b p : ℕ) → sub_ℕ a b +ℤ pos p ≡ sub_ℕ (a + p) b
subℕ_add a b p = go (ltb a b) (ltb→lt a b) (nltb→le a b)
  where
    one : a < b → p + b ≡ a + p + suc (b - suc a)
    one h = omega arith

    two : b ≤ a → a - b + p + b ≡ a + p
    two h = omega arith

    go : (s : Bool) → (T s → a < b) → (T (not s) → b ≤ a) → cond s (negsuc (b - suc a)) (pos (a - b)) +ℤ pos p ≡ sub_ℕ (a + p) b
    go true h k = subℕ_eq p (suc (b - suc a)) (a + p) b (one (h tt))
    go false h k = sym (subℕ_pos (a + p) b (a - b + p) (two (k tt)))

-- ---- two numbers of 64 bits, each moved up by 2 ^ 63
moved : (a b : ℤ) → mag a < 2 ^ 63 → mag b < 2 ^ 63 → a -ℤ b ≡ sub_ℕ (offset a) (offset b)
moved (pos m) (pos zero) h k = sym (subℕ_pos (2 ^ 63 + m) (2 ^ 63 + 0) (m + 0) (omega arith))
moved (pos m) (pos (suc n)) h k = subℕ_eq m (suc n) (2 ^ 63 + m) (2 ^ 63 + suc n) (omega arith)
moved (pos m) (negsuc n) h k = sym (subℕ_pos (2 ^ 63 + m) (2 ^ 63 - suc n) (m + suc n) (omega arith))
moved (negsuc m) (pos zero) h k = subℕ_eq 0 (suc m) (2 ^ 63 - suc m) (2 ^ 63 + 0) (omega arith)
moved (negsuc m) (pos (suc n)) h k = sym (subℕ_neg (2 ^ 63 - suc m) (2 ^ 63 + suc n) (suc (m + n)) (omega arith))
moved (negsuc m) (negsuc n) h k = subℕ_eq (suc n) (suc m) (2 ^ 63 - suc m) (2 ^ 63 - suc n) (omega arith)

pub difference : (a b : ℤ) (p : ℕ) → mag a < 2 ^ 63 → mag b < 2 ^ 63 → a -ℤ b +ℤ pos p ≡ sub_ℕ (offset a + p) (offset b)
difference a b p h k = ap (λ (z : ℤ). z +ℤ pos p) (moved a b h k) ∙ subℕ_add (offset a) (offset b) p

-- ---- a negative fraction rounds as its size does
odd_neg : (d q k l : ℕ) → odd d true q k l ≡ neg (odd d false q k l)
unfolding odd neg
odd_neg d zero k l = refl
odd_neg d (suc q) k l = refl

units_neg : (f : Format) (q k : ℕ) → units f true q k ≡ neg (units f false q k)
unfolding units neg
units_neg f q k = go (ltb (q * 2 ^ k) (2 ^ (low f + suc (emax f))))
  where
    go : (b : Bool) → cond b (odd (suc (prec f)) true q k (low f)) (inf true) ≡ neg (cond b (odd (suc (prec f)) false q k (low f)) (inf false))
    go true = odd_neg (suc (prec f)) q k (low f)
    go false = refl

pub round_neg : (f : Format) (n d : ℕ) → round f true n d ≡ neg (round f false n d)
round_neg f n d =
    let w = n * 2 ^ low f in
    let k = size (w / d) - prec f in
    let u = d * 2 ^ k in
    round_is f true n d ∙ units_neg f (nearest (w / u) (compare (w % u * 2) u)) k ∙ ap neg (sym (round_is f false n d))

pub of_int_neg : (f : Format) (d : ℕ) → of_int f (negsuc d) ≡ neg (of_int f (pos (suc d)))
unfolding of_int
of_int_neg f d = round_neg f (suc d) 1
