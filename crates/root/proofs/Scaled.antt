-- The numbers of `scaled_root`. Assumes nothing.
use Rattle.std.proofs.Common.{◌≡◌, ℕ, zero, suc, ◌+◌, ◌-◌, ◌*◌, ◌/◌, ◌%◌, ◌^◌, ◌<◌, ◌≤◌, false, sym, refl, ap, ◌∙◌, subst, le_trans, le_of_eq, lt_of_lt_of_le, le_of_suc-le-suc, lt_of_le_of_lt, mod-lt, mod-eq_of_lt, zero-lt-suc, mul_assoc, mul-le-mul, mul-one, arith, lit≤, pow-add}
use lib.Ieee.{binary64, units}
use Rattle.root.specs.Root.{round_root}
use Rattle.root.specs.Digits.{RootDigits, Shift, rounded_by, rounded_half}
use Rattle.root.proofs.Squares.{sq_lt, sq_suc}
use Rattle.root.proofs.Roots.{round_root_law}

-- ---- d moved left, and once more where p is odd
abbrev pub word : ℕ → ℕ → ℕ → ℕ
word d s p = d * 2 ^ s % 0x1_0000_0000_0000_0000 * (1 + p % 2)

moved : (d s : ℕ) → Shift d s → d * 2 ^ s % 0x1_0000_0000_0000_0000 ≡ d * 2 ^ s
moved d s h = mod-eq_of_lt (lt_of_lt_of_le h.low (lit≤ tt))

twice : (p : ℕ) → 1 + p % 2 ≤ 2
twice p = omega arith

pub word_lt : (d s p : ℕ) → Shift d s → word d s p < 2 ^ 54
word_lt d s p h =
    subst (λ (m : ℕ). m * (1 + p % 2) < 2 ^ 54) (sym (moved d s h))
    (lt_of_le_of_lt (mul-le-mul {n₂ = d * 2 ^ s} (le_of_eq refl) (twice p)) (double (d * 2 ^ s) h.low))
  where
    double : (m : ℕ) → m < 2 ^ 53 → m * 2 < 2 ^ 54
    double m h = omega arith

word_ge : (d s p : ℕ) → Shift d s → 2 ^ 52 ≤ word d s p
word_ge d s p h = subst (λ (m : ℕ). 2 ^ 52 ≤ m * (1 + p % 2)) (sym (moved d s h)) (le_trans h.high (le_trans (le_of_eq (sym (mul-one (d * 2 ^ s)))) (mul-le-mul {n₂ = d * 2 ^ s} (le_of_eq refl) (once p))))
  where
    once : (p : ℕ) → 1 ≤ 1 + p % 2
    once p = omega arith

-- ---- the root has 54 digits
digits_ge : (w digits rest : ℕ) → 2 ^ 52 ≤ w → RootDigits w digits rest → 2 ^ 53 ≤ digits
digits_ge w digits rest h l =
    le_of_suc-le-suc (subst (λ (x : ℕ). 2 ^ 53 < x) (one digits) (sq_lt (2 ^ 53) (digits + 1) (let s = sq_suc digits in let e = l.whole in let b = l.small in omega arith)))
  where
    one : (r : ℕ) → r + 1 ≡ suc r
    one r = omega arith

-- ---- half of it, rounded, has 53, or is 2 ^ 53
by_ge : (o q rest : ℕ) → q ≤ rounded_by o q rest
by_ge zero q rest = le_of_eq refl
by_ge (suc o) q zero = omega arith
by_ge (suc o) q (suc rest) = omega arith

by_le : (o q rest : ℕ) → rounded_by o q rest ≤ q + 1
by_le zero q rest = omega arith
by_le (suc o) q zero = omega arith
by_le (suc o) q (suc rest) = omega arith

rounded_ge : (digits rest : ℕ) → 2 ^ 53 ≤ digits → 2 ^ 52 ≤ rounded_half digits rest
rounded_ge digits rest h = le_trans (half digits h) (by_ge (digits % 2) (digits / 2) rest)
  where
    half : (r : ℕ) → 2 ^ 53 ≤ r → 2 ^ 52 ≤ r / 2
    half r h = omega arith

rounded_le : (digits rest : ℕ) → digits < 2 ^ 54 → rounded_half digits rest ≤ 2 ^ 53
rounded_le digits rest h = le_trans (by_le (digits % 2) (digits / 2) rest) (half digits h)
  where
    half : (r : ℕ) → r < 2 ^ 54 → r / 2 + 1 ≤ 2 ^ 53
    half r h = omega arith

-- ---- d * 2 ^ e is the word times 4 ^ (p / 2), for p = e - s
one_or_two : (b : ℕ) → b < 2 → 2 ^ b ≡ 1 + b
one_or_two zero h = refl
one_or_two (suc zero) h = refl
one_or_two (suc (suc b)) h = absurd (no b h)
  where
    no : (b : ℕ) → suc (suc b) < 2 → ⊥
    no b h = omega arith

power : (p z : ℕ) → p / 2 ≡ 27 + z → 2 ^ p ≡ (1 + p % 2) * (2 ^ 54 * (2 ^ z * 2 ^ z))
power p z e =
    ap (λ (k : ℕ). 2 ^ k) (split p z e)
    ∙ pow-add 2 (p % 2) (54 + (z + z))
    ∙ ap (λ (x : ℕ). x * 2 ^ (54 + (z + z))) (one_or_two (p % 2) (mod-lt p (zero-lt-suc 1)))
    ∙ ap (λ (x : ℕ). (1 + p % 2) * x) (pow-add 2 54 (z + z) ∙ ap (λ (x : ℕ). 2 ^ 54 * x) (pow-add 2 z z))
  where
    split : (p z : ℕ) → p / 2 ≡ 27 + z → p ≡ p % 2 + (54 + (z + z))
    split p z e = omega arith

number : (d s e p z : ℕ) → Shift d s → s + p ≡ e → p / 2 ≡ 27 + z → d * 2 ^ e ≡ word d s p * 2 ^ 54 * (2 ^ z * 2 ^ z)
number d s e p z h se pz =
    ap (λ (k : ℕ). d * 2 ^ k) (sym se)
    ∙ ap (λ (x : ℕ). d * x) (pow-add 2 s p)
    ∙ sym (mul_assoc d (2 ^ s) (2 ^ p))
    ∙ ap (λ (x : ℕ). d * 2 ^ s * x) (power p z pz)
    ∙ ap (λ (x : ℕ). x * ((1 + p % 2) * (2 ^ 54 * (2 ^ z * 2 ^ z)))) (sym (moved d s h))
    ∙ sym (mul_assoc (d * 2 ^ s % 0x1_0000_0000_0000_0000) (1 + p % 2) (2 ^ 54 * (2 ^ z * 2 ^ z)))
    ∙ sym (mul_assoc (word d s p) (2 ^ 54) (2 ^ z * 2 ^ z))

pub scaled : (d s e p digits rest : ℕ) → Shift d s → s + p ≡ e → 54 ≤ p → RootDigits (word d s p) digits rest
    → units binary64 false (rounded_half digits rest) (p / 2 - 26) ≡ round_root binary64 (d * 2 ^ e)
scaled d s e p digits rest h se big l =
    let z = p / 2 - 27 in
    ap (λ (k : ℕ). units binary64 false (rounded_half digits rest) k) (last p big)
    ∙ sym (round_root_law digits rest z (d * 2 ^ e) l.small (digits_ge (word d s p) digits rest (word_ge d s p h) l) l.bound
    (number d s e p z h se (first p big) ∙ ap (λ (x : ℕ). x * (2 ^ z * 2 ^ z)) (sym l.whole)))
  where
    last : (p : ℕ) → 54 ≤ p → p / 2 - 26 ≡ suc (p / 2 - 27)
    last p h = omega arith

    first : (p : ℕ) → 54 ≤ p → p / 2 ≡ 27 + (p / 2 - 27)
    first p h = omega arith

pub range : (d s p digits rest : ℕ) → Shift d s → p < 3120 → RootDigits (word d s p) digits rest → (2 ^ 52 ≤ rounded_half digits rest) × (rounded_half digits rest ≤ 2 ^ 53) × (p / 2 - 26 < 2000)
range d s p digits rest h small l = (rounded_ge digits rest (digits_ge (word d s p) digits rest (word_ge d s p h) l), rounded_le digits rest l.bound, omega arith)
