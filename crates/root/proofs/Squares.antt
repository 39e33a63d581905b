-- Squares of whole numbers, and a step of the root digit by digit. Assumes nothing.
use Rattle.std.proofs.Common.{◌≡◌, ℕ, suc, ◌+◌, ◌-◌, ◌*◌, ◌^◌, ◌<◌, ◌≤◌, ap, ◌∙◌, lt_of_lt_of_le, le_of_suc-le-suc, lt_of_le_of_lt, le_of_lt, mul_comm, add-mul, mul-le-mul, mul-le-mul_left, mul-lt-mul_of_pos_right, pow-suc, lt_of_not-le, mul-add, not-le_of_lt, mul_left_comm, add-one, arith, pow_mono}
use native.Mathlib.Nat.{mul-mul-mul_comm}

-- ---- (a + 1) ^ 2, (2 * a) ^ 2 and (2 * a + 1) ^ 2
pub sq_suc : (a : ℕ) → (a + 1) * (a + 1) ≡ a * a + 2 * a + 1
sq_suc a = mul-add (a + 1) a 1 ∙ ap (λ (x : ℕ). x + (a + 1) * 1) (add-mul a 1 a) ∙ tidy (a * a) a
  where
    tidy : (s a : ℕ) → s + 1 * a + (a + 1) * 1 ≡ s + 2 * a + 1
    tidy s a = omega arith

pub sq_double : (a : ℕ) → 2 * a * (2 * a) ≡ 4 * (a * a)
sq_double a = mul-mul-mul_comm 2 a 2 a

pub sq_odd : (a : ℕ) → (2 * a + 1) * (2 * a + 1) ≡ 4 * (a * a) + 4 * a + 1
sq_odd a = let s = sq_suc (2 * a) in let d = sq_double a in omega arith

pub sq_sum : (x b : ℕ) → (x + b) * (x + b) ≡ x * x + 2 * (x * b) + b * b
sq_sum x b = mul-add (x + b) x b ∙ tidy ((x + b) * x) (add-mul x b x) ((x + b) * b) (add-mul x b b)
  where
    tidy : (p : ℕ) → p ≡ x * x + b * x → (q : ℕ) → q ≡ x * b + b * b → p + q ≡ x * x + 2 * (x * b) + b * b
    tidy p e q f = let c = mul_comm b x in omega arith

-- ---- the order of squares
pub sq_lt : (a b : ℕ) → a * a < b * b → a < b
sq_lt a b h = lt_of_not-le (λ (g : b ≤ a). not-le_of_lt h (mul-le-mul g g))

pub sq_less : (a b : ℕ) → a < b → a * a < b * b
sq_less a b h = lt_of_le_of_lt (mul-le-mul_left a (le_of_lt h)) (mul-lt-mul_of_pos_right h (pos_of a b h))
  where
    pos_of : (a b : ℕ) → a < b → 0 < b
    pos_of a b h = omega arith

pub sq_le : (a b : ℕ) → a * a ≤ b * b → a ≤ b
sq_le a b h = le_of_suc-le-suc (lt_of_not-le (λ (g : suc b ≤ a). not-le_of_lt (sq_less b a g) h))

-- ---- r and rest are the root of w * 4 ^ i, and what is left
abbrev pub Near : ℕ → ℕ → ℕ → ℕ → Type 0
Near w i r rest = (r * r + rest ≡ w * 4 ^ i) × (rest ≤ 2 * r) × (r < 2 ^ 27 * 2 ^ i) × (i ≤ 27)

more_four : (w i : ℕ) → w * 4 ^ (i + 1) ≡ 4 * (w * 4 ^ i)
more_four w i = ap (λ (k : ℕ). w * 4 ^ k) (add-one i) ∙ ap (λ (x : ℕ). w * x) (pow-suc 4 i ∙ mul_comm (4 ^ i) 4) ∙ mul_left_comm w 4 (4 ^ i)

more_two : (c i : ℕ) → c * 2 ^ (i + 1) ≡ 2 * (c * 2 ^ i)
more_two c i = ap (λ (k : ℕ). c * 2 ^ k) (add-one i) ∙ ap (λ (x : ℕ). c * x) (pow-suc 2 i ∙ mul_comm (2 ^ i) 2) ∙ mul_left_comm c 2 (2 ^ i)

pub near_up : (w i r rest : ℕ) → i < 27 → Near w i r rest → 4 * r + 1 ≤ 4 * rest → Near w (i + 1) (2 * r + 1) (4 * rest - (4 * r + 1))
near_up w i r rest l n h =
    let s = sq_odd r in
    let f = more_four w i in
    let t = more_two (2 ^ 27) i in
    (omega arith, omega arith, omega arith, omega arith)

pub near_same : (w i r rest : ℕ) → i < 27 → Near w i r rest → 4 * rest < 4 * r + 1 → Near w (i + 1) (2 * r) (4 * rest)
near_same w i r rest l n h =
    let s = sq_double r in
    let f = more_four w i in
    let t = more_two (2 ^ 27) i in
    (omega arith, omega arith, omega arith, omega arith)

pub near_bound : (w i r rest : ℕ) → Near w i r rest → r < 2 ^ 54
near_bound w i r rest n = lt_of_lt_of_le n.2 (mul-le-mul_left (2 ^ 27) (pow_mono {i = i} {j = 27} n.3))
