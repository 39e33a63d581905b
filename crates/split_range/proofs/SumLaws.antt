-- Sums of numbers, and the bound for what is counted through slots that name each number once. Assumes nothing.
use Prim.Native.Nat.{ℕ, zero, suc, ◌+◌, ◌-◌, ◌≤◌, ◌<◌}
use mathlib.Core.Path.{◌≡◌, refl, ap, ◌∙◌, subst}
use mathlib.Core.Bool.{Bool, true, false, cond}
use native.Mathlib.Omega.{arith}
use native.Mathlib.Nat.{add-zero, add-suc}
use lib.Dec.{eqb}
use borrow.Author.Tests.{eqb-true, eqb-false}

-- f 0 up to f (n - 1)
unfoldable pub sum : (ℕ → ℕ) → ℕ → ℕ
sum f zero = 0
sum f (suc n) = sum f n + f n

sum_grows : (f : ℕ → ℕ) (m k : ℕ) → sum f m ≤ sum f (m + k)
unfolding sum
sum_grows f m zero = rw add-zero (omega arith)
sum_grows f m (suc k) =
    let h : sum f m ≤ sum f (m + k) = sum_grows f m k in
    rw (add-suc m k) (omega arith)

pub sum_rises : (f : ℕ → ℕ) (m n : ℕ) → m ≤ n → sum f m ≤ sum f n
sum_rises f m n l =
    let e : m + (n - m) ≡ n = omega arith in
    subst (λ (k : ℕ). sum f m ≤ sum f k) e (sum_grows f m (n - m))

sum_most : (f g : ℕ → ℕ) (n : ℕ) → ((i : ℕ) → i < n → f i ≤ g i) → sum f n ≤ sum g n
unfolding sum
sum_most f g zero h = omega arith
sum_most f g (suc n) h =
    let rest : sum f n ≤ sum g n = sum_most f g n (λ i l. h i (omega arith)) in
    let last : f n ≤ g n = h n (omega arith) in
    omega arith

sum_more : (f g : ℕ → ℕ) (n : ℕ) → ((i : ℕ) → f i ≤ suc (g i)) → sum f n ≤ n + sum g n
unfolding sum
sum_more f g zero h = omega arith
sum_more f g (suc n) h =
    let rest : sum f n ≤ n + sum g n = sum_more f g n h in
    let last : f n ≤ suc (g n) = h n in
    omega arith

-- ---- numbers that are named at most once

-- 0 at x
abbrev without : (ℕ → ℕ) → ℕ → ℕ → ℕ
without g x y = cond (eqb y x) 0 (g y)

without_most : (g : ℕ → ℕ) (x y : ℕ) → without g x y ≤ g y
without_most g x y = go (eqb y x)
  where
    go : (t : Bool) → cond t 0 (g y) ≤ g y
    go true = omega arith
    go false = omega arith

without_sum : (g : ℕ → ℕ) (x n : ℕ) → x < n → sum (without g x) n + g x ≤ sum g n
unfolding sum
without_sum g x zero l = absurd (none l)
  where
    none : x < 0 → ⊥
    none l = omega arith
without_sum g x (suc n) l = go (eqb n x) refl (λ h. without_sum g x n h)
  where
    most : sum (without g x) n ≤ sum g n
    most = sum_most (without g x) g n (λ i h. without_most g x i)

    go : (t : Bool) → eqb n x ≡ t → (x < n → sum (without g x) n + g x ≤ sum g n) → sum (without g x) n + cond t 0 (g n) + g x ≤ sum g n + g n
    go true e rest =
        let same : g n ≡ g x = ap g (eqb-true n x e) in
        let m = most in
        omega arith
    go false e rest =
        let ne : n ≡ x → ⊥ = eqb-false n x e in
        let r : sum (without g x) n + g x ≤ sum g n = rest (omega arith) in
        omega arith

-- k slots, slot i naming f i, which is below e; a number that two slots name has 0
sum_once : (f : ℕ → ℕ) (e k : ℕ) (g : ℕ → ℕ) → ((i : ℕ) → i < k → f i < e) → ((i j : ℕ) → i < j → j < k → f i ≡ f j → g (f j) ≡ 0) → sum (λ (i : ℕ). g (f i)) k ≤ sum g e
unfolding sum
sum_once f e zero g below once = omega arith
sum_once f e (suc k) g below once =
    let x : ℕ = f k in
    let rest : sum (λ (i : ℕ). without g x (f i)) k ≤ sum (without g x) e = sum_once f e k (without g x) (λ i l. below i (omega arith)) (λ i j l m q. zero_most (without_most g x (f j)) (once i j l (omega arith) q)) in
    let kept : sum (λ (i : ℕ). g (f i)) k ≤ sum (λ (i : ℕ). without g x (f i)) k = sum_most (λ (i : ℕ). g (f i)) (λ (i : ℕ). without g x (f i)) k (λ i l. keep i l (eqb (f i) x) refl) in
    let last : sum (without g x) e + g x ≤ sum g e = without_sum g x e (below k (omega arith)) in
    omega arith
  where
    zero_most : {a b : ℕ} → a ≤ b → b ≡ 0 → a ≡ 0
    zero_most h e = omega arith

    keep : (i : ℕ) → i < k → (t : Bool) → eqb (f i) (f k) ≡ t → g (f i) ≤ cond t 0 (g (f i))
    keep i l true q =
        let same : f i ≡ f k = eqb-true (f i) (f k) q in
        let none : g (f i) ≡ 0 = ap g same ∙ once i k l (omega arith) same in
        omega arith
    keep i l false q = omega arith

-- Number n has the slots from the (R n)-th up to the (R (suc n))-th, and g n is at most the sum of w over what they name. A number's w is at most one more than its g, the slots up to e's last name numbers below e, and one that two of them name has g 0. So the sum of g up to e is at most the number of these slots and the sum of g below e.
pub slots_most : (f R g w : ℕ → ℕ) (e : ℕ)
    → ((n : ℕ) → n ≤ e → sum (λ (i : ℕ). w (f i)) (R n) + g n ≤ sum (λ (i : ℕ). w (f i)) (R (suc n)))
    → ((o : ℕ) → w o ≤ suc (g o))
    → ((i : ℕ) → i < R (suc e) → f i < e)
    → ((i j : ℕ) → i < j → j < R (suc e) → f i ≡ f j → g (f j) ≡ 0)
    → g e ≤ R (suc e)
unfolding sum
slots_most f R g w e run one below once =
    let all : sum g e + g e ≤ sum (λ (i : ℕ). w (f i)) (R (suc e)) = through (suc e) (omega arith) in
    let more : sum (λ (i : ℕ). w (f i)) (R (suc e)) ≤ R (suc e) + sum (λ (i : ℕ). g (f i)) (R (suc e)) = sum_more (λ (i : ℕ). w (f i)) (λ (i : ℕ). g (f i)) (R (suc e)) (λ i. one (f i)) in
    let each : sum (λ (i : ℕ). g (f i)) (R (suc e)) ≤ sum g e = sum_once f e (R (suc e)) g below once in
    omega arith
  where
    through : (n : ℕ) → n ≤ suc e → sum g n ≤ sum (λ (i : ℕ). w (f i)) (R n)
    through zero l = omega arith
    through (suc n) l =
        let rest : sum g n ≤ sum (λ (i : ℕ). w (f i)) (R n) = through n (omega arith) in
        let next = run n (omega arith) in
        omega arith
