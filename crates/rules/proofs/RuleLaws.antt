-- Laws of refusal numbers, for loops that look for the first, and for what holds where there is none. Assumes nothing.
use Prim.Native.Nat.{ℕ, zero, suc, ◌+◌, ◌-◌, ◌≤◌, ◌<◌}
use mathlib.Core.Path.{◌≡◌, refl, sym, ap, ◌∙◌}
use mathlib.Core.Bool.{Bool, true, false, ◌&&◌, true≢false}
use native.Mathlib.Omega.{arith}
use native.Mathlib.Nat.{add-zero, zero-add, le_of_suc-le-suc}
use Rattle.rules.specs.Rules.{ask, or_else, first_refusal}

never : (m : ℕ) → suc m ≡ 0 → ⊥
never m e = omega arith

-- ---- one rule, and two

pub ask_kept : (t : Bool) (n : ℕ) → 0 < n → ask t n ≡ 0 → t ≡ true
ask_kept true n h e = refl
ask_kept false n h e = absurd (none n h e)
  where
    none : (n : ℕ) → 0 < n → n ≡ 0 → ⊥
    none n h e = omega arith

pub both_first : (a b : Bool) → (a && b) ≡ true → a ≡ true
both_first true b e = refl
both_first false b e = e

pub both_second : (a b : Bool) → (a && b) ≡ true → b ≡ true
both_second true b e = e
both_second false b e = absurd (true≢false (sym e))

pub else_broken : (a b : ℕ) → (a ≡ 0 → ⊥) → or_else a b ≡ a
else_broken zero b h = absurd (h refl)
else_broken (suc a) b h = refl

pub else_kept : (a b : ℕ) → a ≡ 0 → or_else a b ≡ b
else_kept a b e = rw e refl

pub else_first : (a b : ℕ) → or_else a b ≡ 0 → a ≡ 0
else_first zero b e = refl
else_first (suc a) b e = e

pub else_second : (a b : ℕ) → or_else a b ≡ 0 → b ≡ 0
else_second zero b e = e
else_second (suc a) b e = absurd (never a e)

-- ---- many: a loop that stands at the i-th of n, where the rest gives t, as all of them do

first_more : (f : ℕ → ℕ) (i n : ℕ) → 0 < n → first_refusal f i n ≡ or_else (f i) (first_refusal f (i + 1) (n - 1))
unfolding first_refusal
first_more f i zero h = absurd (none h)
  where
    none : 0 < 0 → ⊥
    none h = omega arith
first_more f i (suc n) h = ap (λ (k : ℕ). or_else (f i) (first_refusal f (i + 1) k)) (one n)
  where
    one : (n : ℕ) → n ≡ suc n - 1
    one n = omega arith

first_none : (f : ℕ → ℕ) (i n : ℕ) → n ≡ 0 → first_refusal f i n ≡ 0
unfolding first_refusal
first_none f i n e = rw e refl

module _ (f : ℕ → ℕ) (i n t : ℕ) (rest : first_refusal f i (n - i) ≡ t) where
  pub rest_next : i < n → f i ≡ 0 → first_refusal f (i + 1) (n - (i + 1)) ≡ t
  rest_next l e =
      let h : 0 < n - i = omega arith in
      let k : n - i - 1 ≡ n - (i + 1) = omega arith in
      ap (first_refusal f (i + 1)) (sym k)
      ∙ sym (else_kept (f i) (first_refusal f (i + 1) (n - i - 1)) e)
      ∙ sym (first_more f i (n - i) h)
      ∙ rest

  pub rest_broken : i < n → (f i ≡ 0 → ⊥) → f i ≡ t
  rest_broken l e =
      let h : 0 < n - i = omega arith in
      sym (else_broken (f i) (first_refusal f (i + 1) (n - i - 1)) e) ∙ sym (first_more f i (n - i) h) ∙ rest

  pub rest_none : n ≤ i → 0 ≡ t
  rest_none l =
      let k : n - i ≡ 0 = omega arith in
      sym (first_none f i (n - i) k) ∙ rest

-- where none is refused, each is kept
kept_from : (f : ℕ → ℕ) (i n k : ℕ) → first_refusal f i n ≡ 0 → k < n → f (i + k) ≡ 0
unfolding first_refusal
kept_from f i zero k e l = absurd (none k l)
  where
    none : (k : ℕ) → k < 0 → ⊥
    none k l = omega arith
kept_from f i (suc n) zero e l = ap f (add-zero i) ∙ else_first (f i) (first_refusal f (i + 1) n) e
kept_from f i (suc n) (suc k) e l =
    ap f (shift i k) ∙ kept_from f (i + 1) n k (else_second (f i) (first_refusal f (i + 1) n) e) (le_of_suc-le-suc l)
  where
    shift : (i k : ℕ) → i + suc k ≡ i + 1 + k
    shift i k = omega arith

pub each_kept : (f : ℕ → ℕ) (n : ℕ) → first_refusal f 0 n ≡ 0 → (k : ℕ) → k < n → f k ≡ 0
each_kept f n e k l = ap f (sym (zero-add k)) ∙ kept_from f 0 n k e l

-- rules that agree give one first refusal
pub first_alike : (f g : ℕ → ℕ) → ((i : ℕ) → f i ≡ g i) → (i n : ℕ) → first_refusal f i n ≡ first_refusal g i n
unfolding first_refusal
first_alike f g h i zero = refl
first_alike f g h i (suc n) = rw (h i, first_alike f g h (i + 1) n) refl
