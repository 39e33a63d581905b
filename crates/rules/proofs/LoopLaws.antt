-- A loop that gives the first refusal: it stands at the i-th of n rules. And a chain that asks whether any of n things is wrong. Assumes nothing.
use Prim.Native.Nat.{ℕ, zero, suc, ◌+◌, ◌-◌, ◌≤◌, ◌<◌}
use mathlib.Core.Path.{◌≡◌, refl, sym, ◌∙◌}
use mathlib.Core.Bool.{Bool, true, false, not, ◌||◌}
use native.Mathlib.Omega.{arith}
use Rattle.std.specs.List.{list_any, range_with_len}
use Rattle.rules.specs.Rules.{ask, or_else, first_refusal, refusal_number}
use Rattle.rules.specs.declared.Refusal.{Refusal}
use Rattle.rules.specs.declared.Refusal.TheVariants.{Length, Truncated, Count, Figure, Scalar, Code, Order, Reference, OperandRun, Trailing, Expression, Output}
use Rattle.rules.proofs.RuleLaws.{rest_next, rest_broken, rest_none}

pub rule_kept : (f : ℕ → ℕ) (i n : ℕ) → i < n → f i ≡ 0 → first_refusal f i (n - i) ≡ first_refusal f (i + 1) (n - (i + 1))
rule_kept f i n l e = sym (rest_next f i n (first_refusal f i (n - i)) refl l e)

pub rule_broken : (f : ℕ → ℕ) (i n : ℕ) → i < n → 0 < f i → first_refusal f i (n - i) ≡ f i
rule_broken f i n l h = sym (rest_broken f i n (first_refusal f i (n - i)) refl l (λ e. omega arith))

pub all_kept : (f : ℕ → ℕ) (i n : ℕ) → n ≤ i → first_refusal f i (n - i) ≡ 0
all_kept f i n l = sym (rest_none f i n (first_refusal f i (n - i)) refl l)

-- 0 is none of the numbers
pub number_above : (refusal : Refusal) → 0 < refusal_number refusal
number_above Length = omega arith
number_above Truncated = omega arith
number_above Count = omega arith
number_above Figure = omega arith
number_above Scalar = omega arith
number_above Code = omega arith
number_above Order = omega arith
number_above Reference = omega arith
number_above OperandRun = omega arith
number_above Trailing = omega arith
number_above Expression = omega arith
number_above Output = omega arith

pub number_not : (refusal : Refusal) (n : ℕ) → refusal_number refusal ≡ n → n ≡ 0 → ⊥
number_not refusal n e h = let above = number_above refusal in omega arith

-- the loop stops with the number of its i-th rule: that is what all of them give
pub refused_at : (f : ℕ → ℕ) (i n t : ℕ) (refusal : Refusal) → first_refusal f i (n - i) ≡ t → i < n → refusal_number refusal ≡ f i → refusal_number refusal ≡ t
refused_at f i n t refusal rest l e = e ∙ rest_broken f i n t rest l (number_not refusal (f i) e)

-- n rules of one number, each that something is not so: what they give is told by whether any is so
pub first_any : (test : ℕ → Bool) (m i n : ℕ) → ask (not (list_any test (range_with_len i n))) (suc m) ≡ first_refusal (λ k. ask (not (test k)) (suc m)) i n
unfolding first_refusal
first_any test m i zero = refl
first_any test m i (suc n) = go (test i) (first_any test m (i + 1) n)
  where
    rest : ℕ
    rest = first_refusal (λ k. ask (not (test k)) (suc m)) (i + 1) n

    go : (b : Bool) → ask (not (list_any test (range_with_len (i + 1) n))) (suc m) ≡ rest → ask (not (b || list_any test (range_with_len (i + 1) n))) (suc m) ≡ or_else (ask (not b) (suc m)) rest
    go true e = refl
    go false e = e

pub ruleset first_steps = (rule_kept, rule_broken, all_kept, number_above)
