-- The steps of `whole_power` and `root_power`. Assumes nothing.
use Rattle.std.proofs.Common.{◌≡◌, ℕ, zero, suc, ◌/◌, ◌%◌, ◌^◌, ◌<◌, sym, refl, ap, ◌∙◌, pow-suc, arith}
use native.Mathlib.Nat.{div-div-eq-div-mul}
use lib.Ieee.{Float, binary64, mul}
use Rattle.std.specs.Int.{bit_at}
use Rattle.root.specs.Root.{root}
use Rattle.power.specs.Power.{times_if, whole_power, root_power}

-- ---- a digit
pub times_one : (digit : ℕ) (r p : Float) → digit ≡ 1 → times_if digit r p ≡ mul binary64 p r
unfolding times_if
times_one digit r p e = ap (λ (d : ℕ). times_if d r p) e

pub times_zero : (digit : ℕ) (r p : Float) → digit ≡ 0 → times_if digit r p ≡ p
unfolding times_if
times_zero digit r p e = ap (λ (d : ℕ). times_if d r p) e

-- ---- one digit more of a whole power
pub whole_none : (x : Float) (n : ℕ) → whole_power 0 x n ≡ x
unfolding whole_power
whole_none x n = refl

pub whole_step : (d i : ℕ) (x : Float) (n : ℕ) → whole_power (suc d) x (n / 2 ^ i) ≡ times_if (n / 2 ^ i % 2) x (mul binary64 (whole_power d x (n / 2 ^ suc i)) (whole_power d x (n / 2 ^ suc i)))
unfolding whole_power
whole_step d i x n = ap (λ (k : ℕ). times_if (n / 2 ^ i % 2) x (mul binary64 (whole_power d x k) (whole_power d x k))) (div-div-eq-div-mul n (2 ^ i) 2 ∙ ap (λ (k : ℕ). n / k) (sym (pow-suc 2 i)))

-- ---- one root more
pub root_step : (j : ℕ) (r p : Float) (u : ℕ) → root_power (suc j) r p u ≡ root_power j (root r) (times_if (u / 2 ^ j % 2) (root r) p) u
unfolding root_power
root_step j r p u = refl

-- where the digits left are all 0, no root counts
pub roots_rest : (j : ℕ) (r p : Float) (u : ℕ) → ((i : ℕ) → i < j → bit_at u i ≡ 0) → root_power j r p u ≡ p
roots_rest zero r p u h = unfold root_power in refl
roots_rest (suc j) r p u h =
    root_step j r p u
    ∙ ap (λ (q : Float). root_power j (root r) q u) (times_zero (bit_at u j) (root r) p (h j (omega arith)))
    ∙ roots_rest j (root r) p u (λ (i : ℕ) (l : i < j). h i (omega arith))
