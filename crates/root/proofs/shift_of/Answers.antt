use Rattle.std.proofs.Common.{◌≡◌, ℕ, suc, ◌+◌, ◌-◌, ◌^◌, ◌<◌, ◌≤◌, sym, ap, ◌∙◌, subst, le_trans, le_of_eq, lt_of_lt_of_le, mul-le-mul_right, mul-lt-mul_of_pos_right, lt_of_not-le, not-le_of_lt, arith, lit≤, pow_pos, pow_mono, pow-add}
use lib.Count.{count_leading_zeros, leading_top}
use Rattle.root.specs.Digits.{Shift}
use Rattle.root.proofs.shift_of.Goals as goal

-- d's highest digit is at j
abbrev Top : ℕ → ℕ → Type 0
Top d j = (count_leading_zeros 64 d + suc j ≡ 64) × (2 ^ j ≤ d) × (d < 2 ^ suc j) × (j < 53)

top : (d : ℕ) → 0 < d → d < 2 ^ 53 → (j : ℕ) × Top d j
top d D h =
    let t = leading_top 64 d D (lt_of_lt_of_le h (lit≤ tt)) in
    (t.0, (t.1, t.2, t.3, lt_of_not-le (λ (g : 53 ≤ t.0). not-le_of_lt h (le_trans (pow_mono g) t.2))))

shift : (d j : ℕ) → 2 ^ j ≤ d → d < 2 ^ suc j → j < 53 → Shift d (52 - j)
shift d j lo hi l = record {
  high = le_trans (le_of_eq (ap (λ (k : ℕ). 2 ^ k) (sym (up j l)) ∙ pow-add 2 j (52 - j))) (mul-le-mul_right (2 ^ (52 - j)) lo);
  low = lt_of_lt_of_le (mul-lt-mul_of_pos_right hi (pow_pos (52 - j))) (le_of_eq (sym (pow-add 2 (suc j) (52 - j)) ∙ ap (λ (k : ℕ). 2 ^ k) (up_1 j l)));
  few = omega arith;
}
  where
    up : (j : ℕ) → j < 53 → j + (52 - j) ≡ 52
    up j l = omega arith

    up_1 : (j : ℕ) → j < 53 → suc j + (52 - j) ≡ 53
    up_1 j l = omega arith

count : (z j : ℕ) → z + suc j ≡ 64 → j < 53 → z - 11 ≡ 52 - j
count z j e l = omega arith

pub overflow_sub-result : goal.overflow_sub-result
overflow_sub-result c =
    let t = top c.args.d c.requires.0 c.requires.1 in rw c.from.ensures (at_least (count_leading_zeros 64 c.args.d) t.0 t.1.0 t.1.3)
  where
    at_least : (z j : ℕ) → z + suc j ≡ 64 → j < 53 → 11 ≤ z
    at_least z j e l = omega arith

pub returns : goal.returns
returns c =
    let t = top c.args.d c.requires.0 c.requires.1 in
    rw c.from.ensures (subst (λ (s : ℕ). Shift c.args.d s) (sym (count (count_leading_zeros 64 c.args.d) t.0 t.1.0 t.1.3)) (shift c.args.d t.0 t.1.1 t.1.2 t.1.3))
