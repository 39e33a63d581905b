-- The powers of ten as floats: for k up to 22 `power_of_ten k` is 10 ^ k exactly. Assumes nothing.
use Rattle.std.proofs.Common.{◌≡◌, ℕ, ◌*◌, ◌^◌, ◌≤◌, min, Bool, true, false, T, eqb, pos, sym, refl, subst, zero-lt-suc, arith, eqb→eq}
use native.Mathlib.Nat.{one-le-pow}
use lib.Ieee.{Float, nan, inf, fin, binary64, up, down, fits}
use lib.Ieee.Exact.{HasValue}
use lib.Ieee.Fits.{of_int-fits}
use lib.Ieee.Positive.{positive, positive_of_value}
use Rattle.float.specs.Tens.{power_of_ten}
use Rattle.float.proofs.TableLaws.{tabulated, agree}

-- x is the whole number n
abbrev is_whole : Float → ℕ → Bool
is_whole nan n = false
is_whole (inf s) n = false
is_whole (fin true m e) n = false
is_whole (fin false m e) n = eqb (m * up e * 1) (n * down e)

whole_value : (x : Float) (n : ℕ) → T (is_whole x n) → HasValue x false n 1
whole_value nan n h = absurd h
whole_value (inf s) n h = absurd h
whole_value (fin true m e) n h = absurd h
whole_value (fin false m e) n h = (refl, eqb→eq (m * up e * 1) (n * down e) h)

abbrev exact : ℕ → Bool
exact k = is_whole (power_of_ten k) (10 ^ k)

all_exact : tabulated exact 0 23 ≡ tabulated (λ k. true) 0 23
unfolding power_of_ten
all_exact = refl

pub ten_exact : (k : ℕ) → k ≤ 22 → HasValue (power_of_ten k) false (10 ^ k) 1
ten_exact k h = whole_value (power_of_ten k) (10 ^ k) (subst T (sym (agree exact (λ k. true) 23 all_exact k (omega arith))) tt)

pub ten_fits : (k : ℕ) → T (fits binary64 (power_of_ten k))
unfolding power_of_ten
ten_fits k = of_int-fits binary64 (pos (10 ^ min k 22))

pub ten_positive : (k : ℕ) → k ≤ 22 → T (positive (power_of_ten k))
ten_positive k h = positive_of_value (power_of_ten k) (10 ^ k) 1 (ten_exact k h) (one-le-pow k 10 (zero-lt-suc 9))
