-- The whole part of a square root, of any size, computed fast enough for worked cases. Definitions only.
-- `isqrt_whole` of `proofs/Roots.antt` says what it is: isqrt n * isqrt n ≤ n < (isqrt n + 1) * (isqrt n + 1).
use Rattle.std.specs.Prelude.{ℕ, zero, suc, ◌+◌, ◌-◌, ◌*◌, ◌/◌, ◌^◌, Bool, true, false, cond, ◌&&◌, nat_le, nat_lt}
use Rattle.std.specs.Float.Ieee.{size}

-- for n below 4 ^ d: twice the root of n / 4, or one more
abbrev pub at_least : ℕ → ℕ → ℕ
at_least r n = cond (nat_le (suc r * suc r) n) (suc r) r

unfoldable pub digit_root : ℕ → ℕ → ℕ
digit_root zero n = 0
digit_root (suc d) n = at_least (2 * digit_root d (n / 4)) n

-- Newton's steps from above the root come to it fast, and what they give is checked; should the check fail, the digits are found one by one.
unfoldable pub newton : ℕ → ℕ → ℕ → ℕ
newton zero x n = x
newton (suc steps) x n = newton steps ((x + n / x) / 2) n

abbrev pub is_root : ℕ → ℕ → Bool
is_root r n = nat_le (r * r) n && nat_lt n (suc r * suc r)

unfoldable pub checked : Bool → ℕ → ℕ → ℕ
unfolding digit_root size
checked true r n = r
checked false r n = digit_root (size n) n

unfoldable pub tried : ℕ → ℕ → ℕ
unfolding checked
tried r n = checked (is_root r n) r n

-- the last of Newton's steps may be one too high
abbrev pub lower : ℕ → ℕ → ℕ
lower x n = cond (nat_le (x * x) n) x (x - 1)

unfoldable pub isqrt : ℕ → ℕ
unfolding tried newton size
isqrt n = tried (lower (newton 14 (2 ^ (size n / 2 + 1)) n) n) n
