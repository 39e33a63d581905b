-- What the functions below `root` ensure. Definitions only.
use Rattle.std.specs.Prelude.{◌≡◌, ℕ, zero, suc, ◌+◌, ◌-◌, ◌*◌, ◌/◌, ◌%◌, ◌^◌, ◌<◌, ◌≤◌}
use Rattle.root.specs.Isqrt.{isqrt}
use Rattle.root.specs.declared.digits.Digits.{Digits}

-- all digits of the root of w * 4 ^ 27, and the remainder
pub record RootDigits (w digits rest : ℕ) : Type 0 where
  pub whole : digits * digits + rest ≡ w * 4 ^ 27
  pub small : rest ≤ 2 * digits
  pub bound : digits < 2 ^ 54

-- the whole part of the root of w * 4 ^ 27, and what its square leaves: the one pair that `RootDigits` holds of
unfoldable pub all_digits : ℕ → Digits
unfolding isqrt
all_digits w = record { digits = isqrt (w * 4 ^ 27); rest = w * 4 ^ 27 - isqrt (w * 4 ^ 27) * isqrt (w * 4 ^ 27) }

-- moved s to the left d has 53 digits
pub record Shift (d s : ℕ) : Type 0 where
  pub high : 2 ^ 52 ≤ d * 2 ^ s
  pub low : d * 2 ^ s < 2 ^ 53
  pub few : s ≤ 52

-- √N / 2 to the nearest whole number, a tie to the even one, for N = digits * digits + rest with rest at most 2 * digits, so that digits is the whole part of √N: an even one lies on a
-- whole number, and an odd one is the middle itself where nothing is left
abbrev pub rounded_middle : ℕ → ℕ → ℕ
rounded_middle q zero = q + q % 2
rounded_middle q (suc rest) = q + 1

abbrev pub rounded_by : ℕ → ℕ → ℕ → ℕ
rounded_by zero q rest = q
rounded_by (suc o) q rest = rounded_middle q rest

abbrev pub rounded_half : ℕ → ℕ → ℕ
rounded_half digits rest = rounded_by (digits % 2) (digits / 2) rest
