-- Numbers of the conversions to binary64. Definitions only.
use Rattle.std.specs.Prelude.{ℕ, suc, ◌+◌, ◌-◌, ◌^◌, Bool, true, false, ℤ, pos, negsuc}

-- 1 for true, 0 for false
abbrev pub bit : Bool → ℕ
bit true = 1
bit false = 0

-- a signed number of 64 bits moved up by 2 ^ 63
abbrev pub offset : ℤ → ℕ
offset (pos n) = 2 ^ 63 + n
offset (negsuc n) = 2 ^ 63 - suc n
