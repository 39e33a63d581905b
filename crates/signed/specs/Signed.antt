-- Two's complement, over the width in bytes. Definitions only.
use Rattle.std.specs.Prelude.{ℕ, suc, ◌-◌, ◌/◌, ◌^◌, cond, ltb, ℤ, pos, negsuc}

-- the signed number that n bytes with the number v stand for
unfoldable pub signed : ℕ → ℕ → ℤ
signed n v = cond (ltb v (256 ^ n / 2)) (pos v) (negsuc (256 ^ n - suc v))

-- the number of the n bytes that stand for a signed number
unfoldable pub unsigned : ℕ → ℤ → ℕ
unsigned n (pos v) = v
unsigned n (negsuc v) = 256 ^ n - suc v
