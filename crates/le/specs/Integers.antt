-- Signed fields, in two's complement. Definitions only.
use Rattle.std.specs.Prelude.{ℕ, List, ℤ}
use Rattle.signed.specs.Signed.{signed, unsigned}
use Rattle.le.specs.Fields.{u32_at, u64_at, u32_bytes, u64_bytes}

abbrev pub i32_at : List ℕ → ℕ → ℤ
i32_at s at = signed 4 (u32_at s at)

abbrev pub i64_at : List ℕ → ℕ → ℤ
i64_at s at = signed 8 (u64_at s at)

abbrev pub i32_bytes : ℤ → List ℕ
i32_bytes x = u32_bytes (unsigned 4 x)

abbrev pub i64_bytes : ℤ → List ℕ
i64_bytes x = u64_bytes (unsigned 8 x)
