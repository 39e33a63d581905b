-- The binary64 numbers of eight bytes, little-endian. Definitions only.
use Rattle.std.specs.Prelude.{ℕ, List, Float}
use Rattle.std.specs.Float.{binary64}
use Rattle.std.specs.Float.Ieee.{of_bits, to_bits}
use Rattle.le.specs.Fields.{u64_at, u64_bytes}

abbrev pub f64_at : List ℕ → ℕ → Float
f64_at s at = of_bits binary64 (u64_at s at)

abbrev pub f64_bytes : Float → List ℕ
f64_bytes x = u64_bytes (to_bits binary64 x)
