-- Little-endian fields of a list of bytes, over the width in bytes. Definitions only.
use Rattle.std.specs.Prelude.{ℕ, zero, suc, ◌+◌, ◌*◌, ◌/◌, ◌%◌, ◌^◌, List, [], ◌∷◌, ◌++◌, length, drop, get_or}

-- a byte past the end is 0
abbrev pub byte_at : List ℕ → ℕ → ℕ
byte_at s at = get_or s at 0

-- the number of the n bytes from a place on: byte i weighs 256 ^ i
unfoldable pub field_at : ℕ → List ℕ → ℕ → ℕ
field_at zero s at = 0
field_at (suc n) s at = field_at n s at + byte_at s (at + n) * 256 ^ n

abbrev pub u16_at : List ℕ → ℕ → ℕ
u16_at = field_at 2

abbrev pub u32_at : List ℕ → ℕ → ℕ
u32_at = field_at 4

abbrev pub u64_at : List ℕ → ℕ → ℕ
u64_at = field_at 8

-- the n bytes of a number, the lowest first
unfoldable pub field_bytes : ℕ → ℕ → List ℕ
field_bytes zero v = []
field_bytes (suc n) v = v % 256 ∷ field_bytes n (v / 256)

abbrev pub u16_bytes : ℕ → List ℕ
u16_bytes = field_bytes 2

abbrev pub u32_bytes : ℕ → List ℕ
u32_bytes = field_bytes 4

abbrev pub u64_bytes : ℕ → List ℕ
u64_bytes = field_bytes 8

-- the bytes at the front of what stood there
unfoldable pub onto : List ℕ → List ℕ → List ℕ
onto bs out = bs ++ drop (length bs) out
