-- The 19 bytes of a scalar, written (document 01, "The join sheet"): `EncodedScalarValue::from_scalar` of the source's statistics.rs, then zeros. Definitions only.
use Rattle.std.specs.Prelude.{ℕ, ◌-◌, ◌^◌, Bool, true, cond, ◌&&◌, List, [], ◌∷◌, ◌++◌, leb, ltb, ℤ, pos, negsuc, length, replicate, Float}
use Rattle.std.specs.Int.Signed.{mag}
use Rattle.std.specs.Float.{binary64}
use Rattle.std.specs.Float.Ieee.{fits, is_nan, to_bits, eq}
use Rattle.float.specs.Integers.{bit}
use Rattle.float.specs.Order.{f64_zero}
use Rattle.le.specs.Fields.{byte_at, field_bytes, u64_bytes}
use Rattle.signed.specs.Signed.{unsigned}
use Rattle.le.specs.Integers.{i32_bytes, i64_bytes}
use Rattle.layout.specs.Places.{scalar_size, decimal_digits_size}
use Rattle.scalar_bytes.specs.Reading.{tag_allowed, float64_lawful}
use Rattle.scalar.specs.declared.Scalar.{Scalar}
use Rattle.scalar.specs.declared.Scalar.TheVariants.{Null, Boolean, Int32, Int64, Float64, Decimal128, Date32, IntervalMonthDayNano, IntervalDayTime}
use Rattle.std.specs.Prelude.{Option, Some, None}
use Rattle.scalar_bytes.specs.declared.reads.ScalarPlace.{ScalarPlace}

-- ---- the bytes

-- +0 for either zero, and one pattern for every NaN
unfoldable pub encoded_bits : Float → ℕ
encoded_bits x = cond (eq x f64_zero) 0 (cond (is_nan x) 0x7ff8_0000_0000_0000 (to_bits binary64 x))

-- Null, which the source leaves out, is its tag
unfoldable pub encoded_bytes : Scalar → List ℕ
unfolding encoded_bits
encoded_bytes Null = 0 ∷ []
encoded_bytes (Boolean b) = 1 ∷ bit b ∷ []
encoded_bytes (Int32 x) = 2 ∷ i32_bytes x
encoded_bytes (Int64 x) = 3 ∷ i64_bytes x
encoded_bytes (Float64 x) = 4 ∷ u64_bytes (encoded_bits x)
encoded_bytes (Decimal128 value precision scale) = 5 ∷ precision ∷ scale ∷ field_bytes decimal_digits_size (unsigned decimal_digits_size value)
encoded_bytes (Date32 x) = 6 ∷ i32_bytes x
encoded_bytes (IntervalMonthDayNano months days nanoseconds) = 8 ∷ (i32_bytes months ++ (i32_bytes days ++ i64_bytes nanoseconds))
encoded_bytes (IntervalDayTime days milliseconds) = 9 ∷ (i32_bytes days ++ i32_bytes milliseconds)

-- the upper eight bytes of a number of 64 bits in sixteen
abbrev pub extension : ℤ → ℕ
extension (pos x) = 0
extension (negsuc x) = 0xffff_ffff_ffff_ffff

abbrev pub padded : List ℕ → List ℕ
padded bs = bs ++ replicate (scalar_size - length bs) 0

abbrev pub scalar_bytes : Scalar → List ℕ
scalar_bytes x = padded (encoded_bytes x)

unfoldable pub bound_bytes : Option Scalar → List ℕ
bound_bytes None = padded (255 ∷ [])
bound_bytes (Some x) = scalar_bytes x

-- ---- the scalars that a sheet may hold, by their numbers

abbrev pub in32 : ℤ → Bool
in32 x = ltb (mag x) (2 ^ 31)

abbrev pub in64 : ℤ → Bool
in64 x = ltb (mag x) (2 ^ 63)

unfoldable pub lawful_scalar : Scalar → Bool
lawful_scalar Null = true
lawful_scalar (Boolean b) = true
lawful_scalar (Int32 x) = in32 x
lawful_scalar (Int64 x) = in64 x
lawful_scalar (Float64 x) = fits binary64 x && float64_lawful x
lawful_scalar (Decimal128 value precision scale) = in64 value && ((leb 1 precision && leb precision 38) && leb scale 22)
lawful_scalar (Date32 x) = in32 x
lawful_scalar (IntervalMonthDayNano months days nanoseconds) = in32 months && (in32 days && in64 nanoseconds)
lawful_scalar (IntervalDayTime days milliseconds) = in32 days && in32 milliseconds

unfoldable pub lawful_bound : Option Scalar → Bool
unfolding lawful_scalar
lawful_bound None = true
lawful_bound (Some x) = lawful_scalar x

-- ---- where a bound may stand: by the tag that is written

unfoldable pub place_allows : ScalarPlace → Option Scalar → Bool
unfolding bound_bytes encoded_bytes field_bytes
place_allows place b = tag_allowed place (byte_at (bound_bytes b) 0)
