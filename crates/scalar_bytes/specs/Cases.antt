-- Worked scalars, by the byte patterns that Rust's `to_le_bytes` prints, each written and read. Assumes nothing.
use Rattle.std.specs.Prelude.{◌≡◌, refl, true, [], ◌∷◌, pos, negsuc}
use Rattle.std.specs.Float.{nan, fin}
use Rattle.std.specs.Float.Ieee.{of_bits, is_nan, to_bits, eq, le, neg}
use Rattle.signed.specs.Signed.{signed, unsigned}
use Rattle.le.specs.Fields.{field_at, field_bytes}
use Rattle.scalar.specs.declared.Scalar.TheVariants.{Null, Boolean, Int32, Int64, Float64, Decimal128, Date32, IntervalMonthDayNano, IntervalDayTime}
use Rattle.std.specs.Prelude.{Some, None}
use Rattle.scalar_bytes.specs.Reading.{Refused, Lawful, read_scalar}
use Rattle.scalar_bytes.specs.Encoding.{encoded_bytes, scalar_bytes}
use Rattle.scalar_bytes.specs.declared.reads.ScalarPlace.TheVariants.{Literal, Bound as AtBound, Sketch}

boolean_written : scalar_bytes (Boolean true) ≡ 1 ∷ 1 ∷ 0 ∷ 0 ∷ 0 ∷ 0 ∷ 0 ∷ 0 ∷ 0 ∷ 0 ∷ 0 ∷ 0 ∷ 0 ∷ 0 ∷ 0 ∷ 0 ∷ 0 ∷ 0 ∷ 0 ∷ []
unfolding encoded_bytes field_bytes unsigned to_bits
boolean_written = refl

boolean_read : read_scalar Literal (1 ∷ 1 ∷ 0 ∷ 0 ∷ 0 ∷ 0 ∷ 0 ∷ 0 ∷ 0 ∷ 0 ∷ 0 ∷ 0 ∷ 0 ∷ 0 ∷ 0 ∷ 0 ∷ 0 ∷ 0 ∷ 0 ∷ []) 0 ≡ Lawful (Some (Boolean true))
unfolding read_scalar signed unsigned field_at of_bits le neg
boolean_read = refl

int32_written : scalar_bytes (Int32 (negsuc 1)) ≡ 2 ∷ 0xfe ∷ 0xff ∷ 0xff ∷ 0xff ∷ 0 ∷ 0 ∷ 0 ∷ 0 ∷ 0 ∷ 0 ∷ 0 ∷ 0 ∷ 0 ∷ 0 ∷ 0 ∷ 0 ∷ 0 ∷ 0 ∷ []
unfolding encoded_bytes field_bytes unsigned to_bits
int32_written = refl

int32_read : read_scalar Literal (2 ∷ 0xfe ∷ 0xff ∷ 0xff ∷ 0xff ∷ 0 ∷ 0 ∷ 0 ∷ 0 ∷ 0 ∷ 0 ∷ 0 ∷ 0 ∷ 0 ∷ 0 ∷ 0 ∷ 0 ∷ 0 ∷ 0 ∷ []) 0 ≡ Lawful (Some (Int32 (negsuc 1)))
unfolding read_scalar signed unsigned field_at of_bits le neg
int32_read = refl

int64_written : scalar_bytes (Int64 (pos 0x2_0000_0000)) ≡ 3 ∷ 0 ∷ 0 ∷ 0 ∷ 0 ∷ 2 ∷ 0 ∷ 0 ∷ 0 ∷ 0 ∷ 0 ∷ 0 ∷ 0 ∷ 0 ∷ 0 ∷ 0 ∷ 0 ∷ 0 ∷ 0 ∷ []
unfolding encoded_bytes field_bytes unsigned to_bits
int64_written = refl

int64_read : read_scalar Literal (3 ∷ 0 ∷ 0 ∷ 0 ∷ 0 ∷ 2 ∷ 0 ∷ 0 ∷ 0 ∷ 0 ∷ 0 ∷ 0 ∷ 0 ∷ 0 ∷ 0 ∷ 0 ∷ 0 ∷ 0 ∷ 0 ∷ []) 0 ≡ Lawful (Some (Int64 (pos 0x2_0000_0000)))
unfolding read_scalar signed unsigned field_at of_bits le neg
int64_read = refl

float64_written : scalar_bytes (Float64 (fin true 3 (negsuc 0))) ≡ 4 ∷ 0 ∷ 0 ∷ 0 ∷ 0 ∷ 0 ∷ 0 ∷ 0xf8 ∷ 0xbf ∷ 0 ∷ 0 ∷ 0 ∷ 0 ∷ 0 ∷ 0 ∷ 0 ∷ 0 ∷ 0 ∷ 0 ∷ []
unfolding encoded_bytes field_bytes unsigned eq is_nan to_bits
float64_written = refl

-- no sheet holds these two
minus_zero_written : scalar_bytes (Float64 (fin true 0 (pos 0))) ≡ 4 ∷ 0 ∷ 0 ∷ 0 ∷ 0 ∷ 0 ∷ 0 ∷ 0 ∷ 0 ∷ 0 ∷ 0 ∷ 0 ∷ 0 ∷ 0 ∷ 0 ∷ 0 ∷ 0 ∷ 0 ∷ 0 ∷ []
unfolding encoded_bytes field_bytes unsigned eq is_nan to_bits
minus_zero_written = refl

nan_written : scalar_bytes (Float64 nan) ≡ 4 ∷ 0 ∷ 0 ∷ 0 ∷ 0 ∷ 0 ∷ 0 ∷ 0xf8 ∷ 0x7f ∷ 0 ∷ 0 ∷ 0 ∷ 0 ∷ 0 ∷ 0 ∷ 0 ∷ 0 ∷ 0 ∷ 0 ∷ []
unfolding encoded_bytes field_bytes unsigned eq is_nan to_bits
nan_written = refl

float64_read : read_scalar Literal (4 ∷ 0 ∷ 0 ∷ 0 ∷ 0 ∷ 0 ∷ 0 ∷ 0xf8 ∷ 0xbf ∷ 0 ∷ 0 ∷ 0 ∷ 0 ∷ 0 ∷ 0 ∷ 0 ∷ 0 ∷ 0 ∷ 0 ∷ []) 0 ≡ Lawful (Some (Float64 (fin true 3 (negsuc 0))))
unfolding read_scalar signed unsigned field_at of_bits le neg
float64_read = refl

decimal_written : scalar_bytes (Decimal128 (negsuc 12344) 7 2) ≡ 5 ∷ 7 ∷ 2 ∷ 0xc7 ∷ 0xcf ∷ 0xff ∷ 0xff ∷ 0xff ∷ 0xff ∷ 0xff ∷ 0xff ∷ 0xff ∷ 0xff ∷ 0xff ∷ 0xff ∷ 0xff ∷ 0xff ∷ 0xff ∷ 0xff ∷ []
unfolding encoded_bytes field_bytes unsigned to_bits
decimal_written = refl

decimal_read : read_scalar Literal (5 ∷ 7 ∷ 2 ∷ 0xc7 ∷ 0xcf ∷ 0xff ∷ 0xff ∷ 0xff ∷ 0xff ∷ 0xff ∷ 0xff ∷ 0xff ∷ 0xff ∷ 0xff ∷ 0xff ∷ 0xff ∷ 0xff ∷ 0xff ∷ 0xff ∷ []) 0 ≡ Lawful (Some (Decimal128 (negsuc 12344) 7 2))
unfolding read_scalar signed unsigned field_at of_bits le neg
decimal_read = refl

date32_written : scalar_bytes (Date32 (pos 19000)) ≡ 6 ∷ 0x38 ∷ 0x4a ∷ 0 ∷ 0 ∷ 0 ∷ 0 ∷ 0 ∷ 0 ∷ 0 ∷ 0 ∷ 0 ∷ 0 ∷ 0 ∷ 0 ∷ 0 ∷ 0 ∷ 0 ∷ 0 ∷ []
unfolding encoded_bytes field_bytes unsigned to_bits
date32_written = refl

date32_read : read_scalar Literal (6 ∷ 0x38 ∷ 0x4a ∷ 0 ∷ 0 ∷ 0 ∷ 0 ∷ 0 ∷ 0 ∷ 0 ∷ 0 ∷ 0 ∷ 0 ∷ 0 ∷ 0 ∷ 0 ∷ 0 ∷ 0 ∷ 0 ∷ []) 0 ≡ Lawful (Some (Date32 (pos 19000)))
unfolding read_scalar signed unsigned field_at of_bits le neg
date32_read = refl

month_day_nano_written : scalar_bytes (IntervalMonthDayNano (negsuc 1) (pos 19000) (negsuc 0)) ≡ 8 ∷ 0xfe ∷ 0xff ∷ 0xff ∷ 0xff ∷ 0x38 ∷ 0x4a ∷ 0 ∷ 0 ∷ 0xff ∷ 0xff ∷ 0xff ∷ 0xff ∷ 0xff ∷ 0xff ∷ 0xff ∷ 0xff ∷ 0 ∷ 0 ∷ []
unfolding encoded_bytes field_bytes unsigned to_bits
month_day_nano_written = refl

month_day_nano_read : read_scalar Literal (8 ∷ 0xfe ∷ 0xff ∷ 0xff ∷ 0xff ∷ 0x38 ∷ 0x4a ∷ 0 ∷ 0 ∷ 0xff ∷ 0xff ∷ 0xff ∷ 0xff ∷ 0xff ∷ 0xff ∷ 0xff ∷ 0xff ∷ 0 ∷ 0 ∷ []) 0 ≡ Lawful (Some (IntervalMonthDayNano (negsuc 1) (pos 19000) (negsuc 0)))
unfolding read_scalar signed unsigned field_at of_bits le neg
month_day_nano_read = refl

day_time_written : scalar_bytes (IntervalDayTime (pos 19000) (negsuc 1)) ≡ 9 ∷ 0x38 ∷ 0x4a ∷ 0 ∷ 0 ∷ 0xfe ∷ 0xff ∷ 0xff ∷ 0xff ∷ 0 ∷ 0 ∷ 0 ∷ 0 ∷ 0 ∷ 0 ∷ 0 ∷ 0 ∷ 0 ∷ 0 ∷ []
unfolding encoded_bytes field_bytes unsigned to_bits
day_time_written = refl

day_time_read : read_scalar Literal (9 ∷ 0x38 ∷ 0x4a ∷ 0 ∷ 0 ∷ 0xfe ∷ 0xff ∷ 0xff ∷ 0xff ∷ 0 ∷ 0 ∷ 0 ∷ 0 ∷ 0 ∷ 0 ∷ 0 ∷ 0 ∷ 0 ∷ 0 ∷ []) 0 ≡ Lawful (Some (IntervalDayTime (pos 19000) (negsuc 1)))
unfolding read_scalar signed unsigned field_at of_bits le neg
day_time_read = refl

null_written : scalar_bytes Null ≡ 0 ∷ 0 ∷ 0 ∷ 0 ∷ 0 ∷ 0 ∷ 0 ∷ 0 ∷ 0 ∷ 0 ∷ 0 ∷ 0 ∷ 0 ∷ 0 ∷ 0 ∷ 0 ∷ 0 ∷ 0 ∷ 0 ∷ []
unfolding encoded_bytes field_bytes unsigned to_bits
null_written = refl

null_read : read_scalar Literal (0 ∷ 0 ∷ 0 ∷ 0 ∷ 0 ∷ 0 ∷ 0 ∷ 0 ∷ 0 ∷ 0 ∷ 0 ∷ 0 ∷ 0 ∷ 0 ∷ 0 ∷ 0 ∷ 0 ∷ 0 ∷ 0 ∷ []) 0 ≡ Lawful (Some Null)
unfolding read_scalar signed unsigned field_at of_bits le neg
null_read = refl

-- ---- refused, each for one rule

-- tag 7
text : read_scalar Literal (7 ∷ 1 ∷ 0 ∷ 0 ∷ 0 ∷ 0 ∷ 0 ∷ 0 ∷ 0 ∷ 0 ∷ 0 ∷ 0 ∷ 0 ∷ 0 ∷ 0 ∷ 0 ∷ 0 ∷ 0 ∷ 0 ∷ []) 0 ≡ Refused 5
unfolding read_scalar signed unsigned field_at of_bits le neg
text = refl

-- a tag that is no scalar's
unknown_tag : read_scalar Literal (0x0a ∷ 0 ∷ 0 ∷ 0 ∷ 0 ∷ 0 ∷ 0 ∷ 0 ∷ 0 ∷ 0 ∷ 0 ∷ 0 ∷ 0 ∷ 0 ∷ 0 ∷ 0 ∷ 0 ∷ 0 ∷ 0 ∷ []) 0 ≡ Refused 5
unfolding read_scalar signed unsigned field_at of_bits le neg
unknown_tag = refl

-- a boolean of 2
boolean_two : read_scalar Literal (1 ∷ 2 ∷ 0 ∷ 0 ∷ 0 ∷ 0 ∷ 0 ∷ 0 ∷ 0 ∷ 0 ∷ 0 ∷ 0 ∷ 0 ∷ 0 ∷ 0 ∷ 0 ∷ 0 ∷ 0 ∷ 0 ∷ []) 0 ≡ Refused 5
unfolding read_scalar signed unsigned field_at of_bits le neg
boolean_two = refl

-- the last byte behind an Int32 is not zero
not_zeros : read_scalar Literal (2 ∷ 0xfe ∷ 0xff ∷ 0xff ∷ 0xff ∷ 0 ∷ 0 ∷ 0 ∷ 0 ∷ 0 ∷ 0 ∷ 0 ∷ 0 ∷ 0 ∷ 0 ∷ 0 ∷ 0 ∷ 0 ∷ 1 ∷ []) 0 ≡ Refused 5
unfolding read_scalar signed unsigned field_at of_bits le neg
not_zeros = refl

-- the first byte behind an Int32 is not zero
not_zero_behind : read_scalar Literal (2 ∷ 0xfe ∷ 0xff ∷ 0xff ∷ 0xff ∷ 1 ∷ 0 ∷ 0 ∷ 0 ∷ 0 ∷ 0 ∷ 0 ∷ 0 ∷ 0 ∷ 0 ∷ 0 ∷ 0 ∷ 0 ∷ 0 ∷ []) 0 ≡ Refused 5
unfolding read_scalar signed unsigned field_at of_bits le neg
not_zero_behind = refl

-- the last byte behind an interval's nanoseconds is not zero
not_zero_last : read_scalar Literal (8 ∷ 0xfe ∷ 0xff ∷ 0xff ∷ 0xff ∷ 0x38 ∷ 0x4a ∷ 0 ∷ 0 ∷ 0xff ∷ 0xff ∷ 0xff ∷ 0xff ∷ 0xff ∷ 0xff ∷ 0xff ∷ 0xff ∷ 0 ∷ 1 ∷ []) 0 ≡ Refused 5
unfolding read_scalar signed unsigned field_at of_bits le neg
not_zero_last = refl

-- -0
float_minus_zero : read_scalar Literal (4 ∷ 0 ∷ 0 ∷ 0 ∷ 0 ∷ 0 ∷ 0 ∷ 0 ∷ 0x80 ∷ 0 ∷ 0 ∷ 0 ∷ 0 ∷ 0 ∷ 0 ∷ 0 ∷ 0 ∷ 0 ∷ 0 ∷ []) 0 ≡ Refused 5
unfolding read_scalar signed unsigned field_at of_bits le neg
float_minus_zero = refl

-- a NaN
float_nan : read_scalar Literal (4 ∷ 1 ∷ 0 ∷ 0 ∷ 0 ∷ 0 ∷ 0 ∷ 0xf0 ∷ 0x7f ∷ 0 ∷ 0 ∷ 0 ∷ 0 ∷ 0 ∷ 0 ∷ 0 ∷ 0 ∷ 0 ∷ 0 ∷ []) 0 ≡ Refused 5
unfolding read_scalar signed unsigned field_at of_bits le neg
float_nan = refl

-- the float next above 2 ^ 400
float_large : read_scalar Literal (4 ∷ 1 ∷ 0 ∷ 0 ∷ 0 ∷ 0 ∷ 0 ∷ 0xf0 ∷ 0x58 ∷ 0 ∷ 0 ∷ 0 ∷ 0 ∷ 0 ∷ 0 ∷ 0 ∷ 0 ∷ 0 ∷ 0 ∷ []) 0 ≡ Refused 5
unfolding read_scalar signed unsigned field_at of_bits le neg
float_large = refl

-- precision 0
precision_zero : read_scalar Literal (5 ∷ 0 ∷ 2 ∷ 1 ∷ 0 ∷ 0 ∷ 0 ∷ 0 ∷ 0 ∷ 0 ∷ 0 ∷ 0 ∷ 0 ∷ 0 ∷ 0 ∷ 0 ∷ 0 ∷ 0 ∷ 0 ∷ []) 0 ≡ Refused 5
unfolding read_scalar signed unsigned field_at of_bits le neg
precision_zero = refl

-- precision 39
precision_39 : read_scalar Literal (5 ∷ 0x27 ∷ 2 ∷ 1 ∷ 0 ∷ 0 ∷ 0 ∷ 0 ∷ 0 ∷ 0 ∷ 0 ∷ 0 ∷ 0 ∷ 0 ∷ 0 ∷ 0 ∷ 0 ∷ 0 ∷ 0 ∷ []) 0 ≡ Refused 5
unfolding read_scalar signed unsigned field_at of_bits le neg
precision_39 = refl

-- scale 23
scale_23 : read_scalar Literal (5 ∷ 0x26 ∷ 0x17 ∷ 1 ∷ 0 ∷ 0 ∷ 0 ∷ 0 ∷ 0 ∷ 0 ∷ 0 ∷ 0 ∷ 0 ∷ 0 ∷ 0 ∷ 0 ∷ 0 ∷ 0 ∷ 0 ∷ []) 0 ≡ Refused 5
unfolding read_scalar signed unsigned field_at of_bits le neg
scale_23 = refl

-- 2 ^ 63, which 64 bits do not hold
wide_decimal : read_scalar Literal (5 ∷ 0x26 ∷ 2 ∷ 0 ∷ 0 ∷ 0 ∷ 0 ∷ 0 ∷ 0 ∷ 0 ∷ 0x80 ∷ 0 ∷ 0 ∷ 0 ∷ 0 ∷ 0 ∷ 0 ∷ 0 ∷ 0 ∷ []) 0 ≡ Refused 5
unfolding read_scalar signed unsigned field_at of_bits le neg
wide_decimal = refl

-- a literal is never absent
absent_literal : read_scalar Literal (0xff ∷ 0 ∷ 0 ∷ 0 ∷ 0 ∷ 0 ∷ 0 ∷ 0 ∷ 0 ∷ 0 ∷ 0 ∷ 0 ∷ 0 ∷ 0 ∷ 0 ∷ 0 ∷ 0 ∷ 0 ∷ 0 ∷ []) 0 ≡ Refused 5
unfolding read_scalar signed unsigned field_at of_bits le neg
absent_literal = refl

-- a sketch holds no Null
null_in_sketch : read_scalar Sketch (0 ∷ 0 ∷ 0 ∷ 0 ∷ 0 ∷ 0 ∷ 0 ∷ 0 ∷ 0 ∷ 0 ∷ 0 ∷ 0 ∷ 0 ∷ 0 ∷ 0 ∷ 0 ∷ 0 ∷ 0 ∷ 0 ∷ []) 0 ≡ Refused 5
unfolding read_scalar signed unsigned field_at of_bits le neg
null_in_sketch = refl

-- nor anything absent
absent_in_sketch : read_scalar Sketch (0xff ∷ 0 ∷ 0 ∷ 0 ∷ 0 ∷ 0 ∷ 0 ∷ 0 ∷ 0 ∷ 0 ∷ 0 ∷ 0 ∷ 0 ∷ 0 ∷ 0 ∷ 0 ∷ 0 ∷ 0 ∷ 0 ∷ []) 0 ≡ Refused 5
unfolding read_scalar signed unsigned field_at of_bits le neg
absent_in_sketch = refl

-- ---- bounds: absent, and Null

absent_bound : read_scalar AtBound (0xff ∷ 0 ∷ 0 ∷ 0 ∷ 0 ∷ 0 ∷ 0 ∷ 0 ∷ 0 ∷ 0 ∷ 0 ∷ 0 ∷ 0 ∷ 0 ∷ 0 ∷ 0 ∷ 0 ∷ 0 ∷ 0 ∷ []) 0 ≡ Lawful None
unfolding read_scalar signed unsigned field_at of_bits le neg
absent_bound = refl

null_bound : read_scalar AtBound (0 ∷ 0 ∷ 0 ∷ 0 ∷ 0 ∷ 0 ∷ 0 ∷ 0 ∷ 0 ∷ 0 ∷ 0 ∷ 0 ∷ 0 ∷ 0 ∷ 0 ∷ 0 ∷ 0 ∷ 0 ∷ 0 ∷ []) 0 ≡ Lawful (Some Null)
unfolding read_scalar signed unsigned field_at of_bits le neg
null_bound = refl
