-- The 19 bytes of a scalar, read (document 01, "The join sheet"): a tag, the value, zeros. Definitions only.
use Rattle.std.specs.Prelude.{ℕ, ◌+◌, ◌-◌, Bool, true, false, not, cond, ◌&&◌, ◌||◌, List, leb, eqb, pos, negsuc, Float}
use Rattle.std.specs.Float.{fin}
use Rattle.std.specs.Float.Ieee.{neg}
use Rattle.float.specs.Ranges.{between, zero_or_between}
use Rattle.le.specs.Fields.{byte_at, field_at}
use Rattle.signed.specs.Signed.{unsigned}
use Rattle.le.specs.Integers.{i32_at, i64_at}
use Rattle.le.specs.Floats.{f64_at}
use Rattle.rules.specs.Rules.{ask, or_else}
use Rattle.layout.specs.Places.{float_size, scalar_value_offset, scalar_value_size, boolean_size, int32_size, int64_size, decimal_scale_offset, decimal_digits_offset, decimal_digits_size, decimal_size, month_day_nano_days_offset, month_day_nano_nanoseconds_offset, month_day_nano_size, day_time_milliseconds_offset, day_time_size}
use Rattle.scalar.specs.declared.Scalar.{Scalar}
use Rattle.scalar.specs.declared.Scalar.TheVariants.{Null, Boolean, Int32, Int64, Float64, Decimal128, Date32, IntervalMonthDayNano, IntervalDayTime}
use Rattle.std.specs.Prelude.{Option, Some, None}
use Rattle.scalar_bytes.specs.declared.reads.ScalarPlace.{ScalarPlace}
use Rattle.scalar_bytes.specs.declared.reads.ScalarPlace.TheVariants.{Literal, Bound as AtBound, Sketch}

-- ---- what stands where

abbrev pub is_bound : ScalarPlace → Bool
is_bound Literal = false
is_bound AtBound = true
is_bound Sketch = false

abbrev pub is_sketch : ScalarPlace → Bool
is_sketch Literal = false
is_sketch AtBound = false
is_sketch Sketch = true

-- only a column's bound may be absent, 255, and a sketch holds no Null, 0
abbrev pub tag_allowed : ScalarPlace → ℕ → Bool
tag_allowed place tag = cond (eqb tag 0) (not (is_sketch place)) (cond (eqb tag 255) (is_bound place) true)

-- ---- the rules

-- n bytes of zeros
abbrev pub zeros_at : ℕ → List ℕ → ℕ → Bool
zeros_at n s at = eqb (field_at n s at) 0

-- the magnitude is no less than 2 ^ -400 and no more than 2 ^ 400, or the float is +0
abbrev pub float64_lawful : Float → Bool
float64_lawful x =
    let low = fin false 1 (negsuc 399) in
    let high = fin false 1 (pos 400) in
    zero_or_between low high x || between low high (neg x)

-- sixteen bytes that are the sign extension of 64 bits
unfoldable pub sign_extended : List ℕ → ℕ → Bool
sign_extended s at = eqb (field_at decimal_digits_size s at) (unsigned decimal_digits_size (i64_at s at))

-- precision 1 .. 38, scale 0 .. 22, the value within 64 bits
abbrev pub decimal_lawful : List ℕ → ℕ → Bool
decimal_lawful s at = (leb 1 (byte_at s at) && leb (byte_at s at) 38) && (leb (byte_at s (at + decimal_scale_offset)) 22 && sign_extended s (at + decimal_digits_offset))

-- what the value itself must keep, by the tag: 0 Null, 255 absent, the rest as `EncodedScalarValue` has them. 7, a text, is refused, and so is every other tag.
unfoldable pub value_refusal : ℕ → List ℕ → ℕ → ℕ
unfolding field_at sign_extended
value_refusal tag s at =
    cond (eqb tag 0) 0
    (cond (eqb tag 1) (ask (leb (byte_at s at) 1) 5)
    (cond (eqb tag 2) 0
    (cond (eqb tag 3) 0
    (cond (eqb tag 4) (ask (float64_lawful (f64_at s at)) 5)
    (cond (eqb tag 5) (ask (decimal_lawful s at) 5)
    (cond (eqb tag 6) 0
    (cond (eqb tag 8) 0
    (cond (eqb tag 9) 0
    (cond (eqb tag 255) 0 5)))))))))

-- the bytes of the value, by the tag; Null and what is absent have none
unfoldable pub value_size : ℕ → ℕ
value_size tag =
    cond (eqb tag 1) boolean_size
    (cond (eqb tag 2) int32_size
    (cond (eqb tag 3) int64_size
    (cond (eqb tag 4) float_size
    (cond (eqb tag 5) decimal_size
    (cond (eqb tag 6) int32_size
    (cond (eqb tag 8) month_day_nano_size
    (cond (eqb tag 9) day_time_size 0)))))))

-- zeros from the value's end to the scalar's
unfoldable pub zeros_behind : ℕ → List ℕ → ℕ → Bool
unfolding field_at value_size
zeros_behind tag s at =
    let size = value_size tag in
    zeros_at (scalar_value_size - size) s (at + (scalar_value_offset + size))

-- the value's own rule, then the zeros
unfoldable pub payload_refusal : ℕ → List ℕ → ℕ → ℕ
unfolding value_refusal zeros_behind
payload_refusal tag s at = or_else (value_refusal tag s (at + scalar_value_offset)) (ask (zeros_behind tag s at) 5)

unfoldable pub scalar_refusal : ScalarPlace → List ℕ → ℕ → ℕ
unfolding payload_refusal
scalar_refusal place s at =
    let tag = byte_at s at in
    or_else (ask (tag_allowed place tag) 5) (payload_refusal tag s at)

-- ---- the values

-- by the tag; Null where it is no scalar's
unfoldable pub scalar_at : List ℕ → ℕ → Scalar
scalar_at s at =
    let tag = byte_at s at in
    let value = scalar_value_offset in
    cond (eqb tag 1) (Boolean (eqb (byte_at s (at + value)) 1))
    (cond (eqb tag 2) (Int32 (i32_at s (at + value)))
    (cond (eqb tag 3) (Int64 (i64_at s (at + value)))
    (cond (eqb tag 4) (Float64 (f64_at s (at + value)))
    (cond (eqb tag 5) (Decimal128 (i64_at s (at + (value + decimal_digits_offset))) (byte_at s (at + value)) (byte_at s (at + (value + decimal_scale_offset))))
    (cond (eqb tag 6) (Date32 (i32_at s (at + value)))
    (cond (eqb tag 8) (IntervalMonthDayNano (i32_at s (at + value)) (i32_at s (at + (value + month_day_nano_days_offset))) (i64_at s (at + (value + month_day_nano_nanoseconds_offset))))
    (cond (eqb tag 9) (IntervalDayTime (i32_at s (at + value)) (i32_at s (at + (value + day_time_milliseconds_offset)))) Null)))))))

unfoldable pub bound_at : List ℕ → ℕ → Option Scalar
unfolding scalar_at
bound_at s at = cond (eqb (byte_at s at) 255) None (Some (scalar_at s at))

pub data ReadScalar : Type 0 where
  Refused : ℕ → ReadScalar
  Lawful : Option Scalar → ReadScalar

-- every 19 bytes, at every place: the rule that they break, and else what they stand for
unfoldable pub read_scalar : ScalarPlace → List ℕ → ℕ → ReadScalar
unfolding scalar_refusal bound_at
read_scalar place s at =
    let refusal = scalar_refusal place s at in
    cond (eqb refusal 0) (Lawful (bound_at s at)) (Refused refusal)
