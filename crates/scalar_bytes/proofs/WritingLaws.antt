-- Laws of writing a scalar: it takes at most 19 bytes, and the sixteen of a decimal's value are eight and their extension. Assumes nothing.
use Prim.Native.Nat.{ℕ, suc, ◌+◌, ◌-◌, ◌*◌, ◌^◌, ◌≤◌, ◌<◌}
use mathlib.Core.Path.{◌≡◌, refl, sym, ap, ◌∙◌}
use mathlib.Core.List.{◌++◌}
use native.Mathlib.Omega.{arith}
use lib.IntN.{ℤ, pos, negsuc}
use lib.ListN.{length}
use lib.Signed.{mag}
use Rattle.le.specs.Fields.{field_bytes}
use Rattle.signed.specs.Signed.{unsigned}
use Rattle.le.proofs.FieldLaws.{bytes_split}
use Rattle.signed.proofs.SignedLaws.{unsigned_below}
use Rattle.scalar_bytes.proofs.ReadingLaws.{top_is}
use Rattle.scalar_bytes.specs.Encoding.{extension, encoded_bytes}
use Rattle.scalar.specs.declared.Scalar.{Scalar}
use Rattle.scalar.specs.declared.Scalar.TheVariants.{Null, Boolean, Int32, Int64, Float64, Decimal128, Date32, IntervalMonthDayNano, IntervalDayTime}

pub extension_below : (x : ℤ) → extension x < 256 ^ 8
extension_below (pos v) = omega arith
extension_below (negsuc v) = omega arith

pub extended : (x : ℤ) → mag x < 2 ^ 63 → unsigned 16 x ≡ unsigned 8 x + extension x * 256 ^ 8
unfolding unsigned
extended (pos v) h = omega arith
extended (negsuc v) h =
    let q : v ≡ 2 ^ 64 - suc (2 ^ 64 - suc v) = omega arith in
    ap (λ (d : ℕ). 256 ^ 16 - suc d) q ∙ sym (top_is 0xffff_ffff_ffff_ffff (2 ^ 64 - suc v) 0xffff_ffff_ffff_ffff (omega arith) refl)

pub value_bytes : (x : ℤ) → mag x < 2 ^ 63 → field_bytes 16 (unsigned 16 x) ≡ field_bytes 8 (unsigned 8 x) ++ field_bytes 8 (extension x)
value_bytes x h = ap (field_bytes 16) (extended x h) ∙ bytes_split 8 8 (unsigned 8 x) (extension x) (unsigned_below 8 x h)

pub encoded_small : (x : Scalar) → length (encoded_bytes x) ≤ 19
unfolding encoded_bytes field_bytes
encoded_small Null = omega arith
encoded_small (Boolean b) = omega arith
encoded_small (Int32 x) = omega arith
encoded_small (Int64 x) = omega arith
encoded_small (Float64 x) = omega arith
encoded_small (Decimal128 value precision scale) = omega arith
encoded_small (Date32 x) = omega arith
encoded_small (IntervalMonthDayNano months days nanoseconds) = omega arith
encoded_small (IntervalDayTime days milliseconds) = omega arith
