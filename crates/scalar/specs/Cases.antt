-- Worked numbers of scalars: the bits are those that Rust's division by `powi` and its cast print. Assumes nothing.
use Rattle.std.specs.Prelude.{◌≡◌, refl, ℕ, true, pos, negsuc, None, unwrap_or}
use Rattle.std.specs.Float.{binary64}
use Rattle.std.specs.Float.Ieee.{to_bits, of_int, div}
use Rattle.float.specs.Order.{f64_zero}
use Rattle.float.specs.Tens.{power_of_ten}
use Rattle.scalar.specs.Number.{scalar_to_f64}
use Rattle.scalar.specs.declared.Scalar.{Scalar}
use Rattle.scalar.specs.declared.Scalar.TheVariants.{Null, Boolean, Int64, Decimal128}

abbrev number_bits : Scalar → ℕ
number_bits x = to_bits binary64 (unwrap_or (scalar_to_f64 x) f64_zero)

-- 123.45, and -1 at the largest scale
decimal : number_bits (Decimal128 (pos 12345) 7 2) ≡ 0x405e_dccc_cccc_cccd
unfolding scalar_to_f64 power_of_ten of_int div to_bits
decimal = refl

largest_scale : number_bits (Decimal128 (negsuc 0) 38 22) ≡ 0xbb5e_3920_1017_5ee6
unfolding scalar_to_f64 power_of_ten of_int div to_bits
largest_scale = refl

-- the largest Int64 rounds up to 2 ^ 63
largest_int64 : number_bits (Int64 (pos 0x7fff_ffff_ffff_ffff)) ≡ 0x43e0_0000_0000_0000
unfolding scalar_to_f64 of_int to_bits
largest_int64 = refl

-- these have no number
no_boolean : scalar_to_f64 (Boolean true) ≡ None
unfolding scalar_to_f64
no_boolean = refl

no_null : scalar_to_f64 Null ≡ None
unfolding scalar_to_f64
no_null = refl
