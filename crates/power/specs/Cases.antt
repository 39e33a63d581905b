-- Worked powers, each computed from the definition. Assumes nothing.
use Rattle.std.specs.Prelude.{◌≡◌, ℕ, false, pos, negsuc, refl}
use Rattle.std.specs.Float.{nan, inf, fin, binary64}
use Rattle.std.specs.Float.Ieee.{of_bits, to_bits}
use Rattle.power.specs.Power.{power}

-- 0.25 to the 2.5 is 0.03125
quarter : power (fin false 1 (negsuc 1)) (fin false 5 (negsuc 0)) ≡ fin false 1 (negsuc 4)
unfolding power
quarter = refl

-- 0.5 to the 3 is 0.125: a whole exponent takes no root
half_cubed : power (fin false 1 (negsuc 0)) (fin false 3 (pos 0)) ≡ fin false 1 (negsuc 2)
unfolding power
half_cubed = refl

-- by bit pattern, with as many as 30 digits of the fraction
abbrev power_bits : ℕ → ℕ → ℕ
power_bits x f = to_bits binary64 (power (of_bits binary64 x) (of_bits binary64 f))

-- 0.9 to the 1.1
nine_tenths_law : power_bits 0x3fec_cccc_cccc_cccd 0x3ff1_9999_9999_999a ≡ 0x3fec_7f87_0ff4_3b16
unfolding power of_bits to_bits
nine_tenths_law = refl

-- 0.123 to the 7.75
small_base : power_bits 0x3fbf_7ced_9168_72b0 0x401f_0000_0000_0000 ≡ 0x3e77_bf2c_2060_bf7b
unfolding power of_bits to_bits
small_base = refl

-- 0.999 to the 1000.123
large_exponent : power_bits 0x3fef_f7ce_d916_872b 0x408f_40fb_e76c_8b44 ≡ 0x3fd7_8794_9d23_516d
unfolding power of_bits to_bits
large_exponent = refl

-- 1 stays 1, whatever the exponent is
one : power (fin false 1 (pos 0)) (fin false 5 (negsuc 0)) ≡ fin false 1 (pos 0)
unfolding power
one = refl

one_to_nan : power (fin false 1 (pos 0)) nan ≡ fin false 1 (pos 0)
unfolding power
one_to_nan = refl

-- from 2 ^ 63 on it is 0
top : power (fin false 1 (negsuc 0)) (fin false 1 (pos 63)) ≡ fin false 0 (pos 0)
unfolding power
top = refl

infinite : power (fin false 1 (negsuc 0)) (inf false) ≡ fin false 0 (pos 0)
unfolding power
infinite = refl

-- below 1 no answer is asked for
below_one : power (fin false 1 (negsuc 0)) (fin false 1 (negsuc 0)) ≡ nan
unfolding power
below_one = refl

not_a_number : power (fin false 1 (negsuc 0)) nan ≡ nan
unfolding power
not_a_number = refl
