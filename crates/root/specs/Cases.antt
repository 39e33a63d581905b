-- Worked roots, each computed from the definition. Those by bit pattern are a machine's answers. Assumes nothing.
use Rattle.std.specs.Prelude.{◌≡◌, ℕ, true, false, pos, negsuc, refl}
use Rattle.std.specs.Float.{nan, inf, fin, binary64}
use Rattle.std.specs.Float.Ieee.{of_bits, to_bits}
use Rattle.root.specs.Root.{root}

abbrev root_bits : ℕ → ℕ
root_bits b = to_bits binary64 (root (of_bits binary64 b))

-- 9 has the root 3, and 1 / 4 the root 1 / 2
nine : root (fin false 9 (pos 0)) ≡ fin false 3 (pos 0)
unfolding root
nine = refl

quarter : root (fin false 1 (negsuc 1)) ≡ fin false 1 (negsuc 0)
unfolding root
quarter = refl

-- 2 and the value nearest to 0.1
two : root_bits 0x4000_0000_0000_0000 ≡ 0x3ff6_a09e_667f_3bcd
unfolding root of_bits to_bits
two = refl

tenth : root_bits 0x3fb9_9999_9999_999a ≡ 0x3fd4_3d13_6248_490f
unfolding root of_bits to_bits
tenth = refl

-- the smallest value, 2 ^ -1074, and three of it, whose root is rounded
smallest : root_bits 1 ≡ 0x1e60_0000_0000_0000
unfolding root of_bits to_bits
smallest = refl

three_smallest : root_bits 3 ≡ 0x1e6b_b67a_e858_4caa
unfolding root of_bits to_bits
three_smallest = refl

-- the largest subnormal value, and 2 ^ -1022, the smallest normal one
subnormal : root_bits 0xf_ffff_ffff_ffff ≡ 0x1fff_ffff_ffff_ffff
unfolding root of_bits to_bits
subnormal = refl

normal : root_bits 0x10_0000_0000_0000 ≡ 0x2000_0000_0000_0000
unfolding root of_bits to_bits
normal = refl

-- the largest finite value
largest : root_bits 0x7fef_ffff_ffff_ffff ≡ 0x5fef_ffff_ffff_ffff
unfolding root of_bits to_bits
largest = refl

-- next to 1 on either side: the root lies a little below the middle of two values
below_one : root_bits 0x3fef_ffff_ffff_ffff ≡ 0x3fef_ffff_ffff_ffff
unfolding root of_bits to_bits
below_one = refl

above_one : root_bits 0x3ff0_0000_0000_0001 ≡ 0x3ff0_0000_0000_0000
unfolding root of_bits to_bits
above_one = refl

-- the square is that of a middle of two values and 7 / 2 ^ 106 more, so the root goes up
above_middle : root_bits 0x3ffd_407b_b364_1da5 ≡ 0x3ff5_a24e_31b3_9fa6
unfolding root of_bits to_bits
above_middle = refl

-- zero keeps its sign
minus_zero_law : root (fin true 0 (pos 0)) ≡ fin true 0 (pos 0)
unfolding root
minus_zero_law = refl

plus_zero_law : root (fin false 0 (pos 0)) ≡ fin false 0 (pos 0)
unfolding root
plus_zero_law = refl

-- below zero there is no root
below_zero : root (fin true 1 (pos 0)) ≡ nan
unfolding root
below_zero = refl

minus_infinity : root (inf true) ≡ nan
unfolding root
minus_infinity = refl

infinity : root (inf false) ≡ inf false
unfolding root
infinity = refl

not_a_number : root nan ≡ nan
unfolding root
not_a_number = refl
