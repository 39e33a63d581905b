-- 0 and 1 by their bits. Assumes nothing.
use Rattle.std.proofs.Common.{◌≡◌, refl}
use lib.Ieee.{of_bits, binary64}
use Rattle.float.specs.Order.{f64_zero, f64_one}

pub zero_bits : of_bits binary64 0 ≡ f64_zero
unfolding of_bits
zero_bits = refl

pub one_bits : of_bits binary64 0x3ff0_0000_0000_0000 ≡ f64_one
unfolding of_bits
one_bits = refl
