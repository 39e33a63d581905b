-- One half by its bits. Assumes nothing.
use Rattle.std.proofs.Common.{◌≡◌, false, negsuc, refl}
use lib.Ieee.{of_bits, binary64, fin}

pub half_bits : of_bits binary64 0x3fe0_0000_0000_0000 ≡ fin false 1 (negsuc 0)
unfolding of_bits
half_bits = refl
