-- 1/10 and 9/10 by their bits. Assumes nothing.
use Rattle.std.proofs.Common.{◌≡◌, refl}
use lib.Ieee.{of_bits, round, binary64}
use Rattle.comparison.specs.Unary.{tenth, nine_tenths}

pub tenth_bits : of_bits binary64 0x3fb9_9999_9999_999a ≡ tenth
unfolding of_bits round
tenth_bits = refl

pub nine_tenths_bits : of_bits binary64 0x3fec_cccc_cccc_cccd ≡ nine_tenths
unfolding of_bits round
nine_tenths_bits = refl
