-- From 22 on the definition gives the same power of ten for every exponent. Assumes nothing.
use Rattle.std.proofs.Common.{◌≡◌, ℕ, ap, pos, ◌^◌, arith}
use Prim.Native.Nat.{min}
use Rattle.std.specs.Float.{binary64}
use Rattle.std.specs.Float.Ieee.{of_int}
use Rattle.float.specs.Tens.{power_of_ten}

pub to_22 : (a : ℕ) → power_of_ten (min a 22) ≡ power_of_ten a
unfolding power_of_ten
to_22 a = let e : min (min a 22) 22 ≡ min a 22 = omega arith in ap (λ (n : ℕ). of_int binary64 (pos (10 ^ n))) e
