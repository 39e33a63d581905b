use mathlib.Core.Path.{◌≡◌, refl, ◌∙◌}
use mathlib.Core.Bool.{cond}
use lib.Ieee.{Float, nan, inf, fin, binary64, is_nan, of_bits, to_bits}
use Rattle.scalar_bytes.specs.Encoding.{encoded_bits}
use Rattle.scalar_bytes.proofs.writes.encoded_bits.Goals as goal

-- the one NaN has this pattern
one_nan : (x : Float) → to_bits binary64 x ≡ cond (is_nan x) 0x7ff8_0000_0000_0000 (to_bits binary64 x)
unfolding is_nan to_bits
one_nan nan = refl
one_nan (inf s) = refl
one_nan (fin s m e) = refl

pub returns-then-x : goal.returns-then-x
unfolding encoded_bits of_bits
returns-then-x c = rw c.if-x.true refl

pub returns-else-x : goal.returns-else-x
unfolding encoded_bits of_bits
returns-else-x c = rw c.if-x.false (c.bits_of_float.ensures ∙ one_nan c.args.x)
