-- Worked parts of a range: the bits are those of Rust's 0.3 and 0.7. Assumes nothing.
use Rattle.std.specs.Prelude.{◌≡◌, refl, ℕ, pos}
use Rattle.std.specs.Float.{binary64}
use Rattle.std.specs.Float.Ieee.{of_int, to_bits, sub, div, lt}
use Rattle.records.specs.declared.expressions.BinaryOp.{BinaryOp}
use Rattle.records.specs.declared.expressions.BinaryOp.TheVariants.{Lt, Gt}
use Rattle.range.specs.Range.{width, selected}

-- of an operator against a value, where the bounds are as given and the fallback is 0
abbrev selected_bits : BinaryOp → ℕ → ℕ → ℕ → ℕ
selected_bits op min max value = to_bits binary64 (selected op (of_int binary64 (pos 0)) (of_int binary64 (pos min)) (of_int binary64 (pos max)) (of_int binary64 (pos value)))

below_three : selected_bits Lt 0 10 3 ≡ 0x3fd3_3333_3333_3333
unfolding selected width of_int sub div lt to_bits
below_three = refl

above_three : selected_bits Gt 0 10 3 ≡ 0x3fe6_6666_6666_6666
unfolding selected width of_int sub div lt to_bits
above_three = refl

-- past the upper bound all lies below
past_the_end : selected_bits Lt 0 10 11 ≡ 0x3ff0_0000_0000_0000
unfolding selected width of_int sub div lt to_bits
past_the_end = refl

-- bounds that meet are 1 apart
one_value : selected_bits Lt 5 5 5 ≡ 0
unfolding selected width of_int sub div lt to_bits
one_value = refl
