use Rattle.std.proofs.Common.{◌≡◌, ℕ, ◌-◌, Bool, true, false, pos, sym, refl, ap, ◌∙◌, arith}
use Rattle.std.proofs.lemmas.Int.{ints}
use lib.Ieee.{binary64, of_int, of_bits, neg}
use mir.Val.{bool_byte}
use Rattle.float.specs.Integers.{bit}
use Rattle.float.proofs.IntegerLaws.{of_int_neg}
use Rattle.float.proofs.integers.nearest_difference.Goals as goal

bit_is : (b : Bool) → bool_byte b ≡ bit b
bit_is true = refl
bit_is false = refl

-- the two constants
top : of_bits binary64 4895412794951729152 ≡ of_int binary64 (pos 18446744073709551616)
unfolding of_bits of_int
top = refl

none : of_bits binary64 0 ≡ of_int binary64 (pos 0)
unfolding of_bits of_int
none = refl

pub returns-in-None : goal.returns-in-None
returns-in-None c =
    let m = c.from-more.ensures ∙ bit_is c.args.plus in
    top ∙ ap (of_int binary64) (grind (arith, ints, m))

pub returns-then-distance-more : goal.returns-then-distance-more
returns-then-distance-more c =
    let m = c.from-more.ensures ∙ bit_is c.args.plus in
    none ∙ ap (of_int binary64) (grind (arith, ints, m))

pub returns : goal.returns
returns c =
    let m = c.from-more.ensures ∙ bit_is c.args.plus in
    let d = c.abs_diff-distance.result - c.from-more.result - 1 in
    ap neg (c.nearest_u64_to_f64-2.ensures ∙ ap (λ (k : ℕ). of_int binary64 (pos k)) (grind (arith, ints, m)))
    ∙ sym (of_int_neg binary64 d)
    ∙ ap (of_int binary64) (grind (arith, ints, m))
