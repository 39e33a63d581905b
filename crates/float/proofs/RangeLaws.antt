-- Laws of `plus_zero`: +0 is the float whose pattern is 0; and of the library's ranges of floats. Assumes nothing.
use Rattle.std.proofs.Common.{◌≡◌, ℕ, zero, suc, Bool, true, false, cond, ◌||◌, T, eqb, sym, refl, ap, ◌∙◌, subst, eqb→eq}
use Rattle.std.specs.Prelude.{Some, None}
use Rattle.std.proofs.Common.{Less, Equal, Greater}
use Rattle.std.specs.Ordering.{is_some_and, is_le, partial_le, float_partial_cmp}
use lib.Ieee.{Float, nan, inf, fin, binary64, fits, lt, eq, le, of_bits, to_bits}
use lib.Ieee.Bits.{of_bits-to_bits}
use Rattle.float.specs.Order.{f64_zero}
use Rattle.float.specs.Ranges.{plus_zero}
use Rattle.float.proofs.RoundLaws.{zero_exp}

zero_float : of_bits binary64 0 ≡ f64_zero
unfolding of_bits
zero_float = refl

zero_bits : to_bits binary64 f64_zero ≡ 0
unfolding to_bits
zero_bits = refl

zero_written : T (eqb (to_bits binary64 f64_zero) 0)
zero_written = subst (λ (b : ℕ). T (eqb b 0)) (sym zero_bits) tt

-- a value that is +0 is the one
pub plus_zero_is : (x : Float) → T (fits binary64 x) → T (plus_zero x) → x ≡ f64_zero
plus_zero_is nan h z = absurd z
plus_zero_is (inf s) h z = absurd z
plus_zero_is (fin true m e) h z = absurd z
plus_zero_is (fin false zero e) h z = ap (fin false 0) (zero_exp binary64 false e h)
plus_zero_is (fin false (suc m) e) h z = absurd z

pub plus_zero_bits : (x : Float) → T (fits binary64 x) → eqb (to_bits binary64 x) 0 ≡ plus_zero x
plus_zero_bits x h = go (eqb (to_bits binary64 x) 0) (plus_zero x) (λ t. subst (λ (y : Float). T (plus_zero y)) (back t) tt) (λ z. subst (λ (y : Float). T (eqb (to_bits binary64 y) 0)) (sym (plus_zero_is x h z)) zero_written)
  where
    back : T (eqb (to_bits binary64 x) 0) → f64_zero ≡ x
    back t = sym zero_float ∙ ap (of_bits binary64) (sym (eqb→eq (to_bits binary64 x) 0 t)) ∙ of_bits-to_bits binary64 x h

    go : (a b : Bool) → (T a → T b) → (T b → T a) → a ≡ b
    go true true f g = refl
    go true false f g = absurd (f tt)
    go false true f g = absurd (g tt)
    go false false f g = refl

-- ---- ranges

pub ordered_le : (x y : Float) → partial_le float_partial_cmp x y ≡ le x y
unfolding le
ordered_le x y = go (lt x y) (eq x y) (lt y x)
  where
    go : (a b c : Bool) → is_some_and is_le (cond a (Some Less) (cond b (Some Equal) (cond c (Some Greater) None))) ≡ (a || b)
    go true b c = refl
    go false true c = refl
    go false false true = refl
    go false false false = refl
