-- The floats that a sheet may hold: none is a NaN or -0, so the bits that are written are the float's own. Assumes nothing.
use Prim.Native.Nat.{ℕ, zero, suc, ◌*◌, ◌<◌}
use mathlib.Core.Path.{◌≡◌, refl, sym, subst}
use mathlib.Core.Logic.{◌⊎◌, inl, inr, ⊎_elim}
use mathlib.Core.Bool.{Bool, true, false, ◌&&◌, ◌||◌}
use native.Mathlib.Nat.{zero-lt-suc, mul-pos, zero-mul, zero-div}
use native.Mathlib.Omega.{arith}
use borrow.Author.Tests.{ne_eqb}
use lib.Dec.{T, lt→ltb}
use lib.IntN.{ℤ, pos, negsuc}
use lib.Ieee.{Float, nan, inf, fin, binary64, up, down, le, eq, neg, is_nan, to_bits}
use lib.Ieee.Fits.{and_l, and_r, up_pos, down_pos}
use lib.Ieee.Bits.{is_true}
use lib.Ieee.Positive.{positive, between}
use Rattle.float.specs.Order.{f64_zero, ordinary}
use Rattle.float.specs.Ranges.{plus_zero}
use Rattle.scalar_bytes.specs.Reading.{float64_lawful}
use Rattle.scalar_bytes.specs.Encoding.{encoded_bits}

-- ---- the sign

holds : (b : Bool) → b ≡ true → T b
holds b h = subst T (sym h) tt

either_of : (a b : Bool) → (a || b) ≡ true → (T a) ⊎ (T b)
either_of true b h = inl tt
either_of false b h = inr (holds b h)

zero_ordinary : (x : Float) → T (plus_zero x) → T (ordinary x)
zero_ordinary nan z = absurd z
zero_ordinary (inf s) z = absurd z
zero_ordinary (fin true m e) z = absurd z
zero_ordinary (fin false m e) z = tt

positive_ordinary : (x : Float) → T (positive x) → T (ordinary x)
positive_ordinary nan p = absurd p
positive_ordinary (inf s) p = absurd p
positive_ordinary (fin true m e) p = absurd p
positive_ordinary (fin false m e) p = tt

negative_ordinary : (x : Float) → T (positive (neg x)) → T (ordinary x)
unfolding neg
negative_ordinary nan p = absurd p
negative_ordinary (inf s) p = absurd p
negative_ordinary (fin true zero e) p = absurd p
negative_ordinary (fin true (suc m) e) p = lt→ltb 0 (suc m) (zero-lt-suc m)
negative_ordinary (fin false m e) p = tt

abbrev low : Float
low = fin false 1 (negsuc 399)

abbrev high : Float
high = fin false 1 (pos 400)

within_positive : (x : Float) → T (le low x && le x high) → T (positive x)
within_positive x h = between low x high tt tt (and_l (le low x) (le x high) h) (and_r (le low x) (le x high) h)

pub lawful_ordinary : (x : Float) → float64_lawful x ≡ true → T (ordinary x)
lawful_ordinary x h =
    ⊎_elim
    (λ z. ⊎_elim (zero_ordinary x) (λ b. positive_ordinary x (within_positive x b)) (either_of (plus_zero x) (le low x && le x high) (is_true _ z)))
    (λ b. negative_ordinary x (within_positive (neg x) b))
    (either_of (plus_zero x || (le low x && le x high)) (le low (neg x) && le (neg x) high) h)

-- ---- the bits

not_zero : (s : Bool) (m : ℕ) (e : ℤ) → eq (fin s (suc m) e) f64_zero ≡ false
unfolding eq
not_zero s m e = rw (ne_eqb (suc m * up e * down (pos 0)) (0 * up (pos 0) * down e) (λ q. let p : 0 < suc m * up e * down (pos 0) = mul-pos (mul-pos (zero-lt-suc m) (up_pos e)) (down_pos (pos 0)) in omega arith)) refl

is_zero : (e : ℤ) → eq (fin false 0 e) f64_zero ≡ true
unfolding eq
is_zero e = simp zero-mul

zero_bits : (e : ℤ) → to_bits binary64 (fin false 0 e) ≡ 0
unfolding to_bits
zero_bits e = simp (zero-mul, zero-div)

nan_bits_law : encoded_bits nan ≡ to_bits binary64 nan
unfolding encoded_bits eq is_nan to_bits
nan_bits_law = refl

inf_bits : (s : Bool) → encoded_bits (inf s) ≡ to_bits binary64 (inf s)
unfolding encoded_bits eq is_nan
inf_bits s = refl

pub lawful_bits : (x : Float) → float64_lawful x ≡ true → encoded_bits x ≡ to_bits binary64 x
unfolding encoded_bits is_nan
lawful_bits nan h = nan_bits_law
lawful_bits (inf s) h = inf_bits s
lawful_bits (fin true zero e) h = absurd (lawful_ordinary (fin true zero e) h)
lawful_bits (fin false zero e) h = rw (is_zero e, zero_bits e) refl
lawful_bits (fin true (suc m) e) h = rw (not_zero true m e) refl
lawful_bits (fin false (suc m) e) h = rw (not_zero false m e) refl
