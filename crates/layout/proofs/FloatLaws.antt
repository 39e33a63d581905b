-- Floats by value are ordered as their patterns are. Assumes nothing.
use Prim.Native.Nat.{ℕ, ◌*◌, ◌^◌, ◌≤◌, ◌<◌}
use mathlib.Core.Path.{◌≡◌, refl, sym, ap, ◌∙◌, subst}
use mathlib.Core.Logic.{inl, inr}
use mathlib.Core.Bool.{Bool, true, false, cond}
use mathlib.Core.List.{List, [], ◌++◌}
use native.Mathlib.Nat.{le_of_eq, lt_of_le_of_lt, le_of_lt, eq-or-lt_of_le, mul-le-mul_right}
use native.Mathlib.Omega.{arith}
use lib.Pow.{pow_pos}
use lib.Dec.{T, ltb}
use borrow.Author.Tests.{ltb-true, ltb-false}
use lib.Ieee.{Float, nan, inf, fin, binary64, of_bits, to_bits, lt, le, fits}
use lib.Ieee.Bits.{of_bits-to_bits, to_bits-lt}
use lib.Ieee.Exact.{HasValue}
use lib.Ieee.Order.{le_of_values}
use lib.Ieee.Positive.{num, den, den_pos, positive}
use Rattle.float.specs.Order.{f64_zero, nonneg}
use Rattle.float.proofs.OrderLaws.{bit_units, bits_value, bit_units_lt, positive_bits}
use Rattle.float.proofs.NonNegLaws.{own_fraction, le_cross, lt_cross, not_lt_cross}
use Rattle.float.proofs.RoundLaws.{value_unique}
use Rattle.le.specs.Fields.{field_at, u64_bytes}
use Rattle.le.proofs.FieldLaws.{bytes_length, field_back}
use Rattle.layout.specs.Fields.{before, same, after, number_order, float_order, pattern}
use Rattle.layout.specs.Lawful.{LawfulField, Figure}
use Rattle.layout.proofs.OrderLaws.{keyed, same_equal, equal_same}

positive_nonneg : (x : Float) → T (positive x) → T (nonneg x)
positive_nonneg nan p = absurd p
positive_nonneg (inf s) p = absurd p
positive_nonneg (fin true m e) p = absurd p
positive_nonneg (fin false m e) p = tt

pub positive_figure : (x : Float) → T (fits binary64 x) → T (positive x) → Figure x
positive_figure x h p = record { held = h; low = positive_nonneg x p; bits = positive_bits (to_bits binary64 x) (subst (λ (y : Float). T (positive y)) (sym (of_bits-to_bits binary64 x h)) p) }

pub zero_bits : to_bits binary64 f64_zero ≡ 0
unfolding to_bits
zero_bits = refl

pub zero_figure : Figure f64_zero
unfolding fits
zero_figure = let b = zero_bits in record { held = tt; low = tt; bits = omega arith }

units_le : (b c : ℕ) → b ≤ c → bit_units b ≤ bit_units c
units_le b c h = elim (eq-or-lt_of_le h) [
  | inl e ↦ le_of_eq (ap bit_units e)
  | inr l ↦ le_of_lt (bit_units_lt b c l)
]

bits_le : (b c : ℕ) → b ≤ c → c < 0x7ff0_0000_0000_0000 → T (le (of_bits binary64 b) (of_bits binary64 c))
bits_le b c h k =
    le_of_values (of_bits binary64 b) (of_bits binary64 c) (bit_units b) (2 ^ 1074) (bit_units c) (2 ^ 1074) (pow_pos 1074) (pow_pos 1074)
    (bits_value b (lt_of_le_of_lt h k)) (bits_value c k) (mul-le-mul_right (2 ^ 1074) (units_le b c h))

bits_order : (x y : Float) → Figure x → Figure y → to_bits binary64 x ≤ to_bits binary64 y → num x * den y ≤ num y * den x
bits_order x y f g h =
    le_cross x y f.low g.low
    (subst (λ (v : Float). T (le v y)) (of_bits-to_bits binary64 x f.held)
    (subst (λ (w : Float). T (le (of_bits binary64 (to_bits binary64 x)) w)) (of_bits-to_bits binary64 y g.held) (bits_le (to_bits binary64 x) (to_bits binary64 y) h g.bits)))

level : (x y : Float) → T (nonneg x) → T (nonneg y) → num x * den y ≡ num y * den x → HasValue y false (num x) (den x)
level x nan p q e = absurd q
level x (inf s) p q e = absurd q
level x (fin true m d) p q e = absurd q
level x (fin false m d) p q e = (refl, sym e)

pub lt_bits : (x y : Float) → Figure x → Figure y → lt x y ≡ ltb (to_bits binary64 x) (to_bits binary64 y)
lt_bits x y f g = go (lt x y) (ltb (to_bits binary64 x) (to_bits binary64 y)) refl refl
  where
    go : (t u : Bool) → lt x y ≡ t → ltb (to_bits binary64 x) (to_bits binary64 y) ≡ u → t ≡ u
    go true true h k = refl
    go false false h k = refl
    go true false h k =
        let a = lt_cross x y f.low g.low h in
        let b = bits_order y x g f (ltb-false (to_bits binary64 x) (to_bits binary64 y) k) in
        absurd (omega arith)
    go false true h k =
        let l = ltb-true (to_bits binary64 x) (to_bits binary64 y) k in
        let a = not_lt_cross x y f.low g.low h in
        let b = bits_order x y f g (omega arith) in
        let e : num x * den y ≡ num y * den x = omega arith in
        let w = ap (to_bits binary64) (value_unique binary64 x y false (num x) (den x) (den_pos x) f.held g.held (own_fraction x f.low) (level x y f.low g.low e)) in
        absurd (omega arith)

pub figure_order : (x y : Float) → Figure x → Figure y → float_order x y ≡ number_order (to_bits binary64 x) (to_bits binary64 y)
figure_order x y f g = λ i. cond (lt_bits x y f g i) before (cond (lt_bits y x g f i) after same)

pub pattern_lawful : {C A : Type 0} (L : A → Type 0) (get : A → Float) (bits : A → ℕ) (rule : C → List ℕ → ℕ → ℕ) → ((x : A) → L x → Figure (get x) × (to_bits binary64 (get x) ≡ bits x)) → LawfulField {C = C} L (pattern get bits rule)
pattern_lawful L get bits rule h = record {
  sized = λ x. bytes_length 8 (bits x);
  ordered = keyed L (λ x y. float_order (get x) (get y)) bits is;
  alike = λ x y a b e. ap u64_bytes (same_equal (bits x) (bits y) (sym (is x y a b) ∙ e));
  equal = λ x y a b e.
      let p : bits x ≡ bits y = sym (field_back 8 (bits x) [] (small x a)) ∙ ap (λ (l : List ℕ). field_at 8 (l ++ []) 0) e ∙ field_back 8 (bits y) [] (small y b) in
      is x y a b ∙ ap (λ (v : ℕ). number_order v (bits y)) p ∙ equal_same (bits y);
}
  where
    is : (x y : _) → L x → L y → float_order (get x) (get y) ≡ number_order (bits x) (bits y)
    is x y a b = figure_order (get x) (get y) (h x a).0 (h y b).0 ∙ λ i. number_order ((h x a).1 i) ((h y b).1 i)

    small : (x : _) → L x → bits x < 256 ^ 8
    small x a = subst (λ (n : ℕ). n < 256 ^ 8) (h x a).1 (to_bits-lt binary64 (get x) (h x a).0.held)
