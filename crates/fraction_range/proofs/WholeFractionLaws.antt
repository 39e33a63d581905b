-- A fraction of whole numbers within 64 bits lies from 0 to 1 and is not -0: for booleans, whole numbers and days whatever the overlap is, and for decimals where the overlap is the one that `estimated_distinct_intersection` takes.
-- There the overlap is no wider than either range, so where a range is reversed the overlap is too, and the quotient is above 0. Nothing is said here of Float64. Assumes nothing.
use Prim.Native.Nat.{ℕ, zero, suc, ◌+◌, ◌-◌, ◌^◌, ◌≤◌, ◌<◌}
use mathlib.Core.Path.{◌≡◌, refl, sym, ap, ◌∙◌, subst}
use mathlib.Core.Bool.{Bool, true, false, cond, not, true≢false, false≢true}
use native.Mathlib.Omega.{arith}
use native.Mathlib.Nat.{le_refl}
use borrow.Author.Tests.{eq-eqb, ltb-true, ltb-false}
use lib.Dec.{T, ltb, ltb→lt, nltb→le, lit≤}
use lib.IntN.{ℤ, pos, negsuc, nat_abs, sub_ℕ, ◌+ℤ◌, ◌-ℤ◌, +ℤ_idr}
use lib.Signed.{mag, lt_z, non_neg}
use lib.Ieee.{Float, nan, inf, fin, Format, binary64, neg, of_int, div, lt}
use Rattle.std.specs.Prelude.{Option, Some, None, IfSome, option_map, option_and_then}
use Rattle.std.specs.Ordering.{is_lt, is_gt}
use Rattle.std.specs.declared.cmp.Ordering.TheVariants.{Less, Equal, Greater}
use Rattle.float.specs.Integers.{offset}
use Rattle.float.specs.Order.{f64_zero, f64_one, clamp_unit, nonneg, Unit01}
use Rattle.float.proofs.IntegerLaws.{difference, of_int_neg}
use Rattle.float.proofs.UnitLaws.{one_unit}
use Rattle.scalar.specs.Types.{as_decimal128}
use Rattle.scalar.specs.Order.{integer_order, scalar_order, is_less, is_greater}
use Rattle.scalar.specs.declared.Scalar.{Scalar}
use Rattle.scalar.specs.declared.Scalar.TheVariants.{Decimal128}
use Rattle.scalar.proofs.TypeLaws.{decimal128_or_none}
use Rattle.scalar.proofs.OrderCases.{decimal_order}
use Rattle.interval.specs.Intervals.{interval_of}
use Rattle.interval.specs.Fraction.{ends_of, is_zero, discrete, decimal, typed_ends, ends_fraction}
use Rattle.interval.specs.declared.fraction.ScalarEnds.TheVariants.{Integers, Decimals}
use Rattle.interval.specs.Intersection.{overlap_lower, overlap_upper}
use Rattle.units.proofs.SpreadLaws.{div_spread, spread_clamped}
use Rattle.units.proofs.ScalarLaws.{count_sized, integer_spread}
use Rattle.fraction_range.specs.Distinct.{InUnit}

-- ---- quotients of whole numbers up to 2 ^ 64

both_signs : (f : Format) (x y : Float) → T (nonneg x) → T (nonneg y) → div f (neg x) (neg y) ≡ div f x y
unfolding div neg
both_signs f nan y p q = absurd p
both_signs f (inf s) y p q = absurd p
both_signs f (fin true m e) y p q = absurd p
both_signs f (fin false m e) nan p q = absurd q
both_signs f (fin false m e) (inf t) p q = absurd q
both_signs f (fin false m e) (fin true n d) p q = absurd q
both_signs f (fin false m e) (fin false n d) p q = refl

-- a width from 1 on: any overlap will do
above_zero : (o : ℤ) (n : ℕ) → nat_abs o ≤ 2 ^ 64 → suc n ≤ 2 ^ 64 → Unit01 (clamp_unit (div binary64 (of_int binary64 o) (of_int binary64 (pos (suc n)))))
above_zero o n h k =
    let x = of_int binary64 o in
    let y = of_int binary64 (pos (suc n)) in
    let s = count_sized 64 n (lit≤ tt) k in
    spread_clamped 64 64 (div binary64 x y) (div_spread 0 64 0 64 x y (lit≤ tt) (lit≤ tt) (integer_spread 64 o (lit≤ tt) h) s.0 s.1)

-- -(m + 1) / -(n + 1)
both_negative : (m n : ℕ) → suc m ≤ 2 ^ 64 → suc n ≤ 2 ^ 64 → Unit01 (clamp_unit (div binary64 (of_int binary64 (negsuc m)) (of_int binary64 (negsuc n))))
both_negative m n h k =
    let x = of_int binary64 (pos (suc m)) in
    let y = of_int binary64 (pos (suc n)) in
    let e : div binary64 (of_int binary64 (negsuc m)) (of_int binary64 (negsuc n)) ≡ div binary64 x y = (λ i. div binary64 (of_int_neg binary64 m i) (of_int_neg binary64 n i)) ∙ both_signs binary64 x y (count_sized 64 m (lit≤ tt) h).1.low (count_sized 64 n (lit≤ tt) k).1.low in
    subst (λ (z : Float). Unit01 (clamp_unit z)) (sym e) (above_zero (pos (suc m)) n h k)

-- ---- the two ways to a fraction, by the width and the overlap as whole numbers

if_there : (b : Bool) (x : Float) → Unit01 x → InUnit (cond b (Some x) None)
if_there true x u = u
if_there false x u = tt

zero_not_above : lt f64_zero (of_int binary64 (pos 0)) ≡ false
unfolding lt of_int
zero_not_above = refl

neg_not_above : (x : Float) → T (nonneg x) → lt f64_zero (neg x) ≡ false
unfolding lt neg
neg_not_above nan p = absurd p
neg_not_above (inf s) p = absurd p
neg_not_above (fin true m e) p = absurd p
neg_not_above (fin false m e) p = refl

by_count : (w o : ℤ) → nat_abs w ≤ 2 ^ 64 → nat_abs o ≤ 2 ^ 64 → InUnit (cond (lt f64_zero (of_int binary64 w)) (Some (clamp_unit (div binary64 (of_int binary64 o) (of_int binary64 w)))) None)
by_count (pos zero) o h k = rw zero_not_above tt
by_count (pos (suc n)) o h k = if_there (lt f64_zero (of_int binary64 (pos (suc n)))) _ (above_zero o n k h)
by_count (negsuc n) o h k = rw (ap (lt f64_zero) (of_int_neg binary64 n) ∙ neg_not_above (of_int binary64 (pos (suc n))) (count_sized 64 n (lit≤ tt) h).1.low) tt

by_width : (w o : ℤ) → nat_abs w ≤ 2 ^ 64 → nat_abs o ≤ 2 ^ 64 → (T (non_neg o) → T (non_neg w)) → InUnit (cond (is_zero w) (Some f64_one) (Some (clamp_unit (div binary64 (of_int binary64 o) (of_int binary64 w)))))
by_width (pos zero) o h k l = one_unit
by_width (pos (suc n)) o h k l = above_zero o n k h
by_width (negsuc n) (pos m) h k l = absurd (l tt)
by_width (negsuc n) (negsuc m) h k l = both_negative m n k h

-- ---- numbers within 64 bits, moved up by 2 ^ 63

abbrev pub In64 : ℤ → Type 0
In64 z = mag z < 2 ^ 63

offset_below : (z : ℤ) → In64 z → offset z < 2 ^ 64
offset_below (pos n) h = omega arith
offset_below (negsuc n) h = omega arith

sub_size : (a b : ℕ) → a ≤ 2 ^ 64 → b ≤ 2 ^ 64 → nat_abs (sub_ℕ a b) ≤ 2 ^ 64
sub_size a b h k = go (ltb a b)
  where
    go : (t : Bool) → nat_abs (cond t (negsuc (b - suc a)) (pos (a - b))) ≤ 2 ^ 64
    go true = omega arith
    go false = omega arith

sub_sign : (a b : ℕ) → T (non_neg (sub_ℕ a b)) → b ≤ a
sub_sign a b = go (ltb a b) (nltb→le a b)
  where
    go : (t : Bool) → (T (not t) → b ≤ a) → T (non_neg (cond t (negsuc (b - suc a)) (pos (a - b)))) → b ≤ a
    go true h k = absurd k
    go false h k = h tt

sign_sub : (a b : ℕ) → b ≤ a → T (non_neg (sub_ℕ a b))
sign_sub a b h = go (ltb a b) (ltb→lt a b)
  where
    no : a < b → ⊥
    no k = omega arith

    go : (t : Bool) → (T t → a < b) → T (non_neg (cond t (negsuc (b - suc a)) (pos (a - b))))
    go true k = absurd (no (k tt))
    go false k = tt

count_size_law : (a b : ℤ) → In64 a → In64 b → nat_abs (a -ℤ b +ℤ pos 1) ≤ 2 ^ 64
count_size_law a b h k = subst (λ (z : ℤ). nat_abs z ≤ 2 ^ 64) (sym (difference a b 1 h k)) (sub_size (offset a + 1) (offset b) (omega (arith, offset_below a h)) (omega (arith, offset_below b k)))

discrete_unit : (l u ol ou : ℤ) → In64 l → In64 u → In64 ol → In64 ou → InUnit (discrete (ends_of (interval_of l u) (interval_of ol ou)))
unfolding discrete
discrete_unit l u ol ou hl hu hol hou = by_count (u -ℤ l +ℤ pos 1) (ou -ℤ ol +ℤ pos 1) (count_size_law u l hu hl) (count_size_law ou ol hou hol)

minus_is : (a b : ℤ) → In64 a → In64 b → a -ℤ b ≡ sub_ℕ (offset a + 0) (offset b)
minus_is a b h k = sym (+ℤ_idr (a -ℤ b)) ∙ difference a b 0 h k

width_size : (a b : ℤ) → In64 a → In64 b → nat_abs (a -ℤ b) ≤ 2 ^ 64
width_size a b h k = subst (λ (z : ℤ). nat_abs z ≤ 2 ^ 64) (sym (minus_is a b h k)) (sub_size (offset a + 0) (offset b) (omega (arith, offset_below a h)) (omega (arith, offset_below b k)))

decimal_unit : (l u ol ou : ℤ) → In64 l → In64 u → In64 ol → In64 ou → offset l ≤ offset ol → offset ou ≤ offset u → InUnit (decimal (ends_of (interval_of l u) (interval_of ol ou)))
unfolding decimal
decimal_unit l u ol ou hl hu hol hou lower upper = by_width (u -ℤ l) (ou -ℤ ol) (width_size u l hu hl) (width_size ou ol hou hol) signs
  where
    order : T (non_neg (ou -ℤ ol)) → offset l ≤ offset u
    order k = omega (arith, sub_sign (offset ou + 0) (offset ol) (subst (λ (z : ℤ). T (non_neg z)) (minus_is ou ol hou hol) k))

    signs : T (non_neg (ou -ℤ ol)) → T (non_neg (u -ℤ l))
    signs k = subst (λ (z : ℤ). T (non_neg z)) (sym (minus_is u l hu hl)) (sign_sub (offset u + 0) (offset l) (omega (arith, order k)))

-- ---- what an order says of the whole numbers

less_offset : (a b : ℤ) → In64 a → In64 b → lt_z a b ≡ true → offset a ≤ offset b
less_offset (pos a) (pos b) h k e = omega (arith, ltb-true a b e)
less_offset (pos a) (negsuc b) h k e = absurd (false≢true e)
less_offset (negsuc a) (pos b) h k e = omega arith
less_offset (negsuc a) (negsuc b) h k e = omega (arith, ltb-true b a e)

not_less_offset : (a b : ℤ) → In64 a → In64 b → lt_z a b ≡ false → offset b ≤ offset a
not_less_offset (pos a) (pos b) h k e = omega (arith, ltb-false a b e)
not_less_offset (pos a) (negsuc b) h k e = omega arith
not_less_offset (negsuc a) (pos b) h k e = absurd (true≢false e)
not_less_offset (negsuc a) (negsuc b) h k e = omega (arith, ltb-false b a e)

module _ (a b : ℤ) (h : In64 a) (k : In64 b) where
  is_less_law : is_less (integer_order a b) ≡ true → offset a ≤ offset b
  is_less_law = go (lt_z a b) (lt_z b a) (less_offset a b h k)
    where
      go : (t u : Bool) → (t ≡ true → offset a ≤ offset b) → is_lt (cond t Less (cond u Greater Equal)) ≡ true → offset a ≤ offset b
      go true u y e = y refl
      go false true y e = absurd (false≢true e)
      go false false y e = absurd (false≢true e)

  is_not_less : is_less (integer_order a b) ≡ false → offset b ≤ offset a
  is_not_less = go (lt_z a b) (lt_z b a) (not_less_offset a b h k)
    where
      go : (t u : Bool) → (t ≡ false → offset b ≤ offset a) → is_lt (cond t Less (cond u Greater Equal)) ≡ false → offset b ≤ offset a
      go true u z e = absurd (true≢false e)
      go false u z e = z refl

  is_greater_law : is_greater (integer_order a b) ≡ true → offset b ≤ offset a
  is_greater_law = go (lt_z a b) (lt_z b a) (not_less_offset a b h k)
    where
      go : (t u : Bool) → (t ≡ false → offset b ≤ offset a) → is_gt (cond t Less (cond u Greater Equal)) ≡ true → offset b ≤ offset a
      go true u z e = absurd (false≢true e)
      go false u z e = z refl

  is_not_greater : is_greater (integer_order a b) ≡ false → offset a ≤ offset b
  is_not_greater = go (lt_z a b) (lt_z b a) (less_offset a b h k) (not_less_offset b a k h)
    where
      go : (t u : Bool) → (t ≡ true → offset a ≤ offset b) → (u ≡ false → offset a ≤ offset b) → is_gt (cond t Less (cond u Greater Equal)) ≡ false → offset a ≤ offset b
      go true u y z e = y refl
      go false true y z e = absurd (true≢false e)
      go false false y z e = z refl

-- ---- the numbers of four ends, where all are of one type

-- of the number, if there is one
abbrev pub Each : {T : Type 0} → (T → Type 0) → Option T → Type 0
Each P o = IfSome o P

pub integers_unit : (l : ℤ) (u ol ou : Option ℤ) → In64 l → Each In64 u → Each In64 ol → Each In64 ou → InUnit (option_and_then ends_fraction (option_map Integers (typed_ends l u ol ou)))
unfolding ends_fraction
integers_unit l None ol ou hl hu hol hou = tt
integers_unit l (Some u) None ou hl hu hol hou = tt
integers_unit l (Some u) (Some ol) None hl hu hol hou = tt
integers_unit l (Some u) (Some ol) (Some ou) hl hu hol hou = discrete_unit l u ol ou hl hu hol hou

abbrev From : ℤ → ℤ → Type 0
From a x = In64 x × (offset a ≤ offset x)

abbrev UpTo : ℤ → ℤ → Type 0
UpTo a x = In64 x × (offset x ≤ offset a)

decimals_unit : (l u : ℤ) (ol ou : Option ℤ) → In64 l → In64 u → Each (From l) ol → Each (UpTo u) ou → InUnit (option_and_then ends_fraction (option_map Decimals (typed_ends l (Some u) ol ou)))
unfolding ends_fraction
decimals_unit l u None ou hl hu hol hou = tt
decimals_unit l u (Some ol) None hl hu hol hou = tt
decimals_unit l u (Some ol) (Some ou) hl hu hol hou = decimal_unit l u ol ou hl hu hol.0 hou.0 hol.1 hou.1

-- ---- the overlap of decimals lies in either range

module _ (p s : ℕ) where
  -- the number of a decimal of this precision and scale is within 64 bits
  abbrev pub Decimal64 : Scalar → Type 0
  Decimal64 x = Each In64 (as_decimal128 p s x)

  own : (P : ℤ → Type 0) (a : ℤ) → P a → Each P (as_decimal128 p s (Decimal128 a p s))
  own P a h = rw (eq-eqb p p refl, eq-eqb s s refl) h

  held : (a : ℤ) → Decimal64 (Decimal128 a p s) → In64 a
  held a h = rw (eq-eqb p p refl, eq-eqb s s refl) at h

  -- of two scalars the one that the test says
  tested : (P : ℤ → Type 0) (t : Bool) (x y : Scalar) → (t ≡ true → Each P (as_decimal128 p s x)) → (t ≡ false → Each P (as_decimal128 p s y)) → Each P (as_decimal128 p s (cond t x y))
  tested P true x y h k = h refl
  tested P false x y h k = k refl

  module _ (a : ℤ) (h : In64 a) where
    abbrev this : Scalar
    this = Decimal128 a p s

    this_from : Each (From a) (as_decimal128 p s this)
    this_from = own (From a) a (h, le_refl (offset a))

    this_up_to : Each (UpTo a) (as_decimal128 p s this)
    this_up_to = own (UpTo a) a (h, le_refl (offset a))

    lower_left : (r : Scalar) → Decimal64 r → Each (From a) (as_decimal128 p s (overlap_lower this r))
    unfolding overlap_lower scalar_order
    lower_left =
        decimal128_or_none p s
        (λ r o. Decimal64 r → Each (From a) (as_decimal128 p s (cond (is_less (option_and_then (integer_order a) o)) r this)))
        (λ r k. this_from)
        (λ b k. let i = held b k in tested (From a) (is_less (integer_order a b)) (Decimal128 b p s) this (λ e. own (From a) b (i, is_less_law a b h i e)) (λ e. this_from))

    upper_left : (r : Scalar) → Decimal64 r → Each (UpTo a) (as_decimal128 p s (overlap_upper this r))
    unfolding overlap_upper scalar_order
    upper_left =
        decimal128_or_none p s
        (λ r o. Decimal64 r → Each (UpTo a) (as_decimal128 p s (cond (is_greater (option_and_then (integer_order a) o)) r this)))
        (λ r k. this_up_to)
        (λ b k. let i = held b k in tested (UpTo a) (is_greater (integer_order a b)) (Decimal128 b p s) this (λ e. own (UpTo a) b (i, is_greater_law a b h i e)) (λ e. this_up_to))

    lower_right : (l : Scalar) → Decimal64 l → Each (From a) (as_decimal128 p s (overlap_lower l this))
    unfolding overlap_lower
    lower_right l =
        decimal128_or_none p s
        (λ l o. as_decimal128 p s l ≡ o → Decimal64 l → Each (From a) (as_decimal128 p s (cond (is_less (scalar_order l this)) this l)))
        (λ l n k. tested (From a) (is_less (scalar_order l this)) this l (λ e. this_from) (λ e. subst (Each (From a)) (sym n) tt))
        (λ b n k. let i = held b k in tested (From a) (is_less (scalar_order (Decimal128 b p s) this)) this (Decimal128 b p s) (λ e. this_from) (λ e. own (From a) b (i, is_not_less b a i h (sym (ap is_less (decimal_order b a p s)) ∙ e))))
        l refl

    upper_right : (l : Scalar) → Decimal64 l → Each (UpTo a) (as_decimal128 p s (overlap_upper l this))
    unfolding overlap_upper
    upper_right l =
        decimal128_or_none p s
        (λ l o. as_decimal128 p s l ≡ o → Decimal64 l → Each (UpTo a) (as_decimal128 p s (cond (is_greater (scalar_order l this)) this l)))
        (λ l n k. tested (UpTo a) (is_greater (scalar_order l this)) this l (λ e. this_up_to) (λ e. subst (Each (UpTo a)) (sym n) tt))
        (λ b n k. let i = held b k in tested (UpTo a) (is_greater (scalar_order (Decimal128 b p s) this)) this (Decimal128 b p s) (λ e. this_up_to) (λ e. own (UpTo a) b (i, is_not_greater b a i h (sym (ap is_greater (decimal_order b a p s)) ∙ e))))
        l refl

  -- a range from a decimal on, on the left and on the right
  pub left_decimals : (a : ℤ) (lu rl ru : Scalar) → In64 a → Decimal64 lu → Decimal64 rl → Decimal64 ru
      → InUnit (option_and_then ends_fraction (option_map Decimals (typed_ends a (as_decimal128 p s lu) (as_decimal128 p s (overlap_lower (Decimal128 a p s) rl)) (as_decimal128 p s (overlap_upper lu ru)))))
  left_decimals a lu rl ru h hlu hrl hru =
      decimal128_or_none p s
      (λ u o. Decimal64 u → InUnit (option_and_then ends_fraction (option_map Decimals (typed_ends a o (as_decimal128 p s (overlap_lower (Decimal128 a p s) rl)) (as_decimal128 p s (overlap_upper u ru))))))
      (λ u k. tt)
      (λ b k. let i = held b k in decimals_unit a b (as_decimal128 p s (overlap_lower (Decimal128 a p s) rl)) (as_decimal128 p s (overlap_upper (Decimal128 b p s) ru)) h i (lower_left a h rl hrl) (upper_left b i ru hru))
      lu hlu

  pub right_decimals : (a : ℤ) (ll lu ru : Scalar) → In64 a → Decimal64 ll → Decimal64 lu → Decimal64 ru
      → InUnit (option_and_then ends_fraction (option_map Decimals (typed_ends a (as_decimal128 p s ru) (as_decimal128 p s (overlap_lower ll (Decimal128 a p s))) (as_decimal128 p s (overlap_upper lu ru)))))
  right_decimals a ll lu ru h hll hlu hru =
      decimal128_or_none p s
      (λ u o. Decimal64 u → InUnit (option_and_then ends_fraction (option_map Decimals (typed_ends a o (as_decimal128 p s (overlap_lower ll (Decimal128 a p s))) (as_decimal128 p s (overlap_upper lu u))))))
      (λ u k. tt)
      (λ b k. let i = held b k in decimals_unit a b (as_decimal128 p s (overlap_lower ll (Decimal128 a p s))) (as_decimal128 p s (overlap_upper lu (Decimal128 b p s))) h i (lower_right a h ll hll) (upper_right b i lu hlu))
      ru hru
