-- The arms of the source's scalar_order, one by one. Assumes nothing.
use Prim.Native.Nat.{ℕ}
use mathlib.Core.Path.{◌≡◌, refl, ap}
use mathlib.Core.Logic.{◌≢◌, ◌⊎◌, inl, inr}
use mathlib.Core.Bool.{Bool, and-false}
use borrow.Author.Tests.{eq-eqb, ne_eqb}
use lib.IntN.{ℤ, pos}
use lib.Ieee.{Float}
use Rattle.float.specs.Integers.{bit}
use Rattle.std.specs.Prelude.{Option, Some, None, option_map}
use Rattle.std.specs.Ordering.{float_partial_cmp, partial_ordering_then, ordering_reverse}
use Rattle.std.specs.declared.cmp.Ordering.{Ordering}
use Rattle.std.specs.declared.cmp.Ordering.TheVariants.{Less, Equal, Greater}
use Rattle.std.proofs.lemmas.Cmp.{int_cmp_total}
use Rattle.scalar.specs.Order.{integer_order, scalar_order}
use Rattle.scalar.specs.declared.Scalar.{Scalar}
use Rattle.scalar.specs.declared.Scalar.TheVariants.{Null, Boolean, Int32, Int64, Float64, Decimal128, Date32, IntervalMonthDayNano, IntervalDayTime}
use Rattle.scalar.proofs.TypeLaws.{scalar_tag, boolean_other, int32_other, int64_other, float64_other, decimal128_other, date32_other, month_day_nano_other, day_time_other}

-- ---- one type

pub boolean_order : (a b : Bool) → scalar_order (Boolean a) (Boolean b) ≡ integer_order (pos (bit a)) (pos (bit b))
unfolding scalar_order
boolean_order a b = refl

pub int32_order : (a b : ℤ) → scalar_order (Int32 a) (Int32 b) ≡ integer_order a b
unfolding scalar_order
int32_order a b = refl

pub int64_order : (a b : ℤ) → scalar_order (Int64 a) (Int64 b) ≡ integer_order a b
unfolding scalar_order
int64_order a b = refl

pub date32_order : (a b : ℤ) → scalar_order (Date32 a) (Date32 b) ≡ integer_order a b
unfolding scalar_order
date32_order a b = refl

pub float64_order : (x y : Float) → scalar_order (Float64 x) (Float64 y) ≡ float_partial_cmp x y
unfolding scalar_order
float64_order x y = refl

pub decimal_order : (a b : ℤ) (p s : ℕ) → scalar_order (Decimal128 a p s) (Decimal128 b p s) ≡ integer_order a b
unfolding scalar_order
decimal_order a b p s = rw (eq-eqb p p refl, eq-eqb s s refl) refl

then_assoc : (o p q : Option Ordering) → partial_ordering_then (partial_ordering_then o p) q ≡ partial_ordering_then o (partial_ordering_then p q)
then_assoc None p q = refl
then_assoc (Some Less) p q = refl
then_assoc (Some Equal) p q = refl
then_assoc (Some Greater) p q = refl

pub month_day_nano_order_law : (m d n m' d' n' : ℤ) → scalar_order (IntervalMonthDayNano m d n) (IntervalMonthDayNano m' d' n') ≡ partial_ordering_then (integer_order m m') (partial_ordering_then (integer_order d d') (integer_order n n'))
unfolding scalar_order
month_day_nano_order_law m d n m' d' n' = then_assoc (integer_order m m') (integer_order d d') (integer_order n n')

pub day_time_order_law : (d t d' t' : ℤ) → scalar_order (IntervalDayTime d t) (IntervalDayTime d' t') ≡ partial_ordering_then (integer_order d d') (integer_order t t')
unfolding scalar_order
day_time_order_law d t d' t' = refl

-- ---- no order

pub unlike_types : (a b : Scalar) → scalar_tag a ≢ scalar_tag b → scalar_order a b ≡ None
unfolding scalar_order
unlike_types Null b h = refl
unlike_types (Boolean x) b h = rw (boolean_other b h) refl
unlike_types (Int32 x) b h = rw (int32_other b h) refl
unlike_types (Int64 x) b h = rw (int64_other b h) refl
unlike_types (Float64 x) b h = rw (float64_other b h) refl
unlike_types (Decimal128 x p s) b h = rw (decimal128_other p s b h) refl
unlike_types (Date32 x) b h = rw (date32_other b h) refl
unlike_types (IntervalMonthDayNano m d n) b h = rw (month_day_nano_other b h) refl
unlike_types (IntervalDayTime d t) b h = rw (day_time_other b h) refl

pub unlike_decimals : (a b : ℤ) (p q s t : ℕ) → (p ≢ q) ⊎ (s ≢ t) → scalar_order (Decimal128 a p s) (Decimal128 b q t) ≡ None
unfolding scalar_order
unlike_decimals a b p q s t (inl h) = rw (ne_eqb p q h) refl
unlike_decimals a b p q s t (inr h) = rw (ne_eqb s t h, and-false) refl

pub null_left : (b : Scalar) → scalar_order Null b ≡ None
unfolding scalar_order
null_left b = refl

pub null_right : (a : Scalar) → scalar_order a Null ≡ None
unfolding scalar_order
null_right Null = refl
null_right _ = refl

-- ---- the other way round

abbrev pub reversed : Option Ordering → Option Ordering
reversed = option_map ordering_reverse

pub integer_reversed : (a b : ℤ) → integer_order b a ≡ reversed (integer_order a b)
integer_reversed a b = ap Some (int_cmp_total.antisymm b a)
