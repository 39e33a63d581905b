-- The arms of the source's scalar_interval_fraction, one by one. Assumes nothing.
use Prim.Native.Nat.{ℕ}
use mathlib.Core.Path.{◌≡◌, refl}
use mathlib.Core.Logic.{◌≢◌, ◌⊎◌, inl, inr}
use mathlib.Core.Bool.{Bool, true, false, cond, ◌&&◌, and-false}
use borrow.Author.Tests.{eq-eqb, ne_eqb}
use lib.IntN.{ℤ, pos}
use lib.Ieee.{Float}
use Rattle.std.specs.Prelude.{Option, Some, None, is_some, option_and_then}
use Rattle.float.specs.Integers.{bit}
use Rattle.scalar.specs.Types.{is_null, as_boolean, as_int32, as_int64, as_float64, as_decimal128, as_date32, as_month_day_nano, as_day_time}
use Rattle.scalar.specs.declared.Scalar.{Scalar}
use Rattle.scalar.specs.declared.Scalar.TheVariants.{Null, Boolean, Int32, Int64, Float64, Decimal128, Date32, IntervalMonthDayNano, IntervalDayTime}
use Rattle.scalar.proofs.TypeLaws.{scalar_tag, boolean_other, int32_other, int64_other, float64_other, decimal128_other, date32_other}
use Rattle.interval.specs.Intervals.{interval_of}
use Rattle.interval.specs.Fraction.{ends_of, discrete, continuous, decimal, typed_ends, widthless_ends, ends_fraction, scalar_interval_fraction}
use Rattle.interval.specs.declared.fraction.ScalarEnds.TheVariants.{NoWidth}

-- ---- one type

pub boolean_fraction : (a b c d : Bool) → scalar_interval_fraction (interval_of (Boolean a) (Boolean b)) (interval_of (Boolean c) (Boolean d)) ≡ discrete (ends_of (interval_of (pos (bit a)) (pos (bit b))) (interval_of (pos (bit c)) (pos (bit d))))
unfolding scalar_interval_fraction
boolean_fraction a b c d = refl

pub int32_fraction : (a b c d : ℤ) → scalar_interval_fraction (interval_of (Int32 a) (Int32 b)) (interval_of (Int32 c) (Int32 d)) ≡ discrete (ends_of (interval_of a b) (interval_of c d))
unfolding scalar_interval_fraction
int32_fraction a b c d = refl

pub int64_fraction : (a b c d : ℤ) → scalar_interval_fraction (interval_of (Int64 a) (Int64 b)) (interval_of (Int64 c) (Int64 d)) ≡ discrete (ends_of (interval_of a b) (interval_of c d))
unfolding scalar_interval_fraction
int64_fraction a b c d = refl

pub date32_fraction : (a b c d : ℤ) → scalar_interval_fraction (interval_of (Date32 a) (Date32 b)) (interval_of (Date32 c) (Date32 d)) ≡ discrete (ends_of (interval_of a b) (interval_of c d))
unfolding scalar_interval_fraction
date32_fraction a b c d = refl

pub float64_fraction : (a b c d : Float) → scalar_interval_fraction (interval_of (Float64 a) (Float64 b)) (interval_of (Float64 c) (Float64 d)) ≡ continuous (ends_of (interval_of a b) (interval_of c d))
unfolding scalar_interval_fraction
float64_fraction a b c d = refl

pub decimal_fraction : (a b c d : ℤ) (p s : ℕ) → scalar_interval_fraction (interval_of (Decimal128 a p s) (Decimal128 b p s)) (interval_of (Decimal128 c p s) (Decimal128 d p s)) ≡ decimal (ends_of (interval_of a b) (interval_of c d))
unfolding scalar_interval_fraction
decimal_fraction a b c d p s = rw (eq-eqb p p refl, eq-eqb s s refl) refl

-- ---- no width

widthless_fraction : (a b c : Bool) → option_and_then ends_fraction (widthless_ends a b c) ≡ None
unfolding ends_fraction
widthless_fraction a b c = go (a && b && c)
  where
    go : (t : Bool) → option_and_then ends_fraction (cond t (Some NoWidth) None) ≡ None
    go true = refl
    go false = refl

pub null_fraction : (u ol ou : Scalar) → scalar_interval_fraction (interval_of Null u) (interval_of ol ou) ≡ None
unfolding scalar_interval_fraction
null_fraction u ol ou = widthless_fraction (is_null u) (is_null ol) (is_null ou)

pub month_day_nano_fraction : (m d n : ℤ) (u ol ou : Scalar) → scalar_interval_fraction (interval_of (IntervalMonthDayNano m d n) u) (interval_of ol ou) ≡ None
unfolding scalar_interval_fraction
month_day_nano_fraction m d n u ol ou = widthless_fraction (is_some (as_month_day_nano u)) (is_some (as_month_day_nano ol)) (is_some (as_month_day_nano ou))

pub day_time_fraction : (d t : ℤ) (u ol ou : Scalar) → scalar_interval_fraction (interval_of (IntervalDayTime d t) u) (interval_of ol ou) ≡ None
unfolding scalar_interval_fraction
day_time_fraction d t u ol ou = widthless_fraction (is_some (as_day_time u)) (is_some (as_day_time ol)) (is_some (as_day_time ou))

-- ---- unlike types

-- one of three
abbrev pub Any : (Scalar → Type 0) → Scalar → Scalar → Scalar → Type 0
Any P u ol ou = P u ⊎ (P ol ⊎ P ou)

any_map : (P Q : Scalar → Type 0) → ((x : Scalar) → P x → Q x) → (u ol ou : Scalar) → Any P u ol ou → Any Q u ol ou
any_map P Q f u ol ou (inl h) = inl (f u h)
any_map P Q f u ol ou (inr (inl h)) = inr (inl (f ol h))
any_map P Q f u ol ou (inr (inr h)) = inr (inr (f ou h))

typed_unlike : {T : Type 0} (x : T) (a b c : Option T) → (a ≡ None) ⊎ ((b ≡ None) ⊎ (c ≡ None)) → typed_ends x a b c ≡ None
typed_unlike x None b c h = refl
typed_unlike x (Some i) None c h = refl
typed_unlike x (Some i) (Some j) None h = refl
typed_unlike x (Some i) (Some j) (Some k) (inl h) = cc
typed_unlike x (Some i) (Some j) (Some k) (inr (inl h)) = cc
typed_unlike x (Some i) (Some j) (Some k) (inr (inr h)) = cc

pub unlike_types : (l u ol ou : Scalar) → Any (λ (x : Scalar). scalar_tag l ≢ scalar_tag x) u ol ou → scalar_interval_fraction (interval_of l u) (interval_of ol ou) ≡ None
unfolding scalar_interval_fraction
unlike_types Null u ol ou h = null_fraction u ol ou
unlike_types (Boolean x) u ol ou h = rw (typed_unlike (pos (bit x)) (as_boolean u) (as_boolean ol) (as_boolean ou) (any_map _ (λ (y : Scalar). as_boolean y ≡ None) boolean_other u ol ou h)) refl
unlike_types (Int32 x) u ol ou h = rw (typed_unlike x (as_int32 u) (as_int32 ol) (as_int32 ou) (any_map _ (λ (y : Scalar). as_int32 y ≡ None) int32_other u ol ou h)) refl
unlike_types (Int64 x) u ol ou h = rw (typed_unlike x (as_int64 u) (as_int64 ol) (as_int64 ou) (any_map _ (λ (y : Scalar). as_int64 y ≡ None) int64_other u ol ou h)) refl
unlike_types (Float64 x) u ol ou h = rw (typed_unlike x (as_float64 u) (as_float64 ol) (as_float64 ou) (any_map _ (λ (y : Scalar). as_float64 y ≡ None) float64_other u ol ou h)) refl
unlike_types (Decimal128 x p s) u ol ou h = rw (typed_unlike x (as_decimal128 p s u) (as_decimal128 p s ol) (as_decimal128 p s ou) (any_map _ (λ (y : Scalar). as_decimal128 p s y ≡ None) (decimal128_other p s) u ol ou h)) refl
unlike_types (Date32 x) u ol ou h = rw (typed_unlike x (as_date32 u) (as_date32 ol) (as_date32 ou) (any_map _ (λ (y : Scalar). as_date32 y ≡ None) date32_other u ol ou h)) refl
unlike_types (IntervalMonthDayNano m d n) u ol ou h = month_day_nano_fraction m d n u ol ou
unlike_types (IntervalDayTime d t) u ol ou h = day_time_fraction d t u ol ou

-- decimals of another precision or scale than the first
decimal_unlike : (b : ℤ) (p q s t : ℕ) → (p ≢ q) ⊎ (s ≢ t) → as_decimal128 p s (Decimal128 b q t) ≡ None
decimal_unlike b p q s t (inl h) = rw (ne_eqb p q h) refl
decimal_unlike b p q s t (inr h) = rw (ne_eqb s t h, and-false) refl

pub unlike_upper : (a b : ℤ) (p q s t : ℕ) (ol ou : Scalar) → (p ≢ q) ⊎ (s ≢ t) → scalar_interval_fraction (interval_of (Decimal128 a p s) (Decimal128 b q t)) (interval_of ol ou) ≡ None
unfolding scalar_interval_fraction
unlike_upper a b p q s t ol ou h = rw (typed_unlike a (as_decimal128 p s (Decimal128 b q t)) (as_decimal128 p s ol) (as_decimal128 p s ou) (inl (decimal_unlike b p q s t h))) refl

pub unlike_overlap_lower : (a b : ℤ) (p q s t : ℕ) (u ou : Scalar) → (p ≢ q) ⊎ (s ≢ t) → scalar_interval_fraction (interval_of (Decimal128 a p s) u) (interval_of (Decimal128 b q t) ou) ≡ None
unfolding scalar_interval_fraction
unlike_overlap_lower a b p q s t u ou h = rw (typed_unlike a (as_decimal128 p s u) (as_decimal128 p s (Decimal128 b q t)) (as_decimal128 p s ou) (inr (inl (decimal_unlike b p q s t h)))) refl

pub unlike_overlap_upper : (a b : ℤ) (p q s t : ℕ) (u ol : Scalar) → (p ≢ q) ⊎ (s ≢ t) → scalar_interval_fraction (interval_of (Decimal128 a p s) u) (interval_of ol (Decimal128 b q t)) ≡ None
unfolding scalar_interval_fraction
unlike_overlap_upper a b p q s t u ol h = rw (typed_unlike a (as_decimal128 p s u) (as_decimal128 p s ol) (as_decimal128 p s (Decimal128 b q t)) (inr (inr (decimal_unlike b p q s t h)))) refl
