-- What is read of a scalar as a value of one type. Assumes nothing.
use Prim.Native.Nat.{ℕ}
use mathlib.Core.Path.{◌≡◌, refl, subst}
use mathlib.Core.Logic.{◌≢◌}
use mathlib.Core.Bool.{Bool, true, false, cond, ◌&&◌}
use borrow.Author.Tests.{eqb-true}
use Rattle.std.proofs.lemmas.Bool.{and_parts}
use lib.Dec.{eqb}
use lib.IntN.{ℤ, pos}
use lib.Ieee.{Float}
use Rattle.std.specs.Prelude.{Option, Some, None}
use Rattle.float.specs.Integers.{bit}
use Rattle.scalar.specs.Types.{as_boolean, as_int32, as_int64, as_float64, as_decimal128, as_date32, as_month_day_nano, as_day_time}
use Rattle.scalar.specs.declared.Scalar.{Scalar}
use Rattle.scalar.specs.declared.Scalar.TheVariants.{Null, Boolean, Int32, Int64, Float64, Decimal128, Date32, IntervalMonthDayNano, IntervalDayTime}
use Rattle.scalar.specs.declared.types.MonthDayNano.{MonthDayNano}
use Rattle.scalar.specs.declared.types.DayTime.{DayTime}

-- ---- what holds of every scalar that gives none, and of one of the type with its numbers, holds of every scalar and what is read of it

module _ (P : Scalar → Option ℤ → Type 0) (none : (x : Scalar) → P x None) (some : (b : Bool) → P (Boolean b) (Some (pos (bit b)))) where
  pub boolean_or_none : (x : Scalar) → P x (as_boolean x)
  boolean_or_none (Boolean b) = some b
  boolean_or_none x = none x

module _ (P : Scalar → Option ℤ → Type 0) (none : (x : Scalar) → P x None) (some : (x : ℤ) → P (Int32 x) (Some x)) where
  pub int32_or_none : (x : Scalar) → P x (as_int32 x)
  int32_or_none (Int32 x) = some x
  int32_or_none x = none x

module _ (P : Scalar → Option ℤ → Type 0) (none : (x : Scalar) → P x None) (some : (x : ℤ) → P (Int64 x) (Some x)) where
  pub int64_or_none : (x : Scalar) → P x (as_int64 x)
  int64_or_none (Int64 x) = some x
  int64_or_none x = none x

module _ (P : Scalar → Option ℤ → Type 0) (none : (x : Scalar) → P x None) (some : (x : ℤ) → P (Date32 x) (Some x)) where
  pub date32_or_none : (x : Scalar) → P x (as_date32 x)
  date32_or_none (Date32 x) = some x
  date32_or_none x = none x

module _ (P : Scalar → Option Float → Type 0) (none : (x : Scalar) → P x None) (some : (x : Float) → P (Float64 x) (Some x)) where
  pub float64_or_none : (x : Scalar) → P x (as_float64 x)
  float64_or_none (Float64 x) = some x
  float64_or_none x = none x

module _ (P : Scalar → Option MonthDayNano → Type 0) (none : (x : Scalar) → P x None) (some : (months days nanoseconds : ℤ) → P (IntervalMonthDayNano months days nanoseconds) (Some (record { months = months; days = days; nanoseconds = nanoseconds }))) where
  pub month_day_nano_or_none : (x : Scalar) → P x (as_month_day_nano x)
  month_day_nano_or_none (IntervalMonthDayNano months days nanoseconds) = some months days nanoseconds
  month_day_nano_or_none x = none x

module _ (P : Scalar → Option DayTime → Type 0) (none : (x : Scalar) → P x None) (some : (days milliseconds : ℤ) → P (IntervalDayTime days milliseconds) (Some (record { days = days; milliseconds = milliseconds }))) where
  pub day_time_or_none : (x : Scalar) → P x (as_day_time x)
  day_time_or_none (IntervalDayTime days milliseconds) = some days milliseconds
  day_time_or_none x = none x

module _ (p s : ℕ) (P : Scalar → Option ℤ → Type 0) (none : (x : Scalar) → P x None) (some : (value : ℤ) → P (Decimal128 value p s) (Some value)) where
  pub decimal128_or_none : (x : Scalar) → P x (as_decimal128 p s x)
  decimal128_or_none (Decimal128 value precision scale) = go (eqb p precision && eqb s scale) refl
    where
      same : (eqb p precision && eqb s scale) ≡ true → Decimal128 value p s ≡ Decimal128 value precision scale
      same h =
          let parts = and_parts (eqb p precision) (eqb s scale) h in
          let x = eqb-true p precision parts.0 in
          let y = eqb-true s scale parts.1 in
          λ i. Decimal128 value (x i) (y i)

      go : (t : Bool) → (eqb p precision && eqb s scale) ≡ t → P (Decimal128 value precision scale) (cond t (Some value) None)
      go true h = subst (λ (x : Scalar). P x (Some value)) (same h) (some value)
      go false h = none (Decimal128 value precision scale)
  decimal128_or_none x = none x

-- ---- a scalar of another type gives none

-- which case a scalar is: the tag of its encoding, and 0 for Null
abbrev pub scalar_tag : Scalar → ℕ
scalar_tag Null = 0
scalar_tag (Boolean b) = 1
scalar_tag (Int32 x) = 2
scalar_tag (Int64 x) = 3
scalar_tag (Float64 x) = 4
scalar_tag (Decimal128 value precision scale) = 5
scalar_tag (Date32 x) = 6
scalar_tag (IntervalMonthDayNano months days nanoseconds) = 8
scalar_tag (IntervalDayTime days milliseconds) = 9

pub boolean_other : (y : Scalar) → 1 ≢ scalar_tag y → as_boolean y ≡ None
boolean_other = boolean_or_none (λ y o. 1 ≢ scalar_tag y → o ≡ None) (λ y h. refl) (λ x h. absurd (h refl))

pub int32_other : (y : Scalar) → 2 ≢ scalar_tag y → as_int32 y ≡ None
int32_other = int32_or_none (λ y o. 2 ≢ scalar_tag y → o ≡ None) (λ y h. refl) (λ x h. absurd (h refl))

pub int64_other : (y : Scalar) → 3 ≢ scalar_tag y → as_int64 y ≡ None
int64_other = int64_or_none (λ y o. 3 ≢ scalar_tag y → o ≡ None) (λ y h. refl) (λ x h. absurd (h refl))

pub float64_other : (y : Scalar) → 4 ≢ scalar_tag y → as_float64 y ≡ None
float64_other = float64_or_none (λ y o. 4 ≢ scalar_tag y → o ≡ None) (λ y h. refl) (λ x h. absurd (h refl))

pub decimal128_other : (p s : ℕ) (y : Scalar) → 5 ≢ scalar_tag y → as_decimal128 p s y ≡ None
decimal128_other p s = decimal128_or_none p s (λ y o. 5 ≢ scalar_tag y → o ≡ None) (λ y h. refl) (λ x h. absurd (h refl))

pub date32_other : (y : Scalar) → 6 ≢ scalar_tag y → as_date32 y ≡ None
date32_other = date32_or_none (λ y o. 6 ≢ scalar_tag y → o ≡ None) (λ y h. refl) (λ x h. absurd (h refl))

pub month_day_nano_other : (y : Scalar) → 8 ≢ scalar_tag y → as_month_day_nano y ≡ None
month_day_nano_other = month_day_nano_or_none (λ y o. 8 ≢ scalar_tag y → o ≡ None) (λ y h. refl) (λ m d n h. absurd (h refl))

pub day_time_other : (y : Scalar) → 9 ≢ scalar_tag y → as_day_time y ≡ None
day_time_other = day_time_or_none (λ y o. 9 ≢ scalar_tag y → o ≡ None) (λ y h. refl) (λ d t h. absurd (h refl))
