-- Worked fractions and intersections. Assumes nothing.
use Rattle.std.specs.Prelude.{◌≡◌, refl, true, false, ℤ, pos, negsuc, Float, Some, None}
use Rattle.std.specs.Float.{fin, float_is_finite}
use Rattle.std.specs.Float.Ieee.{of_int, sub, mul, div, lt, eq, le}
use Rattle.float.specs.Order.{f64_zero, f64_one}
use Rattle.scalar.specs.declared.Scalar.TheVariants.{Int32, Int64, Float64, Decimal128, IntervalDayTime}
use Rattle.records.specs.declared.columns.ColumnProfile.{ColumnProfile}
use Rattle.interval.specs.Intervals.{interval_of}
use Rattle.interval.specs.Fraction.{scalar_interval_fraction}
use Rattle.interval.specs.Intersection.{estimated_distinct_intersection}

-- ---- fractions

-- Float64 from 2 to 2
float_point : scalar_interval_fraction (interval_of (Float64 (fin false 1 (pos 1))) (Float64 (fin false 1 (pos 1)))) (interval_of (Float64 (fin false 1 (pos 1))) (Float64 (fin false 1 (pos 1)))) ≡ Some f64_one
unfolding scalar_interval_fraction float_is_finite sub lt eq
float_point = refl

-- Float64 from 2 to 1
float_reversed : scalar_interval_fraction (interval_of (Float64 (fin false 1 (pos 1))) (Float64 f64_one)) (interval_of (Float64 f64_one) (Float64 f64_one)) ≡ None
unfolding scalar_interval_fraction float_is_finite sub lt
float_reversed = refl

-- Int32 from 5 to 3: the width is -1
int32_reversed : scalar_interval_fraction (interval_of (Int32 (pos 5)) (Int32 (pos 3))) (interval_of (Int32 (pos 5)) (Int32 (pos 3))) ≡ None
unfolding scalar_interval_fraction of_int lt
int32_reversed = refl

-- all of Int64, whose width is 2 ^ 64, and its upper half
int64_whole : scalar_interval_fraction (interval_of (Int64 (negsuc 0x7fff_ffff_ffff_ffff)) (Int64 (pos 0x7fff_ffff_ffff_ffff))) (interval_of (Int64 (pos 0)) (Int64 (pos 0x7fff_ffff_ffff_ffff))) ≡ Some (fin false 1 (negsuc 0))
unfolding scalar_interval_fraction of_int div lt
int64_whole = refl

-- decimals from 1 to 0, with the overlap from 0 to 0: 0 / -1, which is -0
decimal_reversed : scalar_interval_fraction (interval_of (Decimal128 (pos 1) 5 2) (Decimal128 (pos 0) 5 2)) (interval_of (Decimal128 (pos 0) 5 2) (Decimal128 (pos 0) 5 2)) ≡ Some (fin true 0 (pos 0))
unfolding scalar_interval_fraction of_int div lt
decimal_reversed = refl

unlike_types : scalar_interval_fraction (interval_of (Int32 (pos 0)) (Int64 (pos 9))) (interval_of (Int32 (pos 0)) (Int32 (pos 9))) ≡ None
unfolding scalar_interval_fraction
unlike_types = refl

unlike_scales : scalar_interval_fraction (interval_of (Decimal128 (pos 0) 5 2) (Decimal128 (pos 9) 5 2)) (interval_of (Decimal128 (pos 0) 5 2) (Decimal128 (pos 9) 5 3)) ≡ None
unfolding scalar_interval_fraction
unlike_scales = refl

no_width : scalar_interval_fraction (interval_of (IntervalDayTime (pos 0) (pos 0)) (IntervalDayTime (pos 9) (pos 0))) (interval_of (IntervalDayTime (pos 0) (pos 0)) (IntervalDayTime (pos 9) (pos 0))) ≡ None
unfolding scalar_interval_fraction
no_width = refl

-- ---- intersections of two columns, whatever their profiles say beside the bounds

abbrev four : Float
four = fin false 1 (pos 2)

-- with Int32 bounds
abbrev between : ColumnProfile → ℤ → ℤ → ColumnProfile
between p lower upper = record {
  column = p.column;
  base = p.base;
  lower = Some (Int32 lower);
  upper = Some (Int32 upper);
  frequency = p.frequency;
  distinct = p.distinct;
  sketch = p.sketch;
}

apart : (p q : ColumnProfile) → estimated_distinct_intersection (between p (pos 0) (pos 9)) (between q (pos 10) (pos 19)) four four ≡ record { distinct = f64_zero; domains_disjoint = true }
unfolding estimated_distinct_intersection le
apart p q = refl

-- 9 alone is in both
point : (p q : ColumnProfile) → estimated_distinct_intersection (between p (pos 0) (pos 9)) (between q (pos 9) (pos 19)) four four ≡ record { distinct = f64_one; domains_disjoint = false }
unfolding estimated_distinct_intersection of_int mul div le
point p q = refl

-- apart, but the left column has no values
no_distinct_law : (p q : ColumnProfile) → estimated_distinct_intersection (between p (pos 0) (pos 9)) (between q (pos 10) (pos 19)) f64_zero four ≡ record { distinct = f64_zero; domains_disjoint = false }
unfolding estimated_distinct_intersection le
no_distinct_law p q = refl
