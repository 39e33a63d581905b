-- Worked values at the edges of the laws. Assumes nothing.
use Rattle.std.specs.Prelude.{◌≡◌, refl, true, false, pos, negsuc, Float, Some}
use Rattle.std.specs.Float.{fin, float_is_finite}
use Rattle.std.specs.Float.Ieee.{of_int, sub, mul, div, lt, eq, le}
use Rattle.float.specs.Order.{f64_zero, f64_one}
use Rattle.scalar.specs.declared.Scalar.TheVariants.{Int32}
use Rattle.records.specs.declared.columns.ColumnProfile.{ColumnProfile}
use Rattle.interval.specs.Intervals.{interval_of}
use Rattle.interval.specs.Fraction.{ends_of, continuous}
use Rattle.interval.specs.Intersection.{estimated_distinct_intersection}

-- of floats that no sheet may hold, the fraction may be -0: (2 ^ -1074 - 2 ^ -1073) / 2 ^ 400
unlawful_minus_zero : continuous (ends_of (interval_of f64_zero (fin false 1 (pos 400))) (interval_of (fin false 1 (negsuc 1072)) (fin false 1 (negsuc 1073)))) ≡ Some (fin true 0 (pos 0))
unfolding continuous float_is_finite sub div lt eq
unlawful_minus_zero = refl

abbrev half : Float
half = fin false 1 (negsuc 0)

-- with the Int32 9 as both bounds
abbrev nine : ColumnProfile → ColumnProfile
nine p = record {
  column = p.column;
  base = p.base;
  lower = Some (Int32 (pos 9));
  upper = Some (Int32 (pos 9));
  frequency = p.frequency;
  distinct = p.distinct;
  sketch = p.sketch;
}

-- an overlap that is a point counts as 1, though both distincts are smaller
point_above_distincts : (p q : ColumnProfile) → (estimated_distinct_intersection (nine p) (nine q) half half).distinct ≡ f64_one
unfolding estimated_distinct_intersection of_int mul div lt le
point_above_distincts p q = refl
