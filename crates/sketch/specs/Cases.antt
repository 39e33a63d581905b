-- Worked selectivities: the bits are those that Rust's operations print. Assumes nothing.
use Rattle.std.specs.Prelude.{◌≡◌, ℕ, false, [], ◌∷◌, pos, negsuc, refl, Float, Option, Some, None}
use Rattle.std.specs.Float.{binary64, fin}
use Rattle.std.specs.Float.Ieee.{of_bits, of_int, add, sub, mul, div, lt, le}
use Rattle.float.specs.Order.{f64_zero}
use Rattle.scalar.specs.Order.{scalar_order}
use Rattle.scalar.specs.declared.Scalar.{Scalar}
use Rattle.scalar.specs.declared.Scalar.TheVariants.{Null, Int32, Int64}
use Rattle.estimate.specs.Estimates.{estimate_of}
use Rattle.estimate.specs.declared.Estimate.{Estimate}
use Rattle.estimate.specs.declared.EstimateSource.TheVariants.{Catalog}
use Rattle.records.specs.Sketches.{Sketch}
use Rattle.records.specs.declared.columns.ColumnProfile.{ColumnProfile}
use Rattle.sketch.specs.Frequent.{no_sketch, frequent_value_selectivity}

-- 7 among a thousand rows 100 to 121 times, -9 300 times
abbrev counted : Sketch
counted = record {
  population = 1000;
  items = record { value = Int64 (pos 7); lower = 100; error = 21 } ∷ record { value = Int64 (negsuc 8); lower = 300; error = 0 } ∷ [];
}

abbrev figure : Float → Estimate
figure x = estimate_of x None None Catalog

-- 9 distinct values
abbrev profile_of : Option ℕ → ColumnProfile
profile_of sketch = record {
  column = 0;
  base = None;
  lower = None;
  upper = None;
  frequency = figure f64_zero;
  distinct = figure (fin false 9 (pos 0));
  sketch = sketch;
}

abbrev selectivity : Option ℕ → Scalar → Option Float
selectivity sketch literal = frequent_value_selectivity (counted ∷ no_sketch ∷ []) (profile_of sketch) literal

-- 110.5 of 1000
found : selectivity (Some 0) (Int64 (pos 7)) ≡ Some (of_bits binary64 0x3fbc_49ba_5e35_3f7d)
unfolding frequent_value_selectivity scalar_order of_int add mul div lt le of_bits
found = refl

-- 600 of 1000, spread over 7 values
not_found : selectivity (Some 0) (Int64 (pos 8)) ≡ Some (of_bits binary64 0x3fb5_f15f_15f1_5f16)
unfolding frequent_value_selectivity scalar_order of_int sub div lt le of_bits
not_found = refl

-- a number of another type is another value
other_type : selectivity (Some 0) (Int32 (pos 7)) ≡ Some (of_bits binary64 0x3fb5_f15f_15f1_5f16)
unfolding frequent_value_selectivity scalar_order of_int sub div lt le of_bits
other_type = refl

no_rows : selectivity (Some 1) (Int64 (pos 7)) ≡ None
unfolding frequent_value_selectivity of_int le
no_rows = refl

no_null : selectivity (Some 0) Null ≡ None
unfolding frequent_value_selectivity
no_null = refl

no_sketch_law : selectivity None (Int64 (pos 7)) ≡ None
unfolding frequent_value_selectivity
no_sketch_law = refl
