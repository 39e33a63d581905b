-- Worked estimates of joins: the bits are those that Rust's operations print. Assumes nothing.
use Rattle.std.specs.Prelude.{◌≡◌, ℕ, false, List, [], ◌∷◌, pos, negsuc, refl, Float, Option, Some, None}
use Rattle.std.specs.Float.{binary64, fin}
use Rattle.std.specs.Float.Ieee.{of_bits, of_int, add, sub, mul, div, lt, le}
use Rattle.scalar.specs.Order.{scalar_order}
use Rattle.scalar.specs.declared.Scalar.TheVariants.{Int64}
use Rattle.estimate.specs.Estimates.{estimate_of}
use Rattle.estimate.specs.declared.Estimate.{Estimate}
use Rattle.estimate.specs.declared.EstimateSource.TheVariants.{Catalog}
use Rattle.records.specs.Sketches.{Sketch}
use Rattle.records.specs.declared.columns.ColumnProfile.{ColumnProfile}
use Rattle.sketch.specs.Frequent.{no_sketch}
use Rattle.sketch_join.specs.SketchJoin.{sketch_join_estimate, sketch_left_match_probability}

-- 7, -9 and 4 are in the first two sketches, where the second counts -9 at least 0 times; 5 is in the third alone; the fourth has no rows
abbrev sketches : List Sketch
sketches =
    record {
      population = 1000;
      items =
          record { value = Int64 (pos 7); lower = 100; error = 21 }
          ∷ record { value = Int64 (negsuc 8); lower = 300; error = 0 }
          ∷ record { value = Int64 (pos 4); lower = 50; error = 0 }
          ∷ [];
    }
    ∷ record {
      population = 300;
      items =
          record { value = Int64 (pos 4); lower = 20; error = 0 }
          ∷ record { value = Int64 (pos 7); lower = 30; error = 3 }
          ∷ record { value = Int64 (negsuc 8); lower = 0; error = 5 }
          ∷ [];
    }
    ∷ record { population = 300; items = record { value = Int64 (pos 5); lower = 20; error = 0 } ∷ [] }
    ∷ no_sketch
    ∷ []

abbrev number : ℕ → Float
number n = fin false n (pos 0)

abbrev figure : ℕ → Estimate
figure n = estimate_of (number n) None None Catalog

-- how often it is not null, and its distinct values
abbrev profile_of : ℕ → ℕ → Option ℕ → ColumnProfile
profile_of frequency distinct sketch = record {
  column = 0;
  base = None;
  lower = None;
  upper = None;
  frequency = figure frequency;
  distinct = figure distinct;
  sketch = sketch;
}

-- 600 of 800 rows on the left are not null, all 70 on the right
abbrev estimate : Option ℕ → Option ℕ → Option Float
estimate left right = sketch_join_estimate sketches (profile_of 600 9 left) (number 800) (profile_of 70 40 right) (number 70)

abbrev probability : Option ℕ → Option ℕ → ℕ → ℕ → Option Float
probability left right intersection distinct = sketch_left_match_probability sketches (profile_of 600 9 left) (number 800) (profile_of 70 40 right) (number intersection) (number distinct)

-- ---- pairs of rows

-- 4000 pairs and 600 * 250 / 38 of 300000
two_common : estimate (Some 0) (Some 1) ≡ Some (of_bits binary64 0x3f9b_2084_38c4_e53c)
unfolding sketch_join_estimate scalar_order of_int add sub mul div lt le of_bits
two_common = refl

-- 750 * 300 / 40 of 300000
no_common : estimate (Some 0) (Some 2) ≡ Some (of_bits binary64 0x3f93_3333_3333_3333)
unfolding sketch_join_estimate scalar_order of_int sub mul add div lt le of_bits
no_common = refl

no_rows : estimate (Some 0) (Some 3) ≡ None
unfolding sketch_join_estimate
no_rows = refl

no_sketch_law : estimate (Some 0) None ≡ None
unfolding sketch_join_estimate
no_sketch_law = refl

-- ---- rows of the left side

-- 150 rows and 600 * 3 / 7 of 1000
some_match : probability (Some 0) (Some 1) 5 9 ≡ Some (of_bits binary64 0x3fda_0ea0_ea0e_a0ea)
unfolding sketch_left_match_probability scalar_order of_int add sub mul div lt le of_bits
some_match = refl

-- no distinct value is left
none_left : probability (Some 0) (Some 1) 5 2 ≡ Some (of_bits binary64 0x3fc3_3333_3333_3333)
unfolding sketch_left_match_probability scalar_order of_int add sub mul div lt le of_bits
none_left = refl

-- 750 * 5 / 9 of 1000
no_known_match : probability (Some 0) (Some 2) 5 9 ≡ Some (of_bits binary64 0x3fda_aaaa_aaaa_aaab)
unfolding sketch_left_match_probability scalar_order of_int add sub mul div lt le of_bits
no_known_match = refl

past_the_sketches : probability (Some 4) (Some 1) 5 9 ≡ None
unfolding sketch_left_match_probability
past_the_sketches = refl
