-- Worked equalities: those that document 01 marks, at one edge, and a foreign key. Assumes nothing.
use Rattle.std.specs.Prelude.{ℕ, ◌≡◌, refl, Bool, true, false, List, [], ◌∷◌, pos, negsuc, Float, Some, None}
use Rattle.std.specs.Float.{binary64, fin}
use Rattle.std.specs.Float.Ieee.{round, of_int, add, sub, mul, div, lt, le, eq}
use Rattle.float.specs.Order.{f64_zero, f64_one}
use Rattle.scalar.specs.Order.{scalar_order}
use Rattle.scalar.specs.declared.Scalar.TheVariants.{Int32}
use Rattle.estimate.specs.Estimates.{estimate_of, max_by_value}
use Rattle.estimate.specs.declared.Estimate.{Estimate}
use Rattle.estimate.specs.declared.EstimateSource.TheVariants.{Catalog}
use Rattle.records.specs.Columns.{column_of}
use Rattle.records.specs.declared.catalog.Key.{Key}
use Rattle.records.specs.declared.catalog.Key.TheVariants.{Foreign}
use Rattle.records.specs.declared.columns.ColumnProfile.{ColumnProfile}
use Rattle.sheet.specs.Sheet.{Sheet}
use Rattle.edge.specs.Edge.{equality_edge_estimate}
use Rattle.edge.specs.declared.EqualityEdge.{EqualityEdge}
use Rattle.edge.specs.declared.EqualityEdgeEstimate.{EqualityEdgeEstimate}

abbrev number : ℕ → Float
number n = of_int binary64 (pos n)

-- of hundredths, which stand for their nearest float
abbrev hundredths : ℕ → Float
hundredths n = round binary64 false n 100

abbrev figure : ℕ → Estimate
figure n = estimate_of (number n) None None Catalog

-- how often a column is not null, and its distinct values
abbrev profile_of : ℕ → ℕ → ℕ → ColumnProfile
profile_of column frequency distinct = record {
  column = column;
  base = None;
  lower = None;
  upper = None;
  frequency = figure frequency;
  distinct = figure distinct;
  sketch = None;
}

-- 100 rows on the left and 50 on the right, the whole of table 8
abbrev sheet_with : ColumnProfile → ColumnProfile → List Key → Sheet
sheet_with left right keys = record {
  left_rows = figure 100;
  right_rows = figure 50;
  settings = record {
    like_selectivity = round binary64 false 1 10;
    default_predicate_selectivity = fin false 1 (negsuc 1);
    range_fallback_selectivity = round binary64 false 33 100;
    unknown_scan_rows = number 1000;
    unknown_column_ndv_cap = number 100;
  };
  sketches = [];
  tables = record { table = 7; rows = Some 400 } ∷ record { table = 8; rows = Some 50 } ∷ [];
  keys = keys;
  left_columns = left ∷ [];
  right_columns = right ∷ [];
  left_classes = [];
  right_classes = [];
  expressions = [];
  operands = [];
}

-- between columns whose classes have so many distinct values
abbrev edge : ℕ → ℕ → Bool → ℕ → ℕ → EqualityEdge
edge left right null_safe left_ndv right_ndv = record {
  left = left;
  right = right;
  null_safe = null_safe;
  chosen_ndv = max_by_value (figure left_ndv) (figure right_ndv);
  left_ndv = figure left_ndv;
  right_ndv = figure right_ndv;
}

abbrev plain : Sheet
plain = sheet_with (profile_of 1 100 10) (profile_of 2 50 25) []

ordinary : equality_edge_estimate plain (edge 1 2 false 10 25) ≡ record {
  pair_selectivity = hundredths 4;
  left_match_probability = f64_one;
  left_coverage = Some (record {
    column = 1;
    input_distinct = number 10;
    input_non_null_fraction = f64_one;
    intersection_distinct = number 10;
    non_null_match_probability = f64_one;
    null_match_probability = f64_zero;
    ordinary_non_null = true;
  });
  domains_disjoint = false;
}
unfolding equality_edge_estimate of_int round add sub mul div lt le eq
ordinary = refl

-- the right column first: classes with 40 and 16 distinct values give 16 / (16 * 40)
exchanged : equality_edge_estimate plain (edge 2 1 false 40 16) ≡ record {
  pair_selectivity = round binary64 false 25 1000;
  left_match_probability = f64_one;
  left_coverage = Some (record {
    column = 1;
    input_distinct = number 16;
    input_non_null_fraction = f64_one;
    intersection_distinct = number 16;
    non_null_match_probability = f64_one;
    null_match_probability = f64_zero;
    ordinary_non_null = true;
  });
  domains_disjoint = false;
}
unfolding equality_edge_estimate of_int round add sub mul div lt le eq
exchanged = refl

-- no input has column 3
not_found : equality_edge_estimate plain (edge 1 3 false 10 100) ≡ record {
  pair_selectivity = hundredths 10;
  left_match_probability = f64_one;
  left_coverage = None;
  domains_disjoint = false;
}
unfolding equality_edge_estimate of_int round add sub mul div lt le eq
not_found = refl

-- 0.171875 and 0.625
null_safe_law : equality_edge_estimate (sheet_with (profile_of 1 75 8) (profile_of 2 25 4) []) (edge 1 2 true 8 4) ≡ record {
  pair_selectivity = fin false 11 (negsuc 5);
  left_match_probability = fin false 5 (negsuc 2);
  left_coverage = Some (record {
    column = 1;
    input_distinct = number 8;
    input_non_null_fraction = hundredths 75;
    intersection_distinct = number 4;
    non_null_match_probability = fin false 3 (negsuc 2);
    null_match_probability = hundredths 25;
    ordinary_non_null = false;
  });
  domains_disjoint = false;
}
unfolding equality_edge_estimate of_int round add sub mul div lt le eq
null_safe_law = refl

-- ---- columns 1 and 2 that come from column 0 of tables 7 and 8, between bounds

abbrev based : ColumnProfile → ℕ → ℕ → ℕ → ColumnProfile
based p table low high = record {
  column = p.column;
  base = Some (column_of table 0);
  lower = Some (Int32 (pos low));
  upper = Some (Int32 (pos high));
  frequency = p.frequency;
  distinct = p.distinct;
  sketch = p.sketch;
}

-- the first refers to the second
abbrev referring : ℕ → ℕ → ℕ → ℕ → EqualityEdgeEstimate
referring low high other_low other_high =
    equality_edge_estimate
    (sheet_with (based (profile_of 1 75 10) 7 low high) (based (profile_of 2 50 25) 8 other_low other_high) (Foreign (column_of 7 0) (column_of 8 0) ∷ []))
    (edge 1 2 false 10 25)

disjoint : referring 0 9 10 19 ≡ record {
  pair_selectivity = f64_zero;
  left_match_probability = f64_zero;
  left_coverage = Some (record {
    column = 1;
    input_distinct = number 10;
    input_non_null_fraction = hundredths 75;
    intersection_distinct = f64_zero;
    non_null_match_probability = f64_zero;
    null_match_probability = f64_zero;
    ordinary_non_null = true;
  });
  domains_disjoint = true;
}
unfolding equality_edge_estimate scalar_order of_int round add sub mul div lt le eq
disjoint = refl

-- 0.75 / 50
reference : referring 0 9 9 19 ≡ record {
  pair_selectivity = round binary64 false 15 1000;
  left_match_probability = hundredths 75;
  left_coverage = Some (record {
    column = 1;
    input_distinct = number 10;
    input_non_null_fraction = hundredths 75;
    intersection_distinct = number 10;
    non_null_match_probability = hundredths 75;
    null_match_probability = f64_zero;
    ordinary_non_null = true;
  });
  domains_disjoint = false;
}
unfolding equality_edge_estimate scalar_order of_int round add sub mul div lt le eq
reference = refl
