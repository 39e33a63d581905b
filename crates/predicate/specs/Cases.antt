-- Worked predicates: those that document 01 marks, and an And within an And. Assumes nothing.
use Rattle.std.specs.Prelude.{ℕ, ◌≡◌, refl, false, [], ◌∷◌, pos, negsuc, Float, None, Some}
use Rattle.std.specs.Float.{fin, binary64}
use Rattle.std.specs.Float.Ieee.{round, lt, le, eq, sub, add, mul, div, neg}
use Rattle.float.specs.Order.{f64_zero, f64_one}
use Rattle.estimate.specs.Estimates.{estimate_of}
use Rattle.estimate.specs.declared.Estimate.{Estimate}
use Rattle.estimate.specs.declared.EstimateSource.TheVariants.{Catalog, Derived}
use Rattle.records.specs.declared.expressions.BinaryOp.TheVariants.{Eq, IsNotDistinctFrom}
use Rattle.records.specs.declared.expressions.NaryOp.TheVariants.{And, Or}
use Rattle.records.specs.declared.expressions.Expression.TheVariants.{ColumnRef, Binary, Nary, Other}
use Rattle.sheet.specs.Sheet.{Sheet}
use Rattle.predicate.specs.Predicate.{filter_selectivity_for_predicate}

abbrev plain : ℕ → ℕ → Estimate
plain m e = estimate_of (fin false m (pos e)) None None Catalog

-- column 1 of 100 rows is not null in 75, and the settings are the default ones
abbrev sheet : Sheet
sheet = record {
  left_rows = plain 25 2;
  right_rows = plain 25 1;
  settings = record {
    like_selectivity = round binary64 false 1 10;
    default_predicate_selectivity = fin false 1 (negsuc 1);
    range_fallback_selectivity = round binary64 false 33 100;
    unknown_scan_rows = fin false 125 (pos 3);
    unknown_column_ndv_cap = fin false 25 (pos 2);
  };
  sketches = [];
  tables = [];
  keys = [];
  left_columns = record {
    column = 1;
    base = None;
    lower = None;
    upper = None;
    frequency = plain 75 0;
    distinct = plain 5 1;
    sketch = None;
  } ∷ [];
  right_columns = [];
  left_classes = [];
  right_classes = [];
  expressions = ColumnRef 1 ∷ Binary Eq 0 0 ∷ Binary IsNotDistinctFrom 0 0 ∷ Other ∷ Other ∷ Nary Or 0 2 ∷ Nary And 2 0 ∷ Nary Or 2 0 ∷ Nary And 2 2 ∷ Nary And 4 2 ∷ [];
  operands = 3 ∷ 4 ∷ 1 ∷ 3 ∷ 8 ∷ 4 ∷ [];
}

-- derived, with the bounds 0 and 1
abbrev within : Float → Estimate
within value = estimate_of value (Some f64_zero) (Some f64_one) Derived

-- the column equal to itself: 0.75
itself : filter_selectivity_for_predicate sheet 1 ≡ within (fin false 3 (negsuc 1))
unfolding filter_selectivity_for_predicate lt le eq sub add mul div neg round
itself = refl

-- null-safe: 1
itself_null_safe : filter_selectivity_for_predicate sheet 2 ≡ within f64_one
unfolding filter_selectivity_for_predicate lt le eq sub add mul div neg round
itself_null_safe = refl

-- an Or of two others: 0.4375
either_other : filter_selectivity_for_predicate sheet 5 ≡ within (fin false 7 (negsuc 3))
unfolding filter_selectivity_for_predicate lt le eq sub add mul div neg round
either_other = refl

empty_and : filter_selectivity_for_predicate sheet 6 ≡ within f64_one
unfolding filter_selectivity_for_predicate lt le eq sub add mul div neg round
empty_and = refl

empty_or : filter_selectivity_for_predicate sheet 7 ≡ within f64_zero
unfolding filter_selectivity_for_predicate lt le eq sub add mul div neg round
empty_or = refl

-- an And of 0.75 and 0.25, and with 0.25 once more: 0.046875
nested : filter_selectivity_for_predicate sheet 9 ≡ within (fin false 3 (negsuc 5))
unfolding filter_selectivity_for_predicate lt le eq sub add mul div neg round
nested = refl
