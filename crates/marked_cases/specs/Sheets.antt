-- The sheets of document 01's marked sums. Definitions only.
use Rattle.std.specs.Prelude.{ℕ, false, List, [], ◌∷◌, pos, negsuc, None, Option, Some}
use Rattle.std.specs.Float.{binary64, fin}
use Rattle.std.specs.Float.Ieee.{round}
use Rattle.scalar.specs.declared.Scalar.TheVariants.{Int32}
use Rattle.scalar.specs.declared.Scalar.{Scalar}
use Rattle.estimate.specs.Estimates.{estimate_of}
use Rattle.estimate.specs.declared.Estimate.{Estimate}
use Rattle.estimate.specs.declared.EstimateSource.TheVariants.{Catalog}
use Rattle.records.specs.declared.columns.ColumnProfile.{ColumnProfile}
use Rattle.records.specs.declared.expressions.BinaryOp.TheVariants.{Eq, IsNotDistinctFrom}
use Rattle.records.specs.declared.expressions.NaryOp.TheVariants.{And, Or}
use Rattle.records.specs.declared.expressions.Expression.{Expression}
use Rattle.records.specs.declared.expressions.Expression.TheVariants.{ColumnRef, Binary, Nary, Other}
use Rattle.sheet.specs.Sheet.{Sheet}

-- m times 2 to the e, of source 1, without bounds
abbrev pub plain : ℕ → ℕ → Estimate
plain m e = estimate_of (fin false m (pos e)) None None Catalog

abbrev pub profile : ℕ → Option Scalar → Option Scalar → Estimate → Estimate → ColumnProfile
profile column lower upper frequency distinct = record {
  column = column;
  base = None;
  lower = lower;
  upper = upper;
  frequency = frequency;
  distinct = distinct;
  sketch = None;
}

abbrev pub int32 : ℕ → Option Scalar
int32 n = Some (Int32 (pos n))

-- 100 rows and 50, the default settings, a left and a right column; columns 1 to 3 are expressions 0 to 2, and a join's conjuncts come behind them
abbrev pub sheet_with : ColumnProfile → ColumnProfile → List Expression → List ℕ → Sheet
sheet_with left right expressions operands = record {
  left_rows = plain 25 2;
  right_rows = plain 25 1;
  settings = record {
    like_selectivity = round binary64 false 1 10;
    default_predicate_selectivity = fin false 1 (negsuc 1);
    range_fallback_selectivity = round binary64 false 33 100;
    unknown_scan_rows = fin false 125 (pos 3);
    unknown_column_ndv_cap = fin false 25 (pos 2);
  };
  sketches = [];
  tables = [];
  keys = [];
  left_columns = left ∷ [];
  right_columns = right ∷ [];
  left_classes = [];
  right_classes = [];
  expressions = ColumnRef 1 ∷ ColumnRef 2 ∷ ColumnRef 3 ∷ expressions;
  operands = operands;
}

-- left column 1: frequency 100, distinct 10; right column 2: frequency 50, distinct 25
abbrev pub left : ColumnProfile
left = profile 1 None None (plain 25 2) (plain 5 1)

abbrev pub right : ColumnProfile
right = profile 2 None None (plain 25 1) (plain 25 0)

-- 1 = 2
abbrev pub equality : Sheet
equality = sheet_with left right (Binary Eq 0 1 ∷ []) []

-- and a conjunct of kind 6
abbrev pub residual : Sheet
residual = sheet_with left right (Binary Eq 0 1 ∷ Other ∷ []) []

-- frequencies 75 and 25, distincts 8 and 4, null-safe
abbrev pub null_safe : Sheet
null_safe = sheet_with (profile 1 None None (plain 75 0) (plain 1 3)) (profile 2 None None (plain 25 0) (plain 1 2)) (Binary IsNotDistinctFrom 0 1 ∷ []) []

-- bounds 0..9 and 10..19
abbrev pub disjoint : Sheet
disjoint = sheet_with (profile 1 (int32 0) (int32 9) (plain 25 2) (plain 5 1)) (profile 2 (int32 10) (int32 19) (plain 25 1) (plain 25 0)) (Binary Eq 0 1 ∷ []) []

-- bounds 0..9 and 9..19, distincts 4 and 4
abbrev pub touching_left : ColumnProfile
touching_left = profile 1 (int32 0) (int32 9) (plain 25 2) (plain 1 2)

abbrev pub touching_right : ColumnProfile
touching_right = profile 2 (int32 9) (int32 19) (plain 25 1) (plain 1 2)

-- 1 = 2 and 2 null-safe 3
abbrev pub chain : Sheet
chain = sheet_with left right (Binary Eq 0 1 ∷ Binary IsNotDistinctFrom 1 2 ∷ []) []

-- 1 = 1 alone
abbrev pub self_equality : Sheet
self_equality = sheet_with left right (Binary Eq 0 0 ∷ []) []

-- frequency 75: expressions 3 and 4 are column 1 equal to itself, ordinary and null-safe
abbrev pub itself : Sheet
itself = sheet_with (profile 1 None None (plain 75 0) (plain 5 1)) right (Binary Eq 0 0 ∷ Binary IsNotDistinctFrom 0 0 ∷ []) []

-- expression 5 is an Or of two of kind 6, 6 an empty And, 7 an empty Or
abbrev pub logical : Sheet
logical = sheet_with left right (Other ∷ Other ∷ Nary Or 0 2 ∷ Nary And 2 0 ∷ Nary Or 2 0 ∷ []) (3 ∷ 4 ∷ [])
