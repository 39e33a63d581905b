-- Worked splits: an And within an And, an empty And, an Or, and what is neither. Assumes nothing.
use Rattle.std.specs.Prelude.{◌≡◌, refl, [], ◌∷◌, None}
use Rattle.float.specs.Order.{f64_zero}
use Rattle.estimate.specs.Estimates.{estimate_of}
use Rattle.estimate.specs.declared.Estimate.{Estimate}
use Rattle.estimate.specs.declared.EstimateSource.TheVariants.{Catalog}
use Rattle.records.specs.declared.expressions.NaryOp.TheVariants.{And, Or}
use Rattle.records.specs.declared.expressions.Expression.TheVariants.{Nary, Like, Other}
use Rattle.sheet.specs.Sheet.{Sheet}
use Rattle.split.specs.Conjuncts.{conjuncts}

abbrev nothing : Estimate
nothing = estimate_of f64_zero None None Catalog

-- expression 4 is an And of 2 and of 3, which is an And of 0, 1 and 0; 2 is an Or of 1
abbrev sheet : Sheet
sheet = record {
  left_rows = nothing;
  right_rows = nothing;
  settings = record {
    like_selectivity = f64_zero;
    default_predicate_selectivity = f64_zero;
    range_fallback_selectivity = f64_zero;
    unknown_scan_rows = f64_zero;
    unknown_column_ndv_cap = f64_zero;
  };
  sketches = [];
  tables = [];
  keys = [];
  left_columns = [];
  right_columns = [];
  left_classes = [];
  right_classes = [];
  expressions = Like ∷ Other ∷ Nary Or 0 1 ∷ Nary And 1 3 ∷ Nary And 4 2 ∷ Nary And 6 0 ∷ [];
  operands = 1 ∷ 0 ∷ 1 ∷ 0 ∷ 3 ∷ 2 ∷ [];
}

to_any_depth : conjuncts sheet 4 ≡ 0 ∷ 1 ∷ 0 ∷ 2 ∷ []
unfolding conjuncts
to_any_depth = refl

empty_and : conjuncts sheet 5 ≡ []
unfolding conjuncts
empty_and = refl

or_kept : conjuncts sheet 2 ≡ 2 ∷ []
unfolding conjuncts
or_kept = refl

like_kept : conjuncts sheet 0 ≡ 0 ∷ []
unfolding conjuncts
like_kept = refl
