-- `join_selectivity_from_conjuncts_with_config` of the source's analysis.rs. The conjuncts are a list of their own, so that a join can be asked about others than the sheet's. Definitions only.
use Rattle.std.specs.Prelude.{ℕ, cond, List, Some, Float}
use Rattle.std.specs.Float.{binary64}
use Rattle.std.specs.Float.Ieee.{mul}
use Rattle.float.specs.Order.{f64_zero, f64_max, clamp_unit}
use Rattle.estimate.specs.Estimates.{derived}
use Rattle.estimate.specs.declared.Estimate.{Estimate}
use Rattle.records.specs.Classes.{ColumnEquivalenceClass}
use Rattle.sheet.specs.Sheet.{Sheet}
use Rattle.range.specs.Selectivity.{unit_estimate}
use Rattle.class_state.specs.State.{into_classes}
use Rattle.equality_pairs.specs.Pairs.{equality_pairs}
use Rattle.equality_pairs.specs.NonNull.{non_null_marks, marked_columns}
use Rattle.edge.specs.declared.LeftEqualityCoverage.{LeftEqualityCoverage}
use Rattle.edge_fold.specs.Fold.{Folded, folded_pairs}
use Rattle.edge_fold.specs.declared.fold.EqualityFigures.{EqualityFigures}
use Rattle.join.specs.declared.figures.JoinFigures.{JoinFigures}
use Rattle.join.specs.Residual.{residual_from, residual_selectivity, residual_match_probability}

pub record JoinSelectivityEstimate : Type 0 where
  pub selectivity : Estimate
  pub equivalence_classes : List ColumnEquivalenceClass
  pub match_probability : Estimate
  pub left_equality_coverages : List LeftEqualityCoverage
  pub residual_selectivity : Float
  pub non_null_equality_columns : List ℕ

-- ---- the figures

unfoldable pub join_selectivity : Float → Float → Float
join_selectivity equality residual = clamp_unit (mul binary64 equality residual)

unfoldable pub first_moment_upper : Float → Float → Float
first_moment_upper right_rows selectivity = clamp_unit (mul binary64 right_rows selectivity)

-- with no equality between the inputs, the expected number of partners
abbrev pub join_match : EqualityFigures → Float → Float → Float → Float
join_match figures right_rows residual upper = cond figures.has_cross_input_equality (residual_match_probability figures.match_probability figures.selectivity right_rows residual) upper

unfoldable pub match_estimate : Float → Float → Estimate
unfolding derived
match_estimate match upper = derived match (Some f64_zero) (Some (f64_max upper match))

-- from those of the equalities, the right rows and the residual
unfoldable pub join_figures : EqualityFigures → Float → Float → JoinFigures
unfolding join_selectivity first_moment_upper residual_match_probability match_estimate unit_estimate
join_figures figures right_rows residual =
    let selectivity = join_selectivity figures.selectivity residual in
    let upper = first_moment_upper right_rows selectivity in
    record { selectivity = unit_estimate selectivity; match_probability = match_estimate (join_match figures right_rows residual upper) upper }

-- ---- the whole

unfoldable pub join_estimate : Sheet → Folded → Float → List ℕ → JoinSelectivityEstimate
unfolding into_classes join_figures
join_estimate sheet state residual non_null =
    let figures = join_figures state.figures sheet.right_rows.value residual in
    record {
      selectivity = figures.selectivity;
      equivalence_classes = into_classes state.classes;
      match_probability = figures.match_probability;
      left_equality_coverages = state.coverages;
      residual_selectivity = residual;
      non_null_equality_columns = non_null;
    }

unfoldable pub join_selectivity_from_conjuncts : Sheet → List ℕ → JoinSelectivityEstimate
unfolding equality_pairs residual_from non_null_marks marked_columns folded_pairs join_estimate
join_selectivity_from_conjuncts sheet conjuncts =
    let pairs = equality_pairs sheet conjuncts in
    join_estimate sheet (folded_pairs sheet pairs) (residual_selectivity sheet conjuncts) (marked_columns (non_null_marks pairs))
