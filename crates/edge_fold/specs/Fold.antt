-- The loop over a join's edges (`join_selectivity_from_conjuncts_with_config` in the source's analysis.rs). Definitions only.
use Rattle.std.specs.Prelude.{Bool, true, false, cond, List, [], ◌∷◌, ◌++◌, option_to_list}
use Rattle.std.specs.Float.{binary64}
use Rattle.std.specs.Float.Ieee.{mul}
use Rattle.float.specs.Order.{f64_zero, f64_one}
use Rattle.sheet.specs.Sheet.{Sheet}
use Rattle.class_state.specs.State.{equivalent, union, from_profiles}
use Rattle.class_state.specs.declared.EquivalenceClassState.{EquivalenceClassState}
use Rattle.equality_pairs.specs.declared.pairs.EqualityPair.{EqualityPair}
use Rattle.equality_pairs.specs.NonNull.{non_null_marks}
use Rattle.edge.specs.Edge.{equality_edge_estimate}
use Rattle.edge.specs.declared.EqualityEdge.{EqualityEdge}
use Rattle.edge.specs.declared.LeftEqualityCoverage.{LeftEqualityCoverage}
use Rattle.edge.specs.declared.EqualityEdgeEstimate.{EqualityEdgeEstimate}
use Rattle.edge_fold.specs.Sides.{connects_inputs}
use Rattle.edge_fold.specs.Edges.{equality_edges}
use Rattle.edge_fold.specs.declared.fold.EqualityFigures.{EqualityFigures}

-- ---- figures

abbrev pub no_equality : EqualityFigures
no_equality = record { selectivity = f64_one; match_probability = f64_one; has_cross_input_equality = false }

-- disjoint domains make both figures 0
unfoldable pub zeroed : Bool → EqualityFigures → EqualityFigures
zeroed disjoint figures = cond disjoint (record { selectivity = f64_zero; match_probability = f64_zero; has_cross_input_equality = figures.has_cross_input_equality }) figures

unfoldable pub multiplied : EqualityFigures → EqualityEdgeEstimate → EqualityFigures
multiplied figures estimate = record {
  selectivity = mul binary64 figures.selectivity estimate.pair_selectivity;
  match_probability = mul binary64 figures.match_probability estimate.left_match_probability;
  has_cross_input_equality = true;
}

-- an edge inside one class multiplies nothing in
unfoldable pub with_estimate : EqualityFigures → EqualityEdgeEstimate → Bool → EqualityFigures
unfolding zeroed multiplied
with_estimate figures estimate same =
    let before = zeroed estimate.domains_disjoint figures in
    cond same before (multiplied before estimate)

-- nor does it cover anything
abbrev pub coverage_unless : Bool → EqualityEdgeEstimate → List LeftEqualityCoverage
coverage_unless same estimate = cond same [] (option_to_list estimate.left_coverage)

-- ---- the loop

pub record Folded : Type 0 where
  pub classes : EquivalenceClassState
  pub figures : EqualityFigures
  pub coverages : List LeftEqualityCoverage

-- an edge whose columns stand in the same inputs changes no figure
unfoldable pub edge_figures : Sheet → EqualityFigures → EqualityEdge → Bool → EqualityFigures
unfolding connects_inputs equality_edge_estimate with_estimate
edge_figures sheet figures edge same = cond (connects_inputs sheet edge.left edge.right) (with_estimate figures (equality_edge_estimate sheet edge) same) figures

unfoldable pub edge_coverages : Sheet → EqualityEdge → Bool → List LeftEqualityCoverage
unfolding connects_inputs equality_edge_estimate
edge_coverages sheet edge same = cond (connects_inputs sheet edge.left edge.right) (coverage_unless same (equality_edge_estimate sheet edge)) []

-- the union is made for every edge
unfoldable pub with_edge : Sheet → Folded → EqualityEdge → Folded
unfolding union edge_figures edge_coverages
with_edge sheet state edge =
    let same = equivalent state.classes edge.left edge.right in
    record {
      classes = union state.classes edge.left edge.right edge.chosen_ndv;
      figures = edge_figures sheet state.figures edge same;
      coverages = state.coverages ++ edge_coverages sheet edge same;
    }

unfoldable pub with_edges : Sheet → Folded → List EqualityEdge → Folded
unfolding with_edge
with_edges sheet state [] = state
with_edges sheet state (edge ∷ edges) = with_edges sheet (with_edge sheet state edge) edges

-- before any edge
abbrev pub no_edges : EquivalenceClassState → Folded
no_edges classes = record { classes = classes; figures = no_equality; coverages = [] }

-- the edges between the classes of a state, in their order
abbrev pub folded_edges : Sheet → EquivalenceClassState → List Bool → List EqualityPair → Folded
folded_edges sheet classes marks pairs = with_edges sheet (no_edges classes) (equality_edges classes marks pairs)

-- ---- the whole

-- the edges are ordered by the distincts of the profiles' classes, before any is taken up
unfoldable pub folded_pairs : Sheet → List EqualityPair → Folded
unfolding from_profiles non_null_marks equality_edges with_edges
folded_pairs sheet pairs =
    let classes = from_profiles sheet in
    folded_edges sheet classes (non_null_marks pairs) pairs
