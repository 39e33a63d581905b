-- The loop over a join's edges keeps every figure in its range. Assumes nothing.
use mathlib.Core.Bool.{Bool, true, false, cond}
use mathlib.Core.List.{List, [], ◌∷◌}
use Rattle.float.specs.Order.{Unit01}
use Rattle.float.proofs.UnitLaws.{zero_unit, one_unit, mul_unit}
use Rattle.sheet.specs.Sheet.{Sheet}
use Rattle.lawful.specs.Lawful.{Each, LawfulSheet}
use Rattle.predicate_range.proofs.NumberRange.{either}
use Rattle.class_state.specs.State.{equivalent, from_profiles}
use Rattle.equality_pairs.specs.declared.pairs.EqualityPair.{EqualityPair}
use Rattle.equality_pairs.specs.NonNull.{non_null_marks}
use Rattle.edge.specs.Edge.{equality_edge_estimate}
use Rattle.edge.specs.declared.EqualityEdge.{EqualityEdge}
use Rattle.std.specs.Prelude.{Option, None, Some, option_to_list}
use Rattle.edge.specs.declared.LeftEqualityCoverage.{LeftEqualityCoverage}
use Rattle.edge.specs.declared.EqualityEdgeEstimate.{EqualityEdgeEstimate}
use Rattle.edge_fold.specs.Sides.{connects_inputs}
use Rattle.edge_fold.specs.Edges.{equality_edges}
use Rattle.edge_fold.specs.Fold.{no_equality, zeroed, multiplied, with_estimate, Folded, edge_figures, edge_coverages, with_edge, with_edges, folded_pairs}
use Rattle.edge_fold.specs.declared.fold.EqualityFigures.{EqualityFigures}
use Rattle.join_range.specs.Range.{EdgeInRange, CoverageInRange, LeftCoverageInRange, EdgeEstimateInRange}
use Rattle.join_range.proofs.EachLaws.{each_none, each_more, each_first, each_rest, each_append}
use Rattle.join_range.proofs.ClassRange.{LawfulState, union_lawful, profiles_lawful}
use Rattle.join_range.proofs.EdgesRange.{edges_range}
use Rattle.join_range.proofs.EdgeRange.{edge_estimate_range}

-- ---- figures
pub record FiguresInRange (x : EqualityFigures) : Type 0 where
  pub selectivity : Unit01 x.selectivity
  pub match_probability : Unit01 x.match_probability

zeroed_range : (disjoint : Bool) (figures : EqualityFigures) → FiguresInRange figures → FiguresInRange (zeroed disjoint figures)
unfolding zeroed
zeroed_range true figures r = record { selectivity = zero_unit; match_probability = zero_unit }
zeroed_range false figures r = r

multiplied_range : (figures : EqualityFigures) (estimate : EqualityEdgeEstimate) → FiguresInRange figures → EdgeEstimateInRange estimate → FiguresInRange (multiplied figures estimate)
unfolding multiplied
multiplied_range figures estimate r e = record {
  selectivity = mul_unit figures.selectivity estimate.pair_selectivity r.selectivity e.pair_selectivity;
  match_probability = mul_unit figures.match_probability estimate.left_match_probability r.match_probability e.left_match_probability;
}

estimate_range : (figures : EqualityFigures) (estimate : EqualityEdgeEstimate) (same : Bool) → FiguresInRange figures → EdgeEstimateInRange estimate → FiguresInRange (with_estimate figures estimate same)
unfolding with_estimate
estimate_range figures estimate same r e =
    let before = zeroed estimate.domains_disjoint figures in
    let z = zeroed_range estimate.domains_disjoint figures r in
    either FiguresInRange same before (multiplied before estimate) z (multiplied_range before estimate z e)

-- ---- coverages
coverage_range : (x : Option LeftEqualityCoverage) → LeftCoverageInRange x → Each CoverageInRange (option_to_list x)
coverage_range None c = each_none CoverageInRange
coverage_range (Some x) c = each_more CoverageInRange x [] c (each_none CoverageInRange)

-- ---- the loop
pub record FoldedInRange (x : Folded) : Type 0 where
  pub classes : LawfulState x.classes
  pub figures : FiguresInRange x.figures
  pub coverages : Each CoverageInRange x.coverages

module _ (sheet : Sheet) (h : LawfulSheet sheet) where
  module _ (edge : EqualityEdge) (r : EdgeInRange edge) where
    figures_range : (figures : EqualityFigures) (same : Bool) → FiguresInRange figures → FiguresInRange (edge_figures sheet figures edge same)
    unfolding edge_figures
    figures_range figures same f =
        let estimate = equality_edge_estimate sheet edge in
        either FiguresInRange (connects_inputs sheet edge.left edge.right) (with_estimate figures estimate same) figures (estimate_range figures estimate same f (edge_estimate_range sheet h edge r)) f

    coverages_range : (same : Bool) → Each CoverageInRange (edge_coverages sheet edge same)
    unfolding edge_coverages
    coverages_range same =
        let l = option_to_list (equality_edge_estimate sheet edge).left_coverage in
        let none = each_none CoverageInRange in
        either (Each CoverageInRange) (connects_inputs sheet edge.left edge.right) (cond same [] l) [] (either (Each CoverageInRange) same [] l none (coverage_range (equality_edge_estimate sheet edge).left_coverage (edge_estimate_range sheet h edge r).left_coverage)) none

    with_edge_range : (state : Folded) → FoldedInRange state → FoldedInRange (with_edge sheet state edge)
    unfolding with_edge
    with_edge_range state f =
        let same = equivalent state.classes edge.left edge.right in
        record {
          classes = union_lawful state.classes edge.left edge.right edge.chosen_ndv f.classes r.chosen_ndv;
          figures = figures_range state.figures same f.figures;
          coverages = each_append CoverageInRange state.coverages (edge_coverages sheet edge same) f.coverages (coverages_range same);
        }

  with_edges_range : (state : Folded) (edges : List EqualityEdge) → FoldedInRange state → Each EdgeInRange edges → FoldedInRange (with_edges sheet state edges)
  unfolding with_edges
  with_edges_range state [] f e = f
  with_edges_range state (edge ∷ edges) f e = with_edges_range (with_edge sheet state edge) edges (with_edge_range edge (each_first EdgeInRange edge edges e) state f) (each_rest EdgeInRange edge edges e)

  pub folded_range : (pairs : List EqualityPair) → FoldedInRange (folded_pairs sheet pairs)
  unfolding folded_pairs
  folded_range pairs =
      let classes = from_profiles sheet in
      let s = profiles_lawful sheet h in
      with_edges_range (record { classes = classes; figures = no_equality; coverages = [] }) (equality_edges classes (non_null_marks pairs) pairs)
      (record { classes = s; figures = record { selectivity = one_unit; match_probability = one_unit }; coverages = each_none CoverageInRange }) (edges_range classes s (non_null_marks pairs) pairs)
