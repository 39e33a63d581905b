-- A join has no more coverages than pairs of columns: an edge gives one at most. Assumes nothing.
use Prim.Native.Nat.{◌+◌, ◌≤◌}
use mathlib.Core.Bool.{Bool, true, false, cond}
use mathlib.Core.List.{List, [], ◌∷◌, map}
use native.Mathlib.Omega.{arith}
use Rattle.std.specs.Prelude.{Option, None, Some, option_to_list}
use lib.ListN.{length, length-append, length-map}
use Rattle.sheet.specs.Sheet.{Sheet}
use Rattle.class_state.specs.State.{equivalent, from_profiles}
use Rattle.equality_pairs.specs.declared.pairs.EqualityPair.{EqualityPair}
use Rattle.equality_pairs.specs.NonNull.{non_null_marks}
use Rattle.edge_order.proofs.SortLaws.{sort_length}
use Rattle.edge.specs.Edge.{equality_edge_estimate}
use Rattle.edge.specs.declared.EqualityEdge.{EqualityEdge}
use Rattle.edge.specs.declared.LeftEqualityCoverage.{LeftEqualityCoverage}
use Rattle.edge_fold.specs.Sides.{connects_inputs}
use Rattle.edge_fold.specs.Edges.{edge_of, edge_before, equality_edges}
use Rattle.edge_fold.specs.Fold.{Folded, no_equality, coverage_unless, edge_coverages, with_edge, with_edges, folded_pairs}

one_coverage : (coverage : Option LeftEqualityCoverage) → length (option_to_list coverage) ≤ 1
one_coverage None = omega arith
one_coverage (Some coverage) = omega arith

pub edge_coverage : (sheet : Sheet) (edge : EqualityEdge) (same : Bool) → length (edge_coverages sheet edge same) ≤ 1
unfolding edge_coverages
edge_coverage sheet edge same = go (connects_inputs sheet edge.left edge.right) same
  where
    go : (connects inside : Bool) → length (cond connects (coverage_unless inside (equality_edge_estimate sheet edge)) []) ≤ 1
    go false inside = omega arith
    go true true = omega arith
    go true false = one_coverage (equality_edge_estimate sheet edge).left_coverage

edges_coverages : (sheet : Sheet) (state : Folded) (edges : List EqualityEdge) → length (with_edges sheet state edges).coverages ≤ length state.coverages + length edges
unfolding with_edges with_edge
edges_coverages sheet state [] = omega arith
edges_coverages sheet state (edge ∷ edges) =
    let h = edges_coverages sheet (with_edge sheet state edge) edges in
    let same = equivalent state.classes edge.left edge.right in
    let e = length-append state.coverages (edge_coverages sheet edge same) in
    let c = edge_coverage sheet edge same in
    omega arith

pub coverage_count_law : (sheet : Sheet) (pairs : List EqualityPair) → length (folded_pairs sheet pairs).coverages ≤ length pairs
unfolding folded_pairs equality_edges
coverage_count_law sheet pairs =
    let classes = from_profiles sheet in
    let marks = non_null_marks pairs in
    let h = edges_coverages sheet (record { classes = classes; figures = no_equality; coverages = [] }) (equality_edges classes marks pairs) in
    let s = sort_length edge_before (map (edge_of classes marks) pairs) in
    let m = length-map pairs (edge_of classes marks) in
    omega arith
