-- The distincts that the edges of a join hold are ones that a sheet may hold. Assumes nothing.
use mathlib.Core.Bool.{Bool}
use mathlib.Core.List.{List, map}
use Rattle.lawful.specs.Lawful.{Each}
use Rattle.class_state.specs.State.{find, class_distinct}
use Rattle.class_state.specs.declared.EquivalenceClassState.{EquivalenceClassState}
use Rattle.equality_pairs.specs.declared.pairs.EqualityPair.{EqualityPair}
use Rattle.edge_order.proofs.SortLaws.{sort_in}
use Rattle.edge_fold.specs.Edges.{equality_edge, edge_of, edge_before, equality_edges}
use Rattle.join_range.specs.Range.{EdgeInRange}
use Rattle.join_range.proofs.EachLaws.{each_map}
use Rattle.join_range.proofs.ClassRange.{LawfulState, max_lawful}

module _ (classes : EquivalenceClassState) (s : LawfulState classes) where
  edge_range : (marks : List Bool) (pair : EqualityPair) → EdgeInRange (edge_of classes marks pair)
  unfolding edge_of equality_edge
  edge_range marks pair =
      let p = s (find classes pair.left) in
      let q = s (find classes pair.right) in
      record { chosen_ndv = max_lawful (class_distinct classes pair.left) (class_distinct classes pair.right) p q; left_ndv = p; right_ndv = q }

  pub edges_range : (marks : List Bool) (pairs : List EqualityPair) → Each EdgeInRange (equality_edges classes marks pairs)
  unfolding equality_edges
  edges_range marks pairs x m = each_map EdgeInRange (edge_of classes marks) (edge_range marks) pairs x (sort_in edge_before (map (edge_of classes marks) pairs) x m)
