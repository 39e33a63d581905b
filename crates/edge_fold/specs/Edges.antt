-- The edges of a join in the order in which they are taken up (`equality_edges` in the source's analysis.rs). Definitions only.
use Rattle.std.specs.Prelude.{Bool, ◌&&◌, not, List, map}
use Rattle.estimate.specs.Estimates.{max_by_value}
use Rattle.estimate.specs.declared.Estimate.{Estimate}
use Rattle.class_state.specs.State.{no_distinct, class_distinct}
use Rattle.class_state.specs.declared.EquivalenceClassState.{EquivalenceClassState}
use Rattle.equality_pairs.specs.declared.pairs.EqualityPair.{EqualityPair}
use Rattle.equality_pairs.specs.NonNull.{is_marked}
use Rattle.edge_order.specs.Sort.{sort}
use Rattle.edge_order.specs.Order.{stands_before}
use Rattle.edge_order.specs.declared.EdgeKey.{EdgeKey}
use Rattle.edge.specs.declared.EqualityEdge.{EqualityEdge}

-- where the left column is known to be non-null the edge is ordinary
abbrev pub edge_null_safe : List Bool → EqualityPair → Bool
edge_null_safe marks pair = pair.null_safe && not (is_marked marks pair.left)

-- of a pair whose classes have these distincts; the chosen one is the greater
unfoldable pub equality_edge : List Bool → EqualityPair → Estimate → Estimate → EqualityEdge
unfolding max_by_value
equality_edge marks pair left_ndv right_ndv = record {
  left = pair.left;
  right = pair.right;
  null_safe = edge_null_safe marks pair;
  chosen_ndv = max_by_value left_ndv right_ndv;
  left_ndv = left_ndv;
  right_ndv = right_ndv;
}

unfoldable pub edge_of : EquivalenceClassState → List Bool → EqualityPair → EqualityEdge
unfolding no_distinct equality_edge
edge_of classes marks pair = equality_edge marks pair (class_distinct classes pair.left) (class_distinct classes pair.right)

-- what an edge is ordered by
abbrev pub edge_key : EqualityEdge → EdgeKey
edge_key edge = record { distinct = edge.chosen_ndv.value; null_safe = edge.null_safe }

abbrev pub edge_keys : EquivalenceClassState → List Bool → List EqualityPair → List EdgeKey
edge_keys classes marks pairs = map (λ pair. edge_key (edge_of classes marks pair)) pairs

abbrev pub edge_before : EqualityEdge → EqualityEdge → Bool
edge_before a b = stands_before a.chosen_ndv.value a.null_safe b.chosen_ndv.value b.null_safe

unfoldable pub equality_edges : EquivalenceClassState → List Bool → List EqualityPair → List EqualityEdge
unfolding sort stands_before edge_of
equality_edges classes marks pairs = sort edge_before (map (edge_of classes marks) pairs)
