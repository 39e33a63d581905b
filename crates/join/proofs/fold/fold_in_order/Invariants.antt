use mathlib.Core.Path.{◌≡◌}
use lib.ListN.{length}
use Rattle.sheet.specs.Sheet.{viewed}
use Rattle.class_state.specs.State.{Rooted}
use Rattle.edge_fold.specs.Fold.{folded_edges}
use Rattle.edge_fold.proofs.EdgeLaws.{edge_at}
use Rattle.edge_fold.proofs.FoldLaws.{FoldRest}
use Rattle.join.proofs.fold.fold_in_order.Given as goal

abbrev pub invariant-loop-i : goal.invariant-loop-i
invariant-loop-i l = record {
  size : length l.coverages ≡ length l.initial.coverages;
  rooted : Rooted l.classes.roots;
  folded : FoldRest (viewed l.inputs.sheet) (edge_at l.before l.marks l.pairs) l.order (folded_edges (viewed l.inputs.sheet) l.before l.marks l.pairs) l.classes l.figures l.count l.initial.coverages l.coverages l.i-index;
}
