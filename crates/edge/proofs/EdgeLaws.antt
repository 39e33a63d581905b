-- The figures of an equality, by the columns that the inputs have of it. Assumes nothing.
use mathlib.Core.Path.{◌≡◌, refl}
use borrow.Author.Tests.{eq-eqb, ne_eqb}
use Rattle.std.specs.Prelude.{None, Some}
use Rattle.records.specs.declared.columns.ColumnProfile.{ColumnProfile}
use Rattle.sheet.specs.Sheet.{Sheet}
use Rattle.edge.specs.Oriented.{join_column_distinct, oriented_join_columns}
use Rattle.edge.specs.Edge.{unoriented_estimate, oriented_estimate, equality_edge_estimate}
use Rattle.edge.specs.declared.EqualityEdge.{EqualityEdge}

module _ (sheet : Sheet) (edge : EqualityEdge) where
  pub estimate_unoriented : oriented_join_columns sheet edge.left edge.right ≡ None → unoriented_estimate sheet (join_column_distinct sheet edge.left) (join_column_distinct sheet edge.right) ≡ equality_edge_estimate sheet edge
  unfolding equality_edge_estimate
  estimate_unoriented e = rw e refl

  module _ (left right : ColumnProfile) where
    pub estimate_straight : oriented_join_columns sheet edge.left edge.right ≡ Some (record { left_column = edge.left; right_column = edge.right; left = left; right = right })
        → oriented_estimate sheet edge.left edge.right left right edge.null_safe edge.left_ndv.value edge.right_ndv.value ≡ equality_edge_estimate sheet edge
    unfolding equality_edge_estimate
    estimate_straight e = rw (e, eq-eqb edge.left edge.left refl) refl

    pub estimate_exchanged : oriented_join_columns sheet edge.left edge.right ≡ Some (record { left_column = edge.right; right_column = edge.left; left = left; right = right }) → (edge.right ≡ edge.left → ⊥)
        → oriented_estimate sheet edge.right edge.left left right edge.null_safe edge.right_ndv.value edge.left_ndv.value ≡ equality_edge_estimate sheet edge
    unfolding equality_edge_estimate
    estimate_exchanged e ne = rw (e, ne_eqb edge.right edge.left ne) refl
