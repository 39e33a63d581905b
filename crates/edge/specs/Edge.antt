-- `equality_edge_estimate` of the source's analysis.rs. Definitions only.
use Rattle.std.specs.Prelude.{ℕ, Bool, false, ◌&&◌, not, cond, eqb, Float, Option, Some, None}
use Rattle.std.specs.Float.{binary64}
use Rattle.std.specs.Float.Ieee.{mul, div, lt}
use Rattle.float.specs.Order.{f64_zero, f64_one, f64_max, clamp_unit}
use Rattle.records.specs.declared.columns.BaseColumn.{BaseColumn}
use Rattle.records.specs.declared.columns.ColumnProfile.{ColumnProfile}
use Rattle.sheet.specs.Sheet.{Sheet}
use Rattle.interval.specs.Intersection.{estimated_distinct_intersection}
use Rattle.interval.specs.declared.intersection.DistinctIntersection.{DistinctIntersection}
use Rattle.sketch_join.specs.SketchJoin.{sketch_join_estimate, sketch_left_match_probability}
use Rattle.keys.specs.Keys.{single_column_foreign_key, profile_has_complete_base_population}
use Rattle.edge.specs.Oriented.{OrientedColumns, join_column_distinct, oriented_join_columns}
use Rattle.edge.specs.Inputs.{edge_inputs}
use Rattle.edge.specs.Figures.{disjoint_estimate, foreign_key_estimate, overlap_estimate}
use Rattle.edge.specs.declared.EqualityEdge.{EqualityEdge}
use Rattle.edge.specs.declared.EdgeInputs.{EdgeInputs}
use Rattle.edge.specs.declared.EqualityEdgeEstimate.{EqualityEdgeEstimate}

-- ---- columns of which the inputs have no pair

-- by their distincts
unfoldable pub unoriented_estimate : Sheet → Float → Float → EqualityEdgeEstimate
unoriented_estimate sheet first second =
    let pair = div binary64 f64_one (f64_max (f64_max first second) f64_one) in
    record {
      pair_selectivity = pair;
      left_match_probability = clamp_unit (mul binary64 sheet.right_rows.value pair);
      left_coverage = None;
      domains_disjoint = false;
    }

-- ---- a left column and a right one

-- a column references another one of a table that the right side has the whole of
abbrev pub references_whole : Sheet → BaseColumn → BaseColumn → Bool
references_whole sheet column referenced =
    single_column_foreign_key sheet column referenced && profile_has_complete_base_population sheet sheet.right_rows referenced.table

abbrev pub bases_referenced : Sheet → Option BaseColumn → Option BaseColumn → Bool
bases_referenced sheet None right = false
bases_referenced sheet (Some column) None = false
bases_referenced sheet (Some column) (Some referenced) = references_whole sheet column referenced

-- an ordinary equality along a foreign key into the whole of a table with rows
unfoldable pub is_reference : Sheet → Bool → Option BaseColumn → Option BaseColumn → Bool
unfolding single_column_foreign_key profile_has_complete_base_population
is_reference sheet null_safe left right = not null_safe && (lt f64_zero sheet.right_rows.value && bases_referenced sheet left right)

abbrev pub unless_null_safe : Bool → Option Float → Option Float
unless_null_safe null_safe option = cond null_safe None option

unfoldable pub estimate_by_sketches : Sheet → EdgeInputs → ColumnProfile → ColumnProfile → Float → EqualityEdgeEstimate
unfolding sketch_join_estimate sketch_left_match_probability overlap_estimate
estimate_by_sketches sheet x left right intersection =
    overlap_estimate x intersection
    (unless_null_safe x.null_safe (sketch_join_estimate sheet.sketches left sheet.left_rows.value right sheet.right_rows.value))
    (unless_null_safe x.null_safe (sketch_left_match_probability sheet.sketches left sheet.left_rows.value right intersection x.left_distinct))

-- disjoint domains before foreign keys, and those before the rest
unfoldable pub estimate_by_inputs : Sheet → EdgeInputs → ColumnProfile → ColumnProfile → DistinctIntersection → EqualityEdgeEstimate
unfolding disjoint_estimate is_reference foreign_key_estimate estimate_by_sketches
estimate_by_inputs sheet x left right intersection =
    cond intersection.domains_disjoint (disjoint_estimate x)
    (cond (is_reference sheet x.null_safe left.base right.base) (foreign_key_estimate x sheet.right_rows.value)
    (estimate_by_sketches sheet x left right intersection.distinct))

unfoldable pub oriented_estimate : Sheet → ℕ → ℕ → ColumnProfile → ColumnProfile → Bool → Float → Float → EqualityEdgeEstimate
unfolding edge_inputs estimated_distinct_intersection estimate_by_inputs
oriented_estimate sheet left_column right_column left right null_safe left_hint right_hint =
    let x = edge_inputs sheet left_column right_column left right null_safe left_hint right_hint in
    estimate_by_inputs sheet x left right (estimated_distinct_intersection left right x.left_distinct x.right_distinct)

-- the hints change places with the columns
abbrev pub estimate_as : Sheet → EqualityEdge → Option OrientedColumns → EqualityEdgeEstimate
estimate_as sheet edge None = unoriented_estimate sheet (join_column_distinct sheet edge.left) (join_column_distinct sheet edge.right)
estimate_as sheet edge (Some columns) =
    let same = eqb columns.left_column edge.left in
    oriented_estimate sheet columns.left_column columns.right_column columns.left columns.right edge.null_safe
    (cond same edge.left_ndv.value edge.right_ndv.value)
    (cond same edge.right_ndv.value edge.left_ndv.value)

unfoldable pub equality_edge_estimate : Sheet → EqualityEdge → EqualityEdgeEstimate
unfolding oriented_join_columns join_column_distinct unoriented_estimate oriented_estimate
equality_edge_estimate sheet edge = estimate_as sheet edge (oriented_join_columns sheet edge.left edge.right)

-- the same equality, its right column first
abbrev pub exchanged_edge : EqualityEdge → EqualityEdge
exchanged_edge edge = record {
  left = edge.right;
  right = edge.left;
  null_safe = edge.null_safe;
  chosen_ndv = edge.chosen_ndv;
  left_ndv = edge.right_ndv;
  right_ndv = edge.left_ndv;
}
