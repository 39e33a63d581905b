-- The figures of an equality, case by case (`equality_edge_estimate` in the source's analysis.rs). Definitions only.
use Rattle.std.specs.Prelude.{Bool, true, false, ◌||◌, not, cond, Option, None, Some, unwrap_or, Float}
use Rattle.std.specs.Float.{binary64}
use Rattle.std.specs.Float.Ieee.{add, mul, div, lt, le}
use Rattle.float.specs.Order.{f64_zero, f64_max, clamp_unit}
use Rattle.edge.specs.declared.EdgeInputs.{EdgeInputs}
use Rattle.edge.specs.declared.EqualityEdgeEstimate.{EqualityEdgeEstimate}
use Rattle.edge.specs.declared.LeftEqualityCoverage.{LeftEqualityCoverage}

-- ---- what an equality leaves of its left column

abbrev pub coverage : EdgeInputs → Float → Float → Float → Bool → LeftEqualityCoverage
coverage x intersection non_null_match null_match ordinary = record {
  column = x.left_column;
  input_distinct = x.left_distinct;
  input_non_null_fraction = x.left_non_null;
  intersection_distinct = intersection;
  non_null_match_probability = non_null_match;
  null_match_probability = null_match;
  ordinary_non_null = ordinary;
}

-- ---- domains that share no value: nulls alone can meet

unfoldable pub disjoint_estimate : EdgeInputs → EqualityEdgeEstimate
disjoint_estimate x = record {
  pair_selectivity = x.null_pair_selectivity;
  left_match_probability = x.null_match_probability;
  left_coverage = Some (coverage x f64_zero f64_zero x.null_match_probability (not x.null_safe));
  domains_disjoint = not (lt f64_zero x.null_pair_selectivity);
}

-- ---- a foreign key into a whole table: each left row that is not null has one partner

abbrev pub per_row : Float → Float → Float
per_row fraction rows = cond (le rows f64_zero) f64_zero (div binary64 fraction rows)

unfoldable pub foreign_key_estimate : EdgeInputs → Float → EqualityEdgeEstimate
foreign_key_estimate x right_rows = record {
  pair_selectivity = per_row x.left_non_null right_rows;
  left_match_probability = x.left_non_null;
  left_coverage = Some (coverage x x.left_distinct x.left_non_null f64_zero true);
  domains_disjoint = false;
}

-- ---- every other equality

unfoldable pub equal_non_null : EdgeInputs → Float → Float
equal_non_null x intersection =
    cond (le x.left_distinct f64_zero || le x.right_distinct f64_zero) f64_zero
    (div binary64 (mul binary64 (mul binary64 x.left_non_null x.right_non_null) intersection) (mul binary64 x.left_distinct x.right_distinct))

unfoldable pub uniform_pair_selectivity : EdgeInputs → Float → Float
unfolding equal_non_null
uniform_pair_selectivity x intersection = cond x.null_safe (add binary64 (equal_non_null x intersection) x.null_pair_selectivity) (equal_non_null x intersection)

unfoldable pub uniform_non_null_match_probability : EdgeInputs → Float → Float
uniform_non_null_match_probability x intersection =
    cond (le x.left_distinct f64_zero) f64_zero (div binary64 (mul binary64 x.left_non_null intersection) x.left_distinct)

-- the larger of a sketch's figure and the uniform one
abbrev pub at_least_uniform : Option Float → Float → Float
at_least_uniform None uniform = uniform
at_least_uniform (Some figure) uniform = f64_max figure uniform

-- with what sketches tell of the pair and of the match; of a null-safe equality they are not asked
unfoldable pub overlap_estimate : EdgeInputs → Float → Option Float → Option Float → EqualityEdgeEstimate
unfolding uniform_pair_selectivity uniform_non_null_match_probability
overlap_estimate x intersection sketch_pair sketch_match =
    let pair = unwrap_or sketch_pair (uniform_pair_selectivity x intersection) in
    let non_null_match = at_least_uniform sketch_match (uniform_non_null_match_probability x intersection) in
    record {
      pair_selectivity = clamp_unit pair;
      left_match_probability = clamp_unit (add binary64 non_null_match x.null_match_probability);
      left_coverage = Some (coverage x intersection non_null_match x.null_match_probability (not x.null_safe));
      domains_disjoint = false;
    }
