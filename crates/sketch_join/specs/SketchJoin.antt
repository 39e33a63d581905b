-- `sketch_join_estimate` and `sketch_left_match_probability` of the source's analysis.rs, for a left and a right column that are found. The items of the left sketch are gone through in sheet order. Definitions only.
use Rattle.std.specs.Prelude.{ℕ, ◌+◌, Bool, cond, ◌&&◌, ◌||◌, List, [], ◌∷◌, ◌==◌, nat_lt, Float, Option, Some, None}
use Rattle.std.specs.Float.{binary64}
use Rattle.std.specs.Float.Ieee.{add, sub, mul, div, lt, le}
use Rattle.float.specs.Order.{f64_zero, f64_one, f64_max, f64_min, clamp_unit}
use Rattle.records.specs.Sketches.{Sketch}
use Rattle.records.specs.declared.sketches.SketchItem.{SketchItem}
use Rattle.records.specs.declared.columns.ColumnProfile.{ColumnProfile}
use Rattle.sketch.specs.Frequent.{sketch_of, find_item, count}
use Rattle.sketch.specs.declared.items.Counts.{Counts}
use Rattle.range.specs.Selectivity.{non_null_fraction}
use Rattle.sketch_join.specs.declared.sums.CommonValues.{CommonValues}
use Rattle.sketch_join.specs.declared.sums.MatchedValues.{MatchedValues}

-- the rows of a sketch in which its column is not null
unfoldable pub non_null_rows : Sketch → ColumnProfile → Float → Float
unfolding non_null_fraction
non_null_rows sketch profile rows = mul binary64 (count sketch.population) (non_null_fraction profile.frequency.value rows)

-- ---- values that both sketches track

unfoldable pub with_common : CommonValues → ℕ → Option Counts → CommonValues
with_common sums lower None = sums
with_common sums lower (Some other) =
    cond (lt f64_zero (count lower) && lt f64_zero (count other.lower))
    (record {
      heavy_join_rows = add binary64 sums.heavy_join_rows (mul binary64 (count lower) (count other.lower));
      common_left_rows = add binary64 sums.common_left_rows (count lower);
      common_right_rows = add binary64 sums.common_right_rows (count other.lower);
      common_values = sums.common_values + 1;
    })
    sums

-- over the items on the left, each with what those on the right tell of its value
unfoldable pub summed : {S : Type 0} → (S → ℕ → Option Counts → S) → S → List SketchItem → List SketchItem → S
unfolding find_item
summed more sums [] right = sums
summed more sums (x ∷ xs) right = summed more (more sums x.lower (find_item x.value right)) xs right

abbrev pub common_from : CommonValues → List SketchItem → List SketchItem → CommonValues
common_from sums left right = summed with_common sums left right

abbrev pub common_values : List SketchItem → List SketchItem → CommonValues
common_values left right = common_from (record { heavy_join_rows = f64_zero; common_left_rows = f64_zero; common_right_rows = f64_zero; common_values = 0 }) left right

-- ---- the selectivity of a pair of rows

-- the rows behind the common values, spread over the distinct values left
unfoldable pub residual_join_rows : CommonValues → Float → Float → Float → Float → Float
residual_join_rows sums left_rows right_rows left_distinct right_distinct =
    let left_residual_rows = f64_max (sub binary64 left_rows sums.common_left_rows) f64_zero in
    let right_residual_rows = f64_max (sub binary64 right_rows sums.common_right_rows) f64_zero in
    let left_residual_ndv = f64_max (sub binary64 left_distinct (count sums.common_values)) f64_one in
    let right_residual_ndv = f64_max (sub binary64 right_distinct (count sums.common_values)) f64_one in
    div binary64 (mul binary64 left_residual_rows right_residual_rows) (f64_max left_residual_ndv right_residual_ndv)

unfoldable pub pair_selectivity : Sketch → Sketch → CommonValues → Float → Float
pair_selectivity left right sums residual =
    clamp_unit (div binary64 (add binary64 sums.heavy_join_rows residual) (mul binary64 (count left.population) (count right.population)))

-- a sketch of no rows tells nothing
abbrev pub either_empty : Sketch → Sketch → Bool
either_empty left right = left.population == 0 || right.population == 0

unfoldable pub sketches_join : Sketch → Sketch → ColumnProfile → Float → ColumnProfile → Float → Option Float
unfolding non_null_rows with_common summed residual_join_rows pair_selectivity
sketches_join left right left_profile left_rows right_profile right_rows =
    let sums = common_values left.items right.items in
    let residual = residual_join_rows sums (non_null_rows left left_profile left_rows) (non_null_rows right right_profile right_rows) left_profile.distinct.value right_profile.distinct.value in
    cond (either_empty left right) None (Some (pair_selectivity left right sums residual))

-- of two sketches by their numbers
abbrev pub numbered : {A : Type 0} → A → (Sketch → Sketch → A) → List Sketch → Option ℕ → Option ℕ → A
numbered lacking f sketches None right = lacking
numbered lacking f sketches (Some i) None = lacking
numbered lacking f sketches (Some i) (Some j) = f (sketch_of sketches i) (sketch_of sketches j)

abbrev pub numbered_join : Option ℕ → Option ℕ → List Sketch → ColumnProfile → Float → ColumnProfile → Float → Option Float
numbered_join i j sketches left_profile left_rows right_profile right_rows =
    numbered None (λ left right. sketches_join left right left_profile left_rows right_profile right_rows) sketches i j

unfoldable pub sketch_join_estimate : List Sketch → ColumnProfile → Float → ColumnProfile → Float → Option Float
unfolding sketches_join
sketch_join_estimate sketches left_profile left_rows right_profile right_rows =
    numbered_join left_profile.sketch right_profile.sketch sketches left_profile left_rows right_profile right_rows

-- ---- the part of the left rows that find a partner

unfoldable pub with_matched : MatchedValues → ℕ → Option Counts → MatchedValues
with_matched sums lower None = sums
with_matched sums lower (Some other) =
    cond (lt f64_zero (count lower) && nat_lt 0 other.lower)
    (record {
      known_matched_left_rows = add binary64 sums.known_matched_left_rows (count lower);
      common_values = add binary64 sums.common_values f64_one;
    })
    sums

abbrev pub matched_from : MatchedValues → List SketchItem → List SketchItem → MatchedValues
matched_from sums left right = summed with_matched sums left right

abbrev pub matched_values : List SketchItem → List SketchItem → MatchedValues
matched_values left right = matched_from (record { known_matched_left_rows = f64_zero; common_values = f64_zero }) left right

unfoldable pub residual_matched_left_rows : MatchedValues → Float → Float → Float → Float
residual_matched_left_rows sums left_non_null_rows intersection_distinct left_distinct =
    let residual_left_rows = f64_max (sub binary64 left_non_null_rows sums.known_matched_left_rows) f64_zero in
    let residual_left_distinct = f64_max (sub binary64 left_distinct sums.common_values) f64_zero in
    let residual_intersection = f64_min (f64_max (sub binary64 intersection_distinct sums.common_values) f64_zero) residual_left_distinct in
    cond (le residual_left_distinct f64_zero) f64_zero (div binary64 (mul binary64 residual_left_rows residual_intersection) residual_left_distinct)

unfoldable pub match_probability : Sketch → MatchedValues → Float → Float
match_probability left sums residual = clamp_unit (div binary64 (add binary64 sums.known_matched_left_rows residual) (count left.population))

unfoldable pub sketches_match : Sketch → Sketch → ColumnProfile → Float → Float → Float → Option Float
unfolding non_null_rows with_matched summed residual_matched_left_rows match_probability
sketches_match left right left_profile left_rows intersection_distinct left_distinct =
    let sums = matched_values left.items right.items in
    let residual = residual_matched_left_rows sums (non_null_rows left left_profile left_rows) intersection_distinct left_distinct in
    cond (either_empty left right) None (Some (match_probability left sums residual))

abbrev pub numbered_match : Option ℕ → Option ℕ → List Sketch → ColumnProfile → Float → Float → Float → Option Float
numbered_match i j sketches left_profile left_rows intersection_distinct left_distinct =
    numbered None (λ left right. sketches_match left right left_profile left_rows intersection_distinct left_distinct) sketches i j

unfoldable pub sketch_left_match_probability : List Sketch → ColumnProfile → Float → ColumnProfile → Float → Float → Option Float
unfolding sketches_match
sketch_left_match_probability sketches left_profile left_rows right_profile intersection_distinct left_distinct =
    numbered_match left_profile.sketch right_profile.sketch sketches left_profile left_rows intersection_distinct left_distinct
