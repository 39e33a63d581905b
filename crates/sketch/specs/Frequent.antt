-- `frequent_value_selectivity` of the source's analysis.rs. `SpaceSaving` is in none of its files: lookup and sums are what document 01 says of them ("Modules, leaves first"). Definitions only.
use Rattle.std.specs.Prelude.{ℕ, ◌+◌, ◌-◌, min, false, cond, List, [], ◌∷◌, length, pos, negsuc, slice_index_or, Float, Option, Some, None}
use Rattle.std.specs.Float.{fin, binary64}
use Rattle.std.specs.Float.Ieee.{of_int, add, sub, mul, div, le}
use Rattle.float.specs.Order.{f64_zero, f64_one, f64_max, clamp_unit}
use Rattle.scalar.specs.Types.{is_null}
use Rattle.scalar.specs.Order.{scalar_order, is_equal}
use Rattle.scalar.specs.declared.Scalar.{Scalar}
use Rattle.records.specs.Sketches.{Sketch}
use Rattle.records.specs.declared.sketches.SketchItem.{SketchItem}
use Rattle.records.specs.declared.columns.ColumnProfile.{ColumnProfile}
use Rattle.sketch.specs.declared.items.Counts.{Counts}

-- what a number that names no sketch stands for: one of no rows
abbrev pub no_sketch : Sketch
no_sketch = record { population = 0; items = [] }

abbrev pub sketch_of : List Sketch → ℕ → Sketch
sketch_of sketches k = slice_index_or sketches k no_sketch

-- ---- the items

abbrev pub counts_of : SketchItem → Counts
counts_of x = record { lower = x.lower; error = x.error }

-- the counts of the first item with the value; where a sketch holds none twice, of the only one
unfoldable pub find_item : Scalar → List SketchItem → Option Counts
find_item value [] = None
find_item value (x ∷ xs) = cond (is_equal (scalar_order x.value value)) (Some (counts_of x)) (find_item value xs)

-- the sum of the least numbers of times that the items occur
unfoldable pub tracked_rows : List SketchItem → ℕ
tracked_rows [] = 0
tracked_rows (x ∷ xs) = x.lower + tracked_rows xs

-- ---- the selectivity of a value

abbrev half : Float
half = fin false 1 (negsuc 0)

-- a whole number, rounded once
abbrev pub count : ℕ → Float
count n = of_int binary64 (pos n)

-- of an item: the middle of what it may count
unfoldable pub item_selectivity : ℕ → Counts → Float
item_selectivity population counts =
    let midpoint = add binary64 (count counts.lower) (mul binary64 (count counts.error) half) in
    clamp_unit (div binary64 midpoint (count population))

-- the rows that no item counts
unfoldable pub residual_rows : Sketch → ℕ
unfolding tracked_rows
residual_rows sketch =
    let tracked = min (tracked_rows sketch.items) sketch.population in
    sketch.population - tracked

-- of a value that no item has: those rows, spread over the distinct values left
unfoldable pub residual_selectivity : Sketch → Float → Float
unfolding residual_rows
residual_selectivity sketch distinct =
    let residual_distinct = f64_max (sub binary64 distinct (count (length sketch.items))) f64_one in
    clamp_unit (div binary64 (div binary64 (count (residual_rows sketch)) residual_distinct) (count sketch.population))

abbrev pub found_selectivity : Option Counts → Sketch → Float → Float
found_selectivity None sketch distinct = residual_selectivity sketch distinct
found_selectivity (Some counts) sketch distinct = item_selectivity sketch.population counts

unfoldable pub sketch_selectivity : Sketch → Float → Scalar → Option Float
unfolding item_selectivity residual_selectivity find_item
sketch_selectivity sketch distinct value =
    cond (le (count sketch.population) f64_zero) None (Some (found_selectivity (find_item value sketch.items) sketch distinct))

abbrev pub numbered_selectivity : Option ℕ → List Sketch → Float → Scalar → Option Float
numbered_selectivity None sketches distinct literal = None
numbered_selectivity (Some k) sketches distinct literal = sketch_selectivity (sketch_of sketches k) distinct literal

-- Null, which has no encoding, is in no sketch
unfoldable pub frequent_value_selectivity : List Sketch → ColumnProfile → Scalar → Option Float
unfolding sketch_selectivity
frequent_value_selectivity sketches profile literal = cond (is_null literal) None (numbered_selectivity profile.sketch sketches profile.distinct.value literal)
