-- `estimated_distinct_intersection` of the source's analysis.rs: how many distinct values two columns share. Definitions only.
use Rattle.std.specs.Prelude.{Bool, true, false, cond, ◌||◌, Float, Option, Some}
use Rattle.std.specs.Float.{binary64}
use Rattle.std.specs.Float.Ieee.{mul, le}
use Rattle.float.specs.Order.{f64_zero, f64_one, f64_max, f64_min}
use Rattle.scalar.specs.Order.{scalar_order, is_less, is_equal, is_greater}
use Rattle.scalar.specs.declared.Scalar.{Scalar}
use Rattle.records.specs.declared.columns.ColumnProfile.{ColumnProfile}
use Rattle.interval.specs.Intervals.{interval_of, zip_bounds}
use Rattle.interval.specs.Fraction.{scalar_interval_fraction}
use Rattle.interval.specs.declared.Interval.{Interval}
use Rattle.interval.specs.declared.intersection.DistinctIntersection.{DistinctIntersection}

-- domains that are not known to be disjoint
abbrev pub overlapping : Float → DistinctIntersection
overlapping distinct = record { distinct = distinct; domains_disjoint = false }

-- one upper bound strictly below the other lower one
unfoldable pub disjoint : Interval Scalar → Interval Scalar → Bool
unfolding scalar_order
disjoint left right = is_less (scalar_order left.upper right.lower) || is_less (scalar_order right.upper left.lower)

unfoldable pub overlap_lower : Scalar → Scalar → Scalar
unfolding scalar_order
overlap_lower left right = cond (is_less (scalar_order left right)) right left

unfoldable pub overlap_upper : Scalar → Scalar → Scalar
unfolding scalar_order
overlap_upper left right = cond (is_greater (scalar_order left right)) right left

abbrev pub overlap : Interval Scalar → Interval Scalar → Interval Scalar
overlap left right = interval_of (overlap_lower left.lower right.lower) (overlap_upper left.upper right.upper)

-- both domains hold the one value of an overlap that is a point
abbrev pub at_least_point : Bool → Float → Float
at_least_point point estimate = cond point (f64_max estimate f64_one) estimate

-- by the two fractions; with either missing, the smaller distinct
unfoldable pub shared_distinct : Option Float → Option Float → Bool → Float → Float → Float
shared_distinct (Some x) (Some y) point left_distinct right_distinct =
    at_least_point point (f64_min (f64_min (mul binary64 left_distinct x) (mul binary64 right_distinct y)) (f64_min left_distinct right_distinct))
shared_distinct _ _ point left_distinct right_distinct = f64_min left_distinct right_distinct

-- of ranges that are not disjoint
unfoldable pub overlap_distinct : Interval Scalar → Interval Scalar → Float → Float → Float
unfolding scalar_order overlap_lower overlap_upper scalar_interval_fraction shared_distinct
overlap_distinct left right left_distinct right_distinct =
    let both = overlap left right in
    shared_distinct (scalar_interval_fraction left both) (scalar_interval_fraction right both) (is_equal (scalar_order both.lower both.upper)) left_distinct right_distinct

unfoldable pub bounded_intersection : Interval Scalar → Interval Scalar → Float → Float → DistinctIntersection
unfolding disjoint overlap_distinct
bounded_intersection left right left_distinct right_distinct =
    cond (disjoint left right)
    (record { distinct = f64_zero; domains_disjoint = true })
    (overlapping (overlap_distinct left right left_distinct right_distinct))

-- with any of the four bounds absent, the smaller distinct
unfoldable pub zipped_intersection : Option (Interval Scalar) → Option (Interval Scalar) → Float → Float → DistinctIntersection
unfolding bounded_intersection
zipped_intersection (Some left) (Some right) left_distinct right_distinct = bounded_intersection left right left_distinct right_distinct
zipped_intersection _ _ left_distinct right_distinct = overlapping (f64_min left_distinct right_distinct)

unfoldable pub estimated_distinct_intersection : ColumnProfile → ColumnProfile → Float → Float → DistinctIntersection
unfolding zipped_intersection
estimated_distinct_intersection left right left_distinct right_distinct =
    cond (le left_distinct f64_zero || le right_distinct f64_zero)
    (overlapping f64_zero)
    (zipped_intersection (zip_bounds left.lower left.upper) (zip_bounds right.lower right.upper) left_distinct right_distinct)
