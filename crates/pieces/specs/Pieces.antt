-- What the functions for programs in other languages answer, in terms of the crates behind them. Definitions only.
use Rattle.std.specs.Prelude.{ℕ, ◌*◌, Bool, cond, List, leb, length, Option, Some, None, is_some, unwrap_or, Float}
use Rattle.float.specs.Order.{f64_zero}
use Rattle.le.specs.Fields.{onto}
use Rattle.layout.specs.Places.{scalar_size, column_size}
use Rattle.scalar.specs.Order.{scalar_order}
use Rattle.scalar.specs.Number.{scalar_to_f64}
use Rattle.std.specs.declared.cmp.Ordering.{Ordering}
use Rattle.std.specs.declared.cmp.Ordering.TheVariants.{Less, Equal, Greater}
use Rattle.scalar_bytes.specs.Reading.{scalar_at}
use Rattle.estimate.specs.Estimates.{lower_bound, upper_bound, derived, max_by_value, min_by_value}
use Rattle.estimate.specs.Bytes.{estimate_at}
use Rattle.estimate.specs.declared.Estimate.{Estimate}
use Rattle.records.specs.Columns.{column_profile_at}
use Rattle.interval.specs.Intervals.{interval_of}
use Rattle.interval.specs.Fraction.{scalar_interval_fraction}
use Rattle.interval.specs.Intersection.{estimated_distinct_intersection}
use Rattle.interval.specs.declared.intersection.DistinctIntersection.{DistinctIntersection}
use Rattle.sheet.specs.Check.{Checked, Refused, Accepted, check}

-- ---- sheets

abbrev pub refusal_number : Checked → ℕ
refusal_number (Refused n) = n
refusal_number (Accepted q) = 0

unfoldable pub pieces_check : List ℕ → ℕ
pieces_check sheet = refusal_number (check sheet)

-- ---- bytes of a size, written where there is room for them

-- how many are written
unfoldable pub written : ℕ → List ℕ → ℕ
written size out = cond (leb size (length out)) size 0

unfoldable pub with_front : ℕ → List ℕ → List ℕ → List ℕ
with_front size bytes out = cond (leb size (length out)) (onto bytes out) out

-- ---- scalars, each in front of a list

abbrev pub order_number : Option Ordering → ℕ
order_number None = 0
order_number (Some Less) = 1
order_number (Some Equal) = 2
order_number (Some Greater) = 3

unfoldable pub pieces_scalar_order : List ℕ → List ℕ → ℕ
pieces_scalar_order left right = order_number (scalar_order (scalar_at left 0) (scalar_at right 0))

unfoldable pub pieces_has_number : List ℕ → Bool
pieces_has_number value = is_some (scalar_to_f64 (scalar_at value 0))

unfoldable pub pieces_number : List ℕ → Float
pieces_number value = unwrap_or (scalar_to_f64 (scalar_at value 0)) f64_zero

-- the fraction of four scalars, one behind the other
unfoldable pub pieces_fraction : List ℕ → Option Float
pieces_fraction scalars =
    scalar_interval_fraction
    (interval_of (scalar_at scalars 0) (scalar_at scalars scalar_size))
    (interval_of (scalar_at scalars (scalar_size * 2)) (scalar_at scalars (scalar_size * 3)))

-- ---- two columns' profiles, one behind the other

unfoldable pub pieces_intersection : List ℕ → Float → Float → DistinctIntersection
pieces_intersection columns left_distinct right_distinct = estimated_distinct_intersection (column_profile_at columns 0) (column_profile_at columns column_size) left_distinct right_distinct

-- ---- estimates, each in front of a list

unfoldable pub pieces_max_by_value : List ℕ → List ℕ → Estimate
pieces_max_by_value left right = max_by_value (estimate_at left 0) (estimate_at right 0)

unfoldable pub pieces_min_by_value : List ℕ → List ℕ → Estimate
pieces_min_by_value left right = min_by_value (estimate_at left 0) (estimate_at right 0)

unfoldable pub pieces_derived : List ℕ → Estimate
pieces_derived value = let e = estimate_at value 0 in derived e.value (lower_bound e) (upper_bound e)
