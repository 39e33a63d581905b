-- How many distinct values two columns share: a number from 0 to the larger of 1 and the smaller distinct, and not -0, where the bounds and the distincts are such as a sheet may hold. Assumes nothing.
use mathlib.Core.Path.{◌≡◌, refl}
use mathlib.Core.Bool.{Bool, true, false, cond, ◌||◌}
use lib.Dec.{T, lit≤}
use lib.Ieee.{Float, binary64, mul, lt, le}
use Rattle.float.specs.Order.{f64_zero, f64_one, f64_max, f64_min, nonneg, Unit01}
use Rattle.float.proofs.UnitLaws.{zero_unit}
use Rattle.float.proofs.NonNegLaws.{le_trans, not_lt_le}
use Rattle.float.proofs.OrderLaws.{lt_le}
use Rattle.scalar.specs.Order.{scalar_order, is_equal}
use Rattle.scalar.specs.declared.Scalar.{Scalar}
use Rattle.std.specs.Prelude.{Option, Some, None}
use Rattle.scalar_bytes.specs.Encoding.{lawful_scalar, lawful_bound}
use Rattle.estimate.specs.Bytes.{LawfulFigure}
use Rattle.records.specs.declared.columns.ColumnProfile.{ColumnProfile}
use Rattle.units.specs.Sizes.{UpTo}
use Rattle.units.proofs.ScalarLaws.{holds}
use Rattle.units.proofs.SizeLaws.{up_to_le, unit_up_to, zero_up_to, one_up_to, max_up_to, mul_up_to}
use Rattle.units.proofs.FigureLaws.{figure_up_to}
use Rattle.units.proofs.UnitOperations.{le_own}
use Rattle.interval.specs.Intervals.{interval_of, zip_bounds}
use Rattle.interval.specs.Fraction.{scalar_interval_fraction}
use Rattle.interval.specs.Intersection.{overlapping, disjoint, overlap, at_least_point, shared_distinct, overlap_distinct, bounded_intersection, zipped_intersection, estimated_distinct_intersection}
use Rattle.interval.specs.declared.intersection.DistinctIntersection.{DistinctIntersection}
use Rattle.fraction_range.specs.Distinct.{InUnit}
use Rattle.fraction_range.specs.Distinct.{LawfulBounds, DistinctWithin}
use Rattle.fraction_range.proofs.RangeFractionLaws.{left_unit, right_unit}

-- ---- the smaller and the larger of two
min_up_to : (x y : Float) → UpTo 64 x → UpTo 64 y → UpTo 64 (f64_min x y)
min_up_to x y u v = go (lt y x)
  where
    go : (b : Bool) → UpTo 64 (cond b y x)
    go true = v
    go false = u

min_right : (x y : Float) → T (nonneg x) → T (nonneg y) → T (le (f64_min x y) y)
min_right x y p q = go (lt y x) (not_lt_le y x q p)
  where
    go : (b : Bool) → (b ≡ false → T (le x y)) → T (le (cond b y x) y)
    go true k = le_own y q
    go false k = k refl

pub max_left : (x y : Float) → T (nonneg x) → T (le x (f64_max x y))
max_left x y p = go (lt x y) (λ e. lt_le x y (holds (lt x y) e))
  where
    go : (b : Bool) → (b ≡ true → T (le x y)) → T (le x (cond b y x))
    go true k = k refl
    go false k = le_own x p

pub max_right : (x y : Float) → T (nonneg x) → T (nonneg y) → T (le y (f64_max x y))
max_right x y p q = go (lt x y) (not_lt_le x y p q)
  where
    go : (b : Bool) → (b ≡ false → T (le y x)) → T (le y (cond b y x))
    go true k = le_own y q
    go false k = k refl

pub max_le : (x y z : Float) → T (le x z) → T (le y z) → T (le (f64_max x y) z)
max_le x y z h k = go (lt x y)
  where
    go : (b : Bool) → T (le (cond b y x) z)
    go true = k
    go false = h

-- ---- for two distincts that a sheet may hold
module _ (left right : Float) (fl : LawfulFigure left) (fr : LawfulFigure right) where
  abbrev least : Float
  least = f64_min left right

  abbrev most : Float
  most = f64_max least f64_one

  least_up_to : UpTo 64 least
  least_up_to = min_up_to left right (figure_up_to left fl) (figure_up_to right fr)

  most_up_to : UpTo 64 most
  most_up_to = max_up_to 64 least f64_one least_up_to (one_up_to 64)

  within : (x : Float) → UpTo 64 x → T (le x most) → DistinctWithin left right x
  within x u h = record { held = u.held; low = u.low; high = h; top = up_to_le 64 x u }

  one_most : T (le f64_one most)
  one_most = max_right least f64_one least_up_to.low tt

  least_most : (x : Float) → UpTo 64 x → T (le x least) → T (le x most)
  least_most x u h = le_trans x least most u.low least_up_to.low most_up_to.low h (max_left least f64_one least_up_to.low)

  zero_within : DistinctWithin left right f64_zero
  zero_within = within f64_zero (zero_up_to 64) (le_trans f64_zero f64_one most tt tt most_up_to.low zero_unit.high one_most)

  least_within : DistinctWithin left right least
  least_within = within least least_up_to (least_most least least_up_to (le_own least least_up_to.low))

  point_within : (point : Bool) (x : Float) → UpTo 64 x → T (le x least) → DistinctWithin left right (at_least_point point x)
  point_within true x u h = within (f64_max x f64_one) (max_up_to 64 x f64_one u (one_up_to 64)) (max_le x f64_one most (least_most x u h) one_most)
  point_within false x u h = within x u (least_most x u h)

  part_up_to : (x p : Float) → LawfulFigure x → Unit01 p → UpTo 64 (mul binary64 x p)
  part_up_to x p f h = mul_up_to 64 0 x p (lit≤ tt) (figure_up_to x f) (unit_up_to p h)

  pub shared_within : (x y : Option Float) (point : Bool) → InUnit x → InUnit y → DistinctWithin left right (shared_distinct x y point left right)
  unfolding shared_distinct
  shared_within None y point h k = least_within
  shared_within (Some x) None point h k = least_within
  shared_within (Some x) (Some y) point h k =
      let parts = f64_min (mul binary64 left x) (mul binary64 right y) in
      let u = min_up_to (mul binary64 left x) (mul binary64 right y) (part_up_to left x fl h) (part_up_to right y fr k) in
      point_within point (f64_min parts least) (min_up_to parts least u least_up_to) (min_right parts least u.low least_up_to.low)

  overlap_within : (ll lu rl ru : Scalar) → lawful_scalar ll ≡ true → lawful_scalar lu ≡ true → lawful_scalar rl ≡ true → lawful_scalar ru ≡ true → DistinctWithin left right (overlap_distinct (interval_of ll lu) (interval_of rl ru) left right)
  unfolding overlap_distinct
  overlap_within ll lu rl ru hll hlu hrl hru =
      let both = overlap (interval_of ll lu) (interval_of rl ru) in
      shared_within (scalar_interval_fraction (interval_of ll lu) both) (scalar_interval_fraction (interval_of rl ru) both) (is_equal (scalar_order both.lower both.upper))
      (left_unit ll lu rl ru hll hlu hrl hru) (right_unit ll lu rl ru hll hlu hrl hru)

  bounded_within : (ll lu rl ru : Scalar) → lawful_scalar ll ≡ true → lawful_scalar lu ≡ true → lawful_scalar rl ≡ true → lawful_scalar ru ≡ true → DistinctWithin left right (bounded_intersection (interval_of ll lu) (interval_of rl ru) left right).distinct
  unfolding bounded_intersection
  bounded_within ll lu rl ru hll hlu hrl hru = go (disjoint (interval_of ll lu) (interval_of rl ru)) (overlap_distinct (interval_of ll lu) (interval_of rl ru) left right) (overlap_within ll lu rl ru hll hlu hrl hru)
    where
      go : (b : Bool) (x : Float) → DistinctWithin left right x → DistinctWithin left right (cond b (record { distinct = f64_zero; domains_disjoint = true }) (overlapping x)).distinct
      go true x h = zero_within
      go false x h = h

  zipped_within : (ll lu rl ru : Option Scalar) → lawful_bound ll ≡ true → lawful_bound lu ≡ true → lawful_bound rl ≡ true → lawful_bound ru ≡ true
      → DistinctWithin left right (zipped_intersection (zip_bounds ll lu) (zip_bounds rl ru) left right).distinct
  unfolding zipped_intersection lawful_bound
  zipped_within None lu rl ru hll hlu hrl hru = least_within
  zipped_within (Some ll) None rl ru hll hlu hrl hru = least_within
  zipped_within (Some ll) (Some lu) None ru hll hlu hrl hru = least_within
  zipped_within (Some ll) (Some lu) (Some rl) None hll hlu hrl hru = least_within
  zipped_within (Some ll) (Some lu) (Some rl) (Some ru) hll hlu hrl hru = bounded_within ll lu rl ru hll hlu hrl hru

pub intersection_within : (left right : ColumnProfile) (left_distinct right_distinct : Float) → LawfulBounds left → LawfulBounds right → LawfulFigure left_distinct → LawfulFigure right_distinct
    → DistinctWithin left_distinct right_distinct (estimated_distinct_intersection left right left_distinct right_distinct).distinct
unfolding estimated_distinct_intersection
intersection_within left right x y bl br fl fr =
    go (le x f64_zero || le y f64_zero) (zipped_intersection (zip_bounds left.lower left.upper) (zip_bounds right.lower right.upper) x y)
    (zipped_within x y fl fr left.lower left.upper right.lower right.upper bl.lower bl.upper br.lower br.upper)
  where
    go : (b : Bool) (d : DistinctIntersection) → DistinctWithin x y d.distinct → DistinctWithin x y (cond b (overlapping f64_zero) d).distinct
    go true d h = zero_within x y fl fr
    go false d h = h
