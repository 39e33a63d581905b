-- Where the figures of a join's answer lie. `Unit01 x` says of a float that it is one of binary64, finite, with its sign bit clear, and at most 1; `UpTo 64` has 2 ^ 64 in place of 1; `LawfulFigure` is what a sheet may hold: +0, or from 2 ^ -64 to 2 ^ 64. So none is a NaN, an infinity or -0. Definitions only.
use Prim.{Unit}
use Rattle.std.specs.Prelude.{◌≡◌, T, Some, Option, None}
use Rattle.std.specs.Float.Ieee.{le}
use Rattle.float.specs.Order.{f64_zero, f64_one, f64_max, Unit01}
use Rattle.estimate.specs.Estimates.{lower_bound, upper_bound}
use Rattle.estimate.specs.Bytes.{LawfulFigure, LawfulEstimate}
use Rattle.records.specs.Classes.{ColumnEquivalenceClass}
use Rattle.lawful.specs.Lawful.{Each}
use Rattle.units.specs.Sizes.{UpTo}
use Rattle.predicate_range.specs.Range.{BoundedInUnit}
use Rattle.edge.specs.declared.EqualityEdge.{EqualityEdge}
use Rattle.edge.specs.declared.LeftEqualityCoverage.{LeftEqualityCoverage}
use Rattle.edge.specs.declared.EqualityEdgeEstimate.{EqualityEdgeEstimate}
use Rattle.join.specs.Join.{JoinSelectivityEstimate}

-- ---- an edge: the distincts of its columns' classes, by the larger of which the edges are ordered, are ones that a sheet may hold
pub record EdgeInRange (x : EqualityEdge) : Type 0 where
  pub chosen_ndv : LawfulEstimate x.chosen_ndv
  pub left_ndv : LawfulEstimate x.left_ndv
  pub right_ndv : LawfulEstimate x.right_ndv

-- ---- a coverage: neither the intersection nor the match of the rows that are not null is clamped, and a value that both columns are known to have counts as 1, however small their distincts are
pub record CoverageInRange (x : LeftEqualityCoverage) : Type 0 where
  pub input_distinct : LawfulFigure x.input_distinct
  pub input_non_null_fraction : Unit01 x.input_non_null_fraction
  pub intersection_distinct : UpTo 64 x.intersection_distinct
  -- no larger than the distinct, or than 1
  pub intersection_below : T (le x.intersection_distinct (f64_max x.input_distinct f64_one))
  pub non_null_match_probability : UpTo 64 x.non_null_match_probability
  -- from 0 to 1 where the distinct is 1 at least
  pub match_in_unit : T (le f64_one x.input_distinct) → Unit01 x.non_null_match_probability
  pub null_match_probability : Unit01 x.null_match_probability

abbrev pub LeftCoverageInRange : Option LeftEqualityCoverage → Type 0
LeftCoverageInRange None = Unit {0}
LeftCoverageInRange (Some coverage) = CoverageInRange coverage

-- ---- what one equality comes to
pub record EdgeEstimateInRange (x : EqualityEdgeEstimate) : Type 0 where
  pub pair_selectivity : Unit01 x.pair_selectivity
  pub left_match_probability : Unit01 x.left_match_probability
  pub left_coverage : LeftCoverageInRange x.left_coverage

-- ---- a class: its distinct, with both bounds, is one that a sheet may hold
abbrev pub ClassInRange : ColumnEquivalenceClass → Type 0
ClassInRange x = LawfulEstimate x.distinct

-- ---- the answer
pub record JoinInRange (x : JoinSelectivityEstimate) : Type 0 where
  pub selectivity : BoundedInUnit x.selectivity
  pub selectivity_lower : lower_bound x.selectivity ≡ Some f64_zero
  pub selectivity_upper : upper_bound x.selectivity ≡ Some f64_one
  pub equivalence_classes : Each ClassInRange x.equivalence_classes
  pub match_probability : BoundedInUnit x.match_probability
  pub match_lower : lower_bound x.match_probability ≡ Some f64_zero
  pub left_equality_coverages : Each CoverageInRange x.left_equality_coverages
  pub residual_selectivity : Unit01 x.residual_selectivity
