-- Where the figures of a predicate lie. `Unit01 x` says of a float that it is one of binary64, finite, with its sign bit clear, and at most 1: so it is no NaN, no infinity and not -0. Definitions only.
use Rattle.std.specs.Prelude.{ℕ, ◌≡◌, true, T}
use Rattle.std.specs.Float.Ieee.{le}
use Rattle.float.specs.Order.{Unit01}
use Rattle.estimate.specs.declared.Estimate.{Estimate}
use Rattle.sheet.specs.Sheet.{Sheet}
use Rattle.predicate.specs.Predicate.{filter_selectivity_for_predicate}

-- the value of every expression, by its number
abbrev pub PredicateInUnit : Sheet → Type 0
PredicateInUnit sheet = (e : ℕ) → Unit01 (filter_selectivity_for_predicate sheet e).value

-- both bounds are there, all three figures lie from 0 to 1, and the value lies from the lower bound to the upper
pub record BoundedInUnit (e : Estimate) : Type 0 where
  pub value : Unit01 e.value
  pub lower : Unit01 e.lower
  pub upper : Unit01 e.upper
  pub has_lower : e.has_lower ≡ true
  pub has_upper : e.has_upper ≡ true
  pub above : T (le e.lower e.value)
  pub below : T (le e.value e.upper)

abbrev pub PredicateBoundedInUnit : Sheet → Type 0
PredicateBoundedInUnit sheet = (e : ℕ) → BoundedInUnit (filter_selectivity_for_predicate sheet e)
