-- Estimates of selectivities. Definitions only.
use Rattle.std.specs.Prelude.{cond, Some, Float}
use Rattle.std.specs.Float.{binary64}
use Rattle.std.specs.Float.Ieee.{div, le}
use Rattle.float.specs.Order.{f64_zero, f64_one, clamp_unit}
use Rattle.estimate.specs.Estimates.{derived}
use Rattle.estimate.specs.declared.Estimate.{Estimate}
use Rattle.sheet.specs.Sheet.{Sheet}

-- derived, with the bounds 0 and 1
unfoldable pub unit_estimate : Float → Estimate
unfolding derived
unit_estimate value = derived value (Some f64_zero) (Some f64_one)

-- where nothing is known
unfoldable pub default_estimate : Sheet → Estimate
unfolding unit_estimate
default_estimate sheet = unit_estimate sheet.settings.default_predicate_selectivity

-- the part of the rows in which a column that is non-null this often is not null
unfoldable pub non_null_fraction : Float → Float → Float
non_null_fraction frequency rows = cond (le rows f64_zero) f64_zero (clamp_unit (div binary64 frequency rows))
