-- `Estimate` of the source's analysis.rs, operation by operation. Definitions only.
use Rattle.std.specs.Prelude.{cond, Option, None, Some, is_some, unwrap_or, Float}
use Rattle.std.specs.Bool.{then_some}
use Rattle.std.specs.Float.Ieee.{le}
use Rattle.float.specs.Order.{f64_zero, f64_max, f64_min}
use Rattle.estimate.specs.declared.Estimate.{Estimate}
use Rattle.estimate.specs.declared.EstimateSource.{EstimateSource}
use Rattle.estimate.specs.declared.EstimateSource.TheVariants.{Exact, Derived, Default}

-- ---- bounds as options

abbrev pub estimate_of : Float → Option Float → Option Float → EstimateSource → Estimate
estimate_of value lower upper source = record { value = value; lower = unwrap_or lower f64_zero; upper = unwrap_or upper f64_zero; has_lower = is_some lower; has_upper = is_some upper; source = source }

abbrev pub lower_bound : Estimate → Option Float
lower_bound e = then_some e.has_lower e.lower

abbrev pub upper_bound : Estimate → Option Float
upper_bound e = then_some e.has_upper e.upper

-- ---- values

-- at least the lower bound, and at most the upper one, where there is one
abbrev pub raised : Float → Option Float → Float
raised value None = value
raised value (Some lower) = f64_max value lower

abbrev pub lowered : Float → Option Float → Float
lowered value None = value
lowered value (Some upper) = f64_min value upper

unfoldable pub clamp_to_bounds : Float → Option Float → Option Float → Float
clamp_to_bounds value lower upper = lowered (raised (f64_max value f64_zero) lower) upper

unfoldable pub exact : Float → Estimate
exact value = estimate_of value (Some value) (Some value) Exact

unfoldable pub derived : Float → Option Float → Option Float → Estimate
unfolding clamp_to_bounds
derived value lower upper = estimate_of (clamp_to_bounds value lower upper) lower upper Derived

unfoldable pub default : Float → Estimate
default value = estimate_of value (Some f64_zero) None Default

-- the first where its value is no smaller, and no larger
unfoldable pub max_by_value : Estimate → Estimate → Estimate
max_by_value a b = cond (le b.value a.value) a b

unfoldable pub min_by_value : Estimate → Estimate → Estimate
min_by_value a b = cond (le a.value b.value) a b
