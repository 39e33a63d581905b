-- Intervals from a lower bound to an upper one. Definitions only.
use Rattle.std.specs.Prelude.{Option, Some, None}
use Rattle.interval.specs.declared.Interval.{Interval}

abbrev pub interval_of : {T : Type 0} → T → T → Interval T
interval_of lower upper = record { lower = lower; upper = upper }

-- of two bounds, or nothing where one is absent
abbrev pub zip_bounds : {T : Type 0} → Option T → Option T → Option (Interval T)
zip_bounds (Some lower) (Some upper) = Some (interval_of lower upper)
zip_bounds _ _ = None
