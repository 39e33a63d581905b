-- Where a fraction lies, what is asked of a column's bounds, and what is known of the distinct values that two columns share. Definitions only.
use Rattle.std.specs.Prelude.{◌≡◌, true, false, T, pos, Float, Option, IfSome}
use Rattle.std.specs.Float.{fin, binary64}
use Rattle.std.specs.Float.Ieee.{fits, le}
use Rattle.float.specs.Order.{f64_one, f64_max, f64_min, nonneg, Unit01}
use Rattle.scalar_bytes.specs.Encoding.{lawful_bound}
use Rattle.records.specs.declared.columns.ColumnProfile.{ColumnProfile}

-- from 0 to 1 and not -0, where there is a fraction
abbrev pub InUnit : Option Float → Type 0
InUnit x = IfSome x Unit01

-- a sheet may hold both
pub record LawfulBounds (x : ColumnProfile) : Type 0 where
  pub lower : lawful_bound x.lower ≡ true
  pub upper : lawful_bound x.upper ≡ true

-- a value of binary64, finite and with the sign clear, no larger than the smaller of the two distincts or than 1, whichever is larger, and no larger than 2 ^ 64
pub record DistinctWithin (left right x : Float) : Type 0 where
  pub held : T (fits binary64 x)
  pub low : T (nonneg x)
  pub high : T (le x (f64_max (f64_min left right) f64_one))
  pub top : T (le x (fin false 1 (pos 64)))
