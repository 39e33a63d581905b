-- Worked selectivities, whatever the sheet and the profile. Assumes nothing.
use Rattle.std.specs.Prelude.{◌≡◌, refl, true, false, negsuc, Float}
use Rattle.std.specs.Float.{fin}
use Rattle.std.specs.Float.Ieee.{add, sub, mul, div, lt}
use Rattle.float.specs.Order.{f64_zero, f64_one}
use Rattle.scalar.specs.declared.Scalar.{Scalar}
use Rattle.scalar.specs.declared.Scalar.TheVariants.{Null, Boolean}
use Rattle.estimate.specs.Estimates.{exact}
use Rattle.records.specs.declared.columns.ColumnProfile.{ColumnProfile}
use Rattle.records.specs.declared.expressions.BinaryOp.TheVariants.{IsNotDistinctFrom, NotEq}
use Rattle.sheet.specs.Sheet.{Sheet}
use Rattle.range.specs.Selectivity.{unit_estimate, default_estimate}
use Rattle.comparison.specs.Literal.{comparison_value, comparison_selectivity, profile_selectivity}
use Rattle.comparison.specs.Columns.{pair_selectivity}

abbrev half : Float
half = fin false 1 (negsuc 0)

abbrev quarter : Float
quarter = fin false 1 (negsuc 1)

-- Null goes before the operators that give the default
null_safe_null : (sheet : Sheet) (profile : ColumnProfile) (rows : Float) → profile_selectivity sheet profile rows Null IsNotDistinctFrom ≡ exact f64_zero
unfolding profile_selectivity
null_safe_null sheet profile rows = refl

null_safe_value : (sheet : Sheet) (profile : ColumnProfile) (rows : Float) → profile_selectivity sheet profile rows (Boolean true) IsNotDistinctFrom ≡ default_estimate sheet
unfolding profile_selectivity default_estimate
null_safe_value sheet profile rows = refl

-- a value that takes more than the rows that are not null leaves none
none_left : (sheet : Sheet) (profile : ColumnProfile) (literal : Scalar) → comparison_selectivity sheet profile literal NotEq quarter half ≡ unit_estimate f64_zero
unfolding comparison_value sub lt
none_left sheet profile literal = refl

-- of half the rows on each side the only value meets itself in a quarter, and so do the nulls
nulls_meet : pair_selectivity true half half f64_one f64_one ≡ unit_estimate half
unfolding pair_selectivity add sub mul div lt
nulls_meet = refl

nulls_apart : pair_selectivity false half half f64_one f64_one ≡ unit_estimate quarter
unfolding pair_selectivity add sub mul div lt
nulls_apart = refl
