-- IS NULL and IS NOT NULL in `filter_selectivity_for_predicate` of the source's analysis.rs. Definitions only.
use Rattle.std.specs.Prelude.{ℕ, false, Option, None, Some, Float}
use Rattle.std.specs.Float.{binary64}
use Rattle.std.specs.Float.Ieee.{round, sub, div}
use Rattle.float.specs.Order.{f64_one, f64_max, clamp_unit}
use Rattle.estimate.specs.declared.Estimate.{Estimate}
use Rattle.records.specs.declared.expressions.UnaryOp.{UnaryOp}
use Rattle.records.specs.declared.expressions.UnaryOp.TheVariants.{Not, IsNull, IsNotNull, Negate}
use Rattle.sheet.specs.Sheet.{Sheet}
use Rattle.lookup.specs.Lookup.{ProfileAndRows, expression_of, profile_and_rows}
use Rattle.range.specs.Selectivity.{unit_estimate, default_estimate}
use Rattle.parts.specs.Parts.{column_ref}

abbrev pub frequency_in : Option ProfileAndRows → Option Float
frequency_in None = None
frequency_in (Some (profile, rows)) = Some profile.frequency.value

-- the frequency of a column in either profile
abbrev pub frequency_of : Sheet → Option ℕ → Option Float
frequency_of sheet None = None
frequency_of sheet (Some column) = frequency_in (profile_and_rows sheet column)

-- the larger side's, and at least 1
abbrev pub larger_rows : Sheet → Float
larger_rows sheet = f64_max (f64_max sheet.left_rows.value sheet.right_rows.value) f64_one

-- 0.1 and 0.9
abbrev pub tenth : Float
tenth = round binary64 false 1 10

abbrev pub nine_tenths : Float
nine_tenths = round binary64 false 9 10

abbrev pub is_null_selectivity : Option Float → Float → Float
is_null_selectivity None rows = tenth
is_null_selectivity (Some frequency) rows = sub binary64 f64_one (clamp_unit (div binary64 frequency rows))

abbrev pub is_not_null_selectivity : Option Float → Float → Float
is_not_null_selectivity None rows = nine_tenths
is_not_null_selectivity (Some frequency) rows = clamp_unit (div binary64 frequency rows)

-- by the frequency and the rows; the other operators give the default
abbrev pub unary_of : Sheet → UnaryOp → Option Float → Float → Estimate
unary_of sheet Not frequency rows = default_estimate sheet
unary_of sheet IsNull frequency rows = unit_estimate (is_null_selectivity frequency rows)
unary_of sheet IsNotNull frequency rows = unit_estimate (is_not_null_selectivity frequency rows)
unary_of sheet Negate frequency rows = default_estimate sheet

unfoldable pub unary_selectivity : Sheet → UnaryOp → ℕ → Estimate
unfolding unit_estimate default_estimate profile_and_rows round
unary_selectivity sheet op expr = unary_of sheet op (frequency_of sheet (column_ref (expression_of sheet expr))) (larger_rows sheet)
