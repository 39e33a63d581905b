-- The conjuncts that equate no columns, and the probability that a left row finds a partner through them: `residual_selectivity`, `residual_conditional_fanout` and `residual_match_probability` in the source's analysis.rs, with document 01's power in place of powf. Definitions only.
use Rattle.std.specs.Prelude.{ℕ, ◌||◌, cond, List, [], ◌∷◌, Float, Option, None, Some}
use Rattle.std.specs.Float.{binary64}
use Rattle.std.specs.Float.Ieee.{sub, mul, div, le, eq}
use Rattle.float.specs.Order.{f64_zero, f64_one, f64_max, clamp_unit}
use Rattle.power.specs.Power.{power}
use Rattle.sheet.specs.Sheet.{Sheet}
use Rattle.parts.specs.Parts.{column_equality}
use Rattle.parts.specs.declared.equalities.EqualColumns.{EqualColumns}
use Rattle.predicate.specs.Predicate.{filter_selectivity_for_predicate}

abbrev pub times_predicate : Sheet → Float → ℕ → Option EqualColumns → Float
times_predicate sheet product e None = mul binary64 product (filter_selectivity_for_predicate sheet e).value
times_predicate sheet product e (Some columns) = product

-- in the order of the conjuncts
unfoldable pub residual_from : Sheet → Float → List ℕ → Float
unfolding column_equality filter_selectivity_for_predicate
residual_from sheet product [] = product
residual_from sheet product (e ∷ es) = residual_from sheet (times_predicate sheet product e (column_equality sheet e)) es

abbrev pub residual_selectivity : Sheet → List ℕ → Float
residual_selectivity sheet conjuncts = residual_from sheet f64_one conjuncts

-- how many right rows a left row meets that meets any
unfoldable pub residual_conditional_fanout : Float → Float → Float → Float
residual_conditional_fanout match_probability selectivity right_rows =
    cond (le match_probability f64_zero) f64_zero (f64_max (div binary64 (mul binary64 right_rows selectivity) match_probability) f64_one)

unfoldable pub surviving_match_probability : Float → Float → Float → Float → Float
unfolding residual_conditional_fanout power
surviving_match_probability match_probability selectivity right_rows residual =
    let fanout = residual_conditional_fanout match_probability selectivity right_rows in
    let survives = sub binary64 f64_one (power (sub binary64 f64_one residual) fanout) in
    clamp_unit (mul binary64 match_probability survives)

unfoldable pub clamped_match_probability : Float → Float → Float → Float → Float
unfolding surviving_match_probability
clamped_match_probability match_probability selectivity right_rows residual =
    cond (eq match_probability f64_zero || eq residual f64_zero) f64_zero
    (cond (eq residual f64_one) match_probability (surviving_match_probability match_probability selectivity right_rows residual))

-- both probabilities are brought into 0 .. 1 first
unfoldable pub residual_match_probability : Float → Float → Float → Float → Float
unfolding clamped_match_probability
residual_match_probability match_probability selectivity right_rows residual = clamped_match_probability (clamp_unit match_probability) selectivity right_rows (clamp_unit residual)
