-- The pairs of columns that conjuncts equate (`equality_pairs` in the source's analysis.rs). Definitions only.
use Rattle.std.specs.Prelude.{ℕ, Bool, false, List, [], ◌∷◌, ◌++◌, Option, option_map, option_to_list}
use Rattle.records.specs.declared.expressions.Expression.{Expression}
use Rattle.records.specs.declared.expressions.Expression.TheVariants.{Binary}
use Rattle.sheet.specs.Sheet.{Sheet}
use Rattle.lookup.specs.Lookup.{expression_of}
use Rattle.parts.specs.Parts.{is_null_safe, column_equality}
use Rattle.parts.specs.declared.equalities.EqualColumns.{EqualColumns}
use Rattle.equality_pairs.specs.declared.pairs.EqualityPair.{EqualityPair}

-- whether the expression is itself one under which two nulls are equal
abbrev pub null_safe_in : Expression → Bool
null_safe_in (Binary op left right) = is_null_safe op
null_safe_in _ = false

abbrev pub pair_of : Bool → EqualColumns → EqualityPair
pair_of null_safe columns = record { left = columns.left; right = columns.right; null_safe = null_safe }

unfoldable pub equality_pair : Sheet → ℕ → Option EqualityPair
unfolding column_equality
equality_pair sheet e = option_map (pair_of (null_safe_in (expression_of sheet e))) (column_equality sheet e)

-- in the order of the conjuncts
unfoldable pub equality_pairs : Sheet → List ℕ → List EqualityPair
unfolding equality_pair
equality_pairs sheet [] = []
equality_pairs sheet (e ∷ es) = option_to_list (equality_pair sheet e) ++ equality_pairs sheet es
