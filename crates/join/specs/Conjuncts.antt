-- The conjuncts of a join, taken one by one: the pairs of columns that they equate, and the product over the others. Definitions only.
use Rattle.std.specs.Prelude.{ℕ, List}
use Rattle.sheet.specs.Sheet.{Sheet}
use Rattle.equality_pairs.specs.Pairs.{equality_pairs}
use Rattle.join.specs.Residual.{residual_from, residual_selectivity}
use Rattle.join.specs.declared.conjuncts.Conjuncts.{Conjuncts}

unfoldable pub take_conjuncts : Sheet → List ℕ → Conjuncts
unfolding equality_pairs residual_from
take_conjuncts sheet conjuncts = record { pairs = equality_pairs sheet conjuncts; residual_selectivity = residual_selectivity sheet conjuncts }
