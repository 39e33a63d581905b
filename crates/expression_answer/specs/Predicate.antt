-- The answer of a predicate: one estimate. Definitions only.
use Rattle.std.specs.Prelude.{ℕ, List}
use Rattle.estimate.specs.Bytes.{estimate_bytes}
use Rattle.sheet.specs.Sheet.{Sheet}
use Rattle.predicate.specs.Predicate.{filter_selectivity_for_predicate}
use Rattle.answers.specs.Answers.{Result, expression_result}

unfoldable pub predicate_bytes : Sheet → ℕ → List ℕ
unfolding estimate_bytes filter_selectivity_for_predicate
predicate_bytes sheet e = estimate_bytes (filter_selectivity_for_predicate sheet e)

unfoldable pub predicate_result : List ℕ → ℕ → Result
unfolding expression_result predicate_bytes
predicate_result s e = expression_result s e predicate_bytes
