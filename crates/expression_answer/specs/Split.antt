-- The answer of a split: how many conjuncts, then their numbers. Definitions only.
use Rattle.std.specs.Prelude.{ℕ, List}
use Rattle.le.specs.Fields.{field_bytes}
use Rattle.sheet.specs.Sheet.{Sheet}
use Rattle.number_bytes.specs.Numbers.{numbers_bytes, counted_numbers}
use Rattle.split.specs.Conjuncts.{conjuncts}
use Rattle.answers.specs.Answers.{Result, expression_result}

unfoldable pub split_bytes : Sheet → ℕ → List ℕ
unfolding field_bytes numbers_bytes conjuncts
split_bytes sheet e = counted_numbers (conjuncts sheet e)

unfoldable pub split_result : List ℕ → ℕ → Result
unfolding expression_result split_bytes
split_result s e = expression_result s e split_bytes
