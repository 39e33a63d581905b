-- The answer of a join: figures, classes, coverages and non-null columns, each after its count (document 01, "Three answers"). Definitions only.
use Rattle.std.specs.Prelude.{ℕ, List, ◌++◌, length}
use Rattle.le.specs.Fields.{field_bytes}
use Rattle.number_bytes.specs.Numbers.{numbers_bytes, counted, counted_numbers}
use Rattle.sheet.specs.Check.{check}
use Rattle.sheet.specs.Sheet.{sheet_in, conjuncts_in}
use Rattle.class_state.specs.Bytes.{classes_bytes}
use Rattle.join.specs.Join.{JoinSelectivityEstimate, join_selectivity_from_conjuncts}
use Rattle.edge_fold.specs.Coverages.{coverages_bytes}
use Rattle.join_parts.specs.Parts.{figures_bytes}
use Rattle.answers.specs.Answers.{Result, bytes, sheet_result}

unfoldable pub join_bytes : JoinSelectivityEstimate → List ℕ
unfolding figures_bytes field_bytes classes_bytes coverages_bytes numbers_bytes
join_bytes j =
    counted 1 (figures_bytes j.selectivity j.match_probability j.residual_selectivity)
    ++ (counted (length j.equivalence_classes) (classes_bytes j.equivalence_classes)
    ++ (counted (length j.left_equality_coverages) (coverages_bytes j.left_equality_coverages)
    ++ counted_numbers j.non_null_equality_columns))

-- of the sheet's own conjuncts
unfoldable pub join_result : List ℕ → Result
unfolding check sheet_in conjuncts_in join_selectivity_from_conjuncts join_bytes
join_result s = sheet_result (check s) (bytes (join_bytes (join_selectivity_from_conjuncts (sheet_in s) (conjuncts_in s))))
