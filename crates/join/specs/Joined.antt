-- A join as the code hands it out: its figures, the state of its classes, its non-null columns as marks, and how many coverages it has. Definitions only.
use Rattle.std.specs.Prelude.{ℕ, List, length}
use Rattle.sheet.specs.Sheet.{Sheet}
use Rattle.equality_pairs.specs.Pairs.{equality_pairs}
use Rattle.equality_pairs.specs.NonNull.{non_null_marks}
use Rattle.edge_fold.specs.Fold.{folded_pairs}
use Rattle.join.specs.Join.{join_selectivity_from_conjuncts}
use Rattle.join.specs.declared.Joined.{Joined}

unfoldable pub joined : Sheet → List ℕ → Joined
unfolding equality_pairs non_null_marks folded_pairs join_selectivity_from_conjuncts
joined sheet conjuncts =
    let join = join_selectivity_from_conjuncts sheet conjuncts in
    let pairs = equality_pairs sheet conjuncts in
    record {
      selectivity = join.selectivity;
      match_probability = join.match_probability;
      residual_selectivity = join.residual_selectivity;
      classes = (folded_pairs sheet pairs).classes;
      marks = non_null_marks pairs;
      coverages = length join.left_equality_coverages;
    }
