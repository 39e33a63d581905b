-- How long a join's answer can be. Assumes nothing.
use Prim.Native.Nat.{ℕ, ◌+◌, ◌*◌, ◌≤◌}
use mathlib.Core.Path.{◌≡◌}
use mathlib.Core.List.{List}
use native.Mathlib.Omega.{arith}
use lib.ListN.{length}
use Rattle.layout.specs.Places.{column_limit, conjunct_limit, number_size, coverage_size, join_fixed_size, longest_join}
use Rattle.sheet.specs.Sheet.{Sheet}
use Rattle.class_state.specs.declared.EquivalenceClassState.{EquivalenceClassState}
use Rattle.class_state.proofs.SizeLaws.{classes_size_law, classes_size_below}
use Rattle.equality_pairs.specs.Pairs.{equality_pairs}
use Rattle.equality_pairs.specs.declared.pairs.EqualityPair.{EqualityPair}
use Rattle.equality_pairs.specs.NonNull.{non_null_marks}
use Rattle.equality_pairs.proofs.PairLaws.{pairs_length}
use Rattle.edge_fold.specs.Fold.{folded_pairs}
use Rattle.equality_pairs.proofs.MarkedLaws.{marked_below}
use Rattle.join.specs.Join.{join_estimate, join_selectivity_from_conjuncts}
use Rattle.edge_fold.proofs.CountLaws.{coverage_count_law}
use Rattle.join_answer.specs.Join.{join_bytes}
use Rattle.join_answer.proofs.JoinLaws.{join_length}

pub join_within : (sheet : Sheet) (conjuncts : List ℕ) → length conjuncts ≤ conjunct_limit → length (join_bytes (join_selectivity_from_conjuncts sheet conjuncts)) ≤ longest_join
unfolding join_selectivity_from_conjuncts join_estimate
join_within sheet conjuncts h = sum _ _ _ _ _ _ _ (join_length (join_selectivity_from_conjuncts sheet conjuncts)) (classes_size_law state) (classes_size_below state.roots) (coverage_count_law sheet pairs) (pairs_length sheet conjuncts) h (marked_below (non_null_marks pairs))
  where
    pairs : List EqualityPair
    pairs = equality_pairs sheet conjuncts

    state : EquivalenceClassState
    state = (folded_pairs sheet pairs).classes

    sum : (all classes size coverages ps conjuncts columns : ℕ) → all ≡ join_fixed_size + classes + coverage_size * coverages + number_size * columns → classes ≡ size → size ≤ 2048 → coverages ≤ ps → ps ≤ conjuncts → conjuncts ≤ conjunct_limit → columns ≤ column_limit → all ≤ longest_join
    sum all classes size coverages ps conjuncts columns a b c d e f g = omega arith
