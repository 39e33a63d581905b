use mathlib.Core.Path.{◌≡◌}
use lib.ListN.{drop}
use Rattle.equality_pairs.specs.NonNull.{with_ordinary}
use Rattle.equality_pairs.proofs.non_null.mark_ordinary.Given as goal

abbrev pub invariant-loop-pair : goal.invariant-loop-pair
invariant-loop-pair l = with_ordinary l.marks (drop l.pair-index l.pairs) ≡ with_ordinary l.initial.marks l.pairs
