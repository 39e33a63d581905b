use mathlib.Core.Path.{◌≡◌}
use lib.ListN.{length}
use Rattle.edge_fold.specs.Edges.{edge_of, edge_key}
use Rattle.equality_pairs.specs.declared.pairs.EqualityPair.{EqualityPair}
use Rattle.join.proofs.JoinLaws.{StoredFirst}
use Rattle.join.proofs.fold.put_edge_keys.Given as goal

abbrev pub invariant-loop-i : goal.invariant-loop-i
invariant-loop-i l = (length l.keys ≡ length l.pairs) × StoredFirst (λ (pair : EqualityPair). edge_key (edge_of l.classes l.marks pair)) l.pairs l.keys l.i
