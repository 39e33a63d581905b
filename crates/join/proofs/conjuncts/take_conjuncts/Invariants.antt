use Prim.Native.Nat.{◌≤◌}
use lib.ListN.{length}
use Rattle.sheet.specs.Sheet.{viewed}
use Rattle.equality_pairs.proofs.PairLaws.{PairsRest}
use Rattle.join.proofs.ResidualLaws.{ResidualRest}
use Rattle.join.proofs.conjuncts.take_conjuncts.Given as goal

abbrev pub invariant-loop-e : goal.invariant-loop-e
invariant-loop-e l =
    (length l.pairs ≤ l.e-index)
    × PairsRest (viewed l.sheet) l.conjuncts l.pairs l.e-index
    × ResidualRest (viewed l.sheet) l.conjuncts l.product l.e-index
