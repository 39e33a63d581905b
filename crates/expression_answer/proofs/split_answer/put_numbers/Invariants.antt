use Prim.Native.Nat.{◌*◌}
use mathlib.Core.Path.{◌≡◌}
use lib.ListN.{length}
use Rattle.expression_answer.proofs.SplitLaws.{Written}
use Rattle.expression_answer.proofs.split_answer.put_numbers.Given as goal

abbrev pub invariant-loop-n : goal.invariant-loop-n
invariant-loop-n l = (l.at ≡ 2 * l.n-index) × (length l.out ≡ length l.initial.out) × Written l.numbers l.initial.out l.out l.n-index
