use Prim.Native.Nat.{◌≤◌, ◌*◌}
use mathlib.Core.Path.{◌≡◌}
use lib.ListN.{length}
use Rattle.selection.specs.Selected.{selected}
use Rattle.selection.proofs.WriteLaws.{Written}
use Rattle.selection.proofs.put_selected.Given as goal

abbrev pub invariant-loop-n : goal.invariant-loop-n
invariant-loop-n g l = (l.size ≡ 2 * length (selected (g.T.Test.test l.passing) 0 l.limit)) × (length l.out ≡ length l.initial.out) × (l.at ≤ length l.out) × Written (g.T.Test.test l.passing) l.limit l.initial.out l.out l.at l.n
