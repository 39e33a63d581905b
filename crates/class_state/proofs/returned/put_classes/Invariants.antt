use Prim.Native.Nat.{◌≤◌}
use mathlib.Core.Path.{◌≡◌}
use lib.ListN.{length}
use Rattle.class_state.proofs.ReturnedLaws.{Returned}
use Rattle.class_state.proofs.returned.put_classes.Given as goal

abbrev pub invariant-loop-root : goal.invariant-loop-root
invariant-loop-root l = (length l.out ≡ length l.initial.out) × (l.at ≤ length l.out) × Returned l.state l.initial.out l.out l.at l.root × (length l.counts ≡ 128)
