use Prim.Native.Nat.{◌≤◌, ◌-◌}
use mathlib.Core.Path.{◌≡◌}
use Rattle.le.specs.Fields.{u16_at}
use Rattle.class_state.specs.Distincts.{stored_from}
use Rattle.class_state.proofs.apart.store_distincts.Given as goal

abbrev pub invariant-loop-i : goal.invariant-loop-i
invariant-loop-i l = (l.start ≤ 65535) × (l.initial.i ≡ u16_at l.s l.start) × (l.initial.i ≤ 65535) × (l.i ≤ l.initial.i) × (l.distincts ≡ stored_from l.s l.start l.i (l.initial.i - l.i) l.initial.distincts)
