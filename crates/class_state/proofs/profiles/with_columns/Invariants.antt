use Prim.Native.Nat.{◌+◌, ◌≤◌, ◌<◌, ◌^◌}
use mathlib.Core.Path.{◌≡◌}
use Rattle.le.specs.Fields.{u16_at}
use Rattle.class_state.specs.State.{Rooted}
use Rattle.class_state.proofs.ClassLaws.{class_state, UnitedRest}
use Rattle.class_state.proofs.profiles.with_columns.Given as goal

abbrev pub invariant-loop-i : goal.invariant-loop-i
invariant-loop-i l = (l.n ≡ u16_at l.s l.at) × (l.n ≤ 65535) × (l.at < 2 ^ 60) × (l.first ≡ u16_at l.s (l.at + 28)) × Rooted l.state.roots × UnitedRest l.s l.at l.distinct (class_state l.initial.state.roots l.initial.state.distincts) (class_state l.state.roots l.state.distincts) l.i
