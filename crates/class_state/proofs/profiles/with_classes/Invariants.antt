use Prim.Native.Nat.{◌≤◌, ◌+◌, ◌*◌}
use mathlib.Core.Path.{◌≡◌}
use Rattle.le.specs.Fields.{u16_at}
use Rattle.sheet.specs.Order.{record_at}
use Rattle.sheet.specs.declared.order.Kind.TheVariants.{Classes}
use Rattle.class_state.specs.State.{Rooted}
use Rattle.class_state.proofs.ClassLaws.{class_state, ClassesRest}
use Rattle.class_state.proofs.profiles.with_classes.Given as goal

abbrev pub invariant-classes : goal.invariant-classes
invariant-classes l = (l.start ≤ 65535) × (l.end ≡ u16_at l.s l.start) × (l.end ≤ 65535) × (l.at ≤ l.start + 2 + 131098 * l.counter) × (l.at ≡ record_at Classes l.s l.start l.counter) × Rooted l.state.roots × ClassesRest l.s l.start (class_state l.initial.state.roots l.initial.state.distincts) (class_state l.state.roots l.state.distincts) l.counter
