use mathlib.Core.Path.{◌≡◌}
use Rattle.class_state.specs.State.{moved}
use Rattle.class_state.proofs.MappedLaws.{mapped}
use Rattle.class_state.proofs.unions.move_each.Given as goal

abbrev pub invariant-loop-root : goal.invariant-loop-root
invariant-loop-root l = l.roots ≡ mapped (moved l.from l.to) l.initial.roots l.root-index
