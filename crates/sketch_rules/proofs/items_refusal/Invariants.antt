use Prim.Native.Nat.{◌-◌}
use mathlib.Core.Path.{◌≡◌}
use Rattle.rules.specs.Rules.{first_refusal}
use Rattle.sketch_rules.specs.Sketches.{item_refusal}
use Rattle.sketch_rules.proofs.items_refusal.Given as goal

abbrev pub invariant-loop-j : goal.invariant-loop-j
invariant-loop-j l = first_refusal (item_refusal l.s l.first) l.j (l.n - l.j) ≡ first_refusal (item_refusal l.s l.first) 0 l.n
