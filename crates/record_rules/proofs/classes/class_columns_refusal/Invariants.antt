use Prim.Native.Nat.{◌-◌}
use mathlib.Core.Path.{◌≡◌}
use Rattle.rules.specs.Rules.{first_refusal}
use Rattle.record_rules.specs.Classes.{class_column_refusal}
use Rattle.record_rules.proofs.classes.class_columns_refusal.Given as goal

abbrev pub invariant-loop-j : goal.invariant-loop-j
invariant-loop-j l = first_refusal (class_column_refusal l.s l.first) l.j (l.n - l.j) ≡ first_refusal (class_column_refusal l.s l.first) 0 l.n
