use Prim.Native.Nat.{◌+◌, ◌-◌}
use mathlib.Core.Path.{◌≡◌}
use Rattle.layout.specs.Places.{column_limit}
use Rattle.equality_pairs.specs.NonNull.{passes}
use Rattle.equality_pairs.proofs.non_null.passes.Given as goal

abbrev pub invariant-turns : goal.invariant-turns
invariant-turns l = passes (column_limit + 1 - l.counter) l.marks l.pairs ≡ passes (column_limit + 1) l.initial.marks l.pairs
