use mathlib.Core.Path.{◌≡◌}
use Prim.Native.Nat.{◌+◌, ◌-◌}
use Rattle.sheet_claims.specs.Stores.{copied}
use Rattle.sheet_claims.proofs.stores.copy.Given as goal

abbrev pub invariant-loop-i : goal.invariant-loop-i
invariant-loop-i l = copied l.byte-items l.i l.c (l.from + l.i) (l.n - l.i) ≡ copied l.initial.byte-items 0 l.c l.from l.n
