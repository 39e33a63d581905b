use mathlib.Core.Path.{◌≡◌}
use lib.ListN.{length}
use Rattle.le.specs.Fields.{u16_at}
use Rattle.layout.specs.Places.{column_limit}
use Rattle.lookup.proofs.NotedLaws.{Noted}
use Rattle.lookup.proofs.places.column_places.Given as goal

abbrev pub invariant-loop-i : goal.invariant-loop-i
invariant-loop-i l = (length l.places ≡ column_limit) × Noted l.s l.start l.places (u16_at l.s l.start) l.i
