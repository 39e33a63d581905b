use Rattle.std.proofs.Common.{◌≡◌, ◌+◌, ◌*◌, ◌≤◌}
use Rattle.sheet.specs.Order.{record_at}
use Rattle.sheet.specs.declared.order.Kind.TheVariants.{Sketches}
use Rattle.sketch.proofs.places.sketch_place.Given as goal

abbrev pub invariant-loop-i : goal.invariant-loop-i
invariant-loop-i l = (l.at ≤ l.start + 2 + 2293735 * l.i) × (l.at ≡ record_at Sketches l.s l.start l.i)
