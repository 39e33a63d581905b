use Rattle.std.proofs.Common.{◌≡◌}
use Rattle.records.specs.Sketches.{sketch_at}
use Rattle.sketch.specs.Frequent.{find_item}
use Rattle.sketch.proofs.ItemLaws.{items_from}
use Rattle.sketch.proofs.items.find_among.Given as goal

abbrev pub invariant-loop-i : goal.invariant-loop-i
invariant-loop-i g l = find_item l.value (items_from l.s l.sketch.at l.i l.n) ≡ find_item l.value (sketch_at l.s l.sketch.at).items
