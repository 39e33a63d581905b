use Rattle.std.proofs.Common.{◌≡◌}
use Rattle.records.specs.Sketches.{sketch_at}
use Rattle.sketch.proofs.ItemLaws.{items_from}
use Rattle.sketch_join.specs.SketchJoin.{with_matched, summed, matched_values}
use Rattle.sketch_join.proofs.sums.matched_values.Given as goal

abbrev pub invariant-loop-i : goal.invariant-loop-i
invariant-loop-i l = summed with_matched l.sums (items_from l.s l.first.at l.i l.n) (sketch_at l.s l.second.at).items ≡ matched_values (sketch_at l.s l.first.at).items (sketch_at l.s l.second.at).items
