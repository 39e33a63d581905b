use Rattle.sheet.specs.Rules.{records_refusal}
use Rattle.sheet.specs.Order.{record_at}
use Rattle.sheet.specs.Walk.{tally_before}
use Rattle.rules.specs.Rules.{first_refusal}
use lib.ListN.{length}
use Prim.Native.Nat.{◌≤◌, ◌-◌, ◌*◌}
use mathlib.Core.Path.{◌≡◌}
use Rattle.sheet.proofs.walk.walk_records.Given as goal

abbrev pub invariant-loop-i : goal.invariant-loop-i
invariant-loop-i l = record {
  refusal : first_refusal (records_refusal l.walk.kind l.walk.s.now l.walk.sketches l.walk.expressions l.walk.start) l.i (l.n - l.i) ≡ first_refusal (records_refusal l.walk.kind l.walk.s.now l.walk.sketches l.walk.expressions l.walk.start) 0 l.n;
  place : l.at ≡ record_at l.walk.kind l.walk.s.now l.walk.start l.i;
  within : l.at ≤ length l.walk.s.now;
  tally : l.tally ≡ tally_before l.walk.kind l.walk.s.now l.walk.expressions l.walk.start l.i;
  few : l.tally ≤ 65535 * l.i;
}
