use Rattle.std.proofs.Common.{◌≡◌, ◌+◌, ◌-◌, ◌*◌}
use mathlib.Core.Path.{◌∙◌}
use native.Mathlib.Omega.{arith}
use lib.ListN.{length-set}
use Rattle.le.specs.Fields.{u16_at}
use Rattle.layout.specs.Places.{count_size, column_size}
use Rattle.lookup.proofs.NotedLaws.{noted_next, noted_past}
use Rattle.lookup.proofs.places.column_places.Goals as goal

pub loop-i-preserved-then-column-lt-COLUMN_LIMIT : goal.loop-i-preserved-then-column-lt-COLUMN_LIMIT
loop-i-preserved-then-column-lt-COLUMN_LIMIT c =
    let test = c.loop-i-test.true in
    let end : c.from-i.result ≡ u16_at c.args.s.now c.args.start = cc in
    let within = c.loop-i.auto.i in
    let column : c.from-column.result ≡ u16_at c.args.s.now (c.args.start + count_size + column_size * (c.loop-i.i - 1)) = cc in
    rw c.from-in-loop-i.ensures (length-set c.loop-i.places _ _ ∙ c.loop-i.invariant.0, noted_next c.args.s.now _ c.loop-i.places _ c.loop-i.i _ c.loop-i.invariant.0 (omega arith) (omega arith) column c.loop-i.invariant.1)

pub loop-i-preserved : goal.loop-i-preserved
loop-i-preserved c =
    let test = c.loop-i-test.true in
    let end : c.from-i.result ≡ u16_at c.args.s.now c.args.start = cc in
    let within = c.loop-i.auto.i in
    let column : c.from-column.result ≡ u16_at c.args.s.now (c.args.start + count_size + column_size * (c.loop-i.i - 1)) = cc in
    (c.loop-i.invariant.0, noted_past c.args.s.now _ c.loop-i.places _ c.loop-i.i _ c.loop-i.invariant.0 (omega arith) (omega arith) column (omega arith) c.loop-i.invariant.1)
