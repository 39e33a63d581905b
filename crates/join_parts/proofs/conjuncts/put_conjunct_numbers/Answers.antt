use Prim.Native.Nat.{◌≤◌}
use mathlib.Core.Path.{sym, ◌∙◌}
use native.Mathlib.Omega.{arith}
use lib.ListN.{length, take}
use lib.Seq.{length-take-le}
use Rattle.join_parts.proofs.CopyLaws.{copied_none}
use Rattle.join_parts.proofs.ConjunctLaws.{conjuncts_at, conjuncts_count, conjunct_next, conjuncts_all}
use Rattle.join_parts.proofs.conjuncts.put_conjunct_numbers.Goals as goal

pub slice_bounds-number-items-end : goal.slice_bounds-number-items-end
slice_bounds-number-items-end c = let l = conjuncts_count c.args.sheet.now.bytes.now c.args.sheet.now.sections in omega arith

pub slice_bounds-number-items-end-2 : goal.slice_bounds-number-items-end-2
slice_bounds-number-items-end-2 c = let l = conjuncts_count c.args.sheet.now.bytes.now c.args.sheet.now.sections in sym (length-take-le _ c.args.numbers.now (omega arith))

pub loop-i-init : goal.loop-i-init
loop-i-init c = (c.u16_at-n.ensures, copied_none (conjuncts_at c.args.sheet.now.bytes.now c.args.sheet.now.sections.conjuncts) _)

pub loop-i-preserved : goal.loop-i-preserved
loop-i-preserved c =
    let l = c.loop-i.invariant in
    let m = conjuncts_count c.args.sheet.now.bytes.now c.args.sheet.now.sections in
    let fits : c.u16_at-n.result ≤ length c.args.numbers.now = omega arith in
    let k = length-take-le c.u16_at-n.result c.args.numbers.now fits in
    (l.0, conjunct_next c.args.sheet.now.bytes.now c.args.sheet.now.sections.conjuncts (take c.u16_at-n.result c.args.numbers.now) c.loop-i.number-items c.loop-i.i _ (omega arith) (omega arith) c.u16_at.ensures l.1)

pub returns-clause-value : goal.returns-clause-value
returns-clause-value c = c.u16_at-n.ensures ∙ conjuncts_count c.args.sheet.now.bytes.now c.args.sheet.now.sections

pub returns-clause-numbers_after : goal.returns-clause-numbers_after
returns-clause-numbers_after c =
    let l = c.loop-i.invariant in
    let m = conjuncts_count c.args.sheet.now.bytes.now c.args.sheet.now.sections in
    let fits : c.u16_at-n.result ≤ length c.args.numbers.now = omega arith in
    let k = length-take-le c.u16_at-n.result c.args.numbers.now fits in
    conjuncts_all c.args.sheet.now.bytes.now c.args.sheet.now.sections c.args.numbers.now c.loop-i.number-items _ c.loop-i.i l.0 (omega arith) l.1
