use Rattle.std.proofs.Common.{◌+◌, refl, arith}
use Rattle.split.proofs.ConjunctLaws.{Put, put_first, put_all, put_within, put_room, put_part, put_next, one_room, one_next}
use Rattle.split.proofs.+conjuncts.Goals as goal
use Rattle.split.proofs.+conjuncts.Goals.{put_operands-then-o-limit, put_operands-else-o-limit}

pub put_operands-loop-i-init : goal.put_operands-loop-i-init
put_operands-loop-i-init t c =
    (refl, omega arith, rw c.from-i.ensures (put_first _ _ _ _ _ _ _ c.run_end-i-end.ensures))

pub put_operands-put_conjuncts-at-requires : goal.put_operands-put_conjuncts-at-requires
put_operands-put_conjuncts-at-requires t c =
    (omega arith, put_part c.args.sheet.now.bytes.now c.args.sheet.now.sections c.args.run.first c.args.run.count _ _ c.requires _ _ _ _ _ c.loop-i-test.true c.operand_in-o.ensures c.loop-i.invariant.2 c.if-o-limit.true)

pub put_operands-overflow_add-at : goal.put_operands-overflow_add-at
put_operands-overflow_add-at t c =
    let r = put_room c.args.sheet.now.bytes.now c.args.sheet.now.sections c.args.run.first c.args.run.count _ _ c.requires _ _ _ _ _ c.loop-i-test.true c.operand_in-o.ensures c.loop-i.invariant.2 c.if-o-limit.true in
    let n = c.put_conjuncts-at.ensures.value in
    omega (arith, r, n)

pub put_operands-bounds-numbers-at : goal.put_operands-bounds-numbers-at
put_operands-bounds-numbers-at t c =
    let r = one_room c.args.sheet.now.bytes.now c.args.sheet.now.sections c.args.run.first c.args.run.count _ _ c.requires _ _ _ _ _ c.loop-i-test.true c.operand_in-o.ensures c.loop-i.invariant.2 c.if-o-limit.false in
    omega (arith, r)

pub put_operands-loop-i-preserved : goal.put_operands-loop-i-preserved
put_operands-loop-i-preserved t c =
    let p : Put c.args.sheet.now.bytes.now c.args.sheet.now.sections c.args.run.first c.args.run.count c.args.limit c.args.numbers.now c.if-o-limit.numbers c.if-o-limit.at (c.loop-i.i + 1) c.run_end-i-end.result =
    elim c.if-o-limit.branch [
      | put_operands-then-o-limit w ↦
          put_next c.args.sheet.now.bytes.now c.args.sheet.now.sections c.args.run.first c.args.run.count _ _ c.requires _ _ _ _ _ c.loop-i-test.true c.operand_in-o.ensures c.loop-i.invariant.2 w.if-o-limit.true _ _ _ _ _ w.numbers-is w.at-is w.put_conjuncts-at.ensures.value refl w.put_conjuncts-at.ensures.numbers_after
      | put_operands-else-o-limit w ↦
          one_next c.args.sheet.now.bytes.now c.args.sheet.now.sections c.args.run.first c.args.run.count _ _ c.requires _ _ _ _ _ c.loop-i-test.true c.operand_in-o.ensures c.loop-i.invariant.2 w.if-o-limit.false _ _ w.numbers-is w.at-is
    ] in
    let w = put_within c.args.sheet.now.bytes.now c.args.sheet.now.sections c.args.run.first c.args.run.count c.args.limit c.args.numbers.now c.requires _ _ _ _ p in
    (w.0, w.1, p)

pub put_operands-returns-clause-value : goal.put_operands-returns-clause-value
put_operands-returns-clause-value t c =
    (put_all c.args.sheet.now.bytes.now c.args.sheet.now.sections c.args.run.first c.args.run.count _ _ _ _ _ _ (omega arith) c.loop-i.invariant.2).0

pub put_operands-returns-clause-numbers_after : goal.put_operands-returns-clause-numbers_after
put_operands-returns-clause-numbers_after t c =
    (put_all c.args.sheet.now.bytes.now c.args.sheet.now.sections c.args.run.first c.args.run.count _ _ _ _ _ _ (omega arith) c.loop-i.invariant.2).1
