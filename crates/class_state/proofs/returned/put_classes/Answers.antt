-- Each turn writes one class, if it is returned. Assumes nothing.
use Prim.Native.Nat.{◌≤◌}
use mathlib.Core.Path.{refl}
use native.Mathlib.Omega.{arith}
use lib.ListN.{length}
use Rattle.class_state.specs.State.{no_distinct}
use Rattle.class_state.proofs.SizeLaws.{classes_size}
use Rattle.class_state.proofs.CountLaws.{counts_length, count_at, counts_size_law}
use Rattle.class_state.proofs.UnionLaws.{read_any}
use Rattle.class_state.proofs.ReturnedLaws.{returned_first, returned_within, returned_room, returned_part, returned_next, returned_written, returned_end}
use Rattle.class_state.proofs.returned.put_classes.Goals as goal

pub loop-root-init : goal.loop-root-init
loop-root-init c = (refl, omega arith, returned_first _ _, counts_length c.args.state.now.roots c.args.counts.now c.requires.0)

pub invariant_of-class : goal.invariant_of-class
invariant_of-class c = record { counted = count_at c.args.state.now.roots c.args.counts.now c.loop-root.root c.requires.0 (omega arith) }

pub put_returned-at-requires : goal.put_returned-at-requires
put_returned-at-requires c =
    let l = c.loop-root in
    let state = c.args.state.now in
    let z = counts_size_law state.roots c.args.counts.now c.requires.0 in
    let room : classes_size state.roots ≤ length c.args.out.now = omega arith in
    returned_part state c.args.out.now l.out l.at l.root l.invariant.2 room (omega arith)

pub overflow_add-at : goal.overflow_add-at
overflow_add-at c =
    let l = c.loop-root in
    let state = c.args.state.now in
    let z = counts_size_law state.roots c.args.counts.now c.requires.0 in
    let m = returned_room state c.args.out.now l.out l.at l.root l.invariant.2 (omega arith) in
    let p = c.put_returned-at.ensures.value in
    omega arith

pub loop-root-preserved : goal.loop-root-preserved
loop-root-preserved c =
    let l = c.loop-root in
    let state = c.args.state.now in
    let z = counts_size_law state.roots c.args.counts.now c.requires.0 in
    let room : classes_size state.roots ≤ length c.args.out.now = omega arith in
    let p = c.put_returned-at.ensures in
    let next = returned_next state c.args.out.now l.out l.at l.root l.invariant.2 room (omega arith) _ _ _ _ (read_any state.distincts l.root _ no_distinct (omega arith)) p.value refl p.out_after in
    let k = returned_within state c.args.out.now _ _ _ next room in
    (k.0, k.1, next, l.invariant.3)

pub returns-then-at-size : goal.returns-then-at-size
returns-then-at-size c =
    let l = c.loop-root in
    let z = counts_size_law c.args.state.now.roots c.args.counts.now c.requires.0 in
    returned_written c.args.state.now c.args.out.now l.out l.at l.root l.invariant.2 (omega arith)

pub returns : goal.returns
returns c =
    let l = c.loop-root in
    returned_end c.args.state.now c.args.out.now l.out l.at l.root l.invariant.2 (omega arith)
