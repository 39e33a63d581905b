-- Each turn writes one number, where it passes, behind those before it. Assumes nothing.
use Prim.Native.Nat.{◌+◌}
use mathlib.Core.Path.{refl, sym, ◌∙◌}
use native.Mathlib.Omega.{arith}
use Rattle.selection.proofs.WriteLaws.{Written, written_first, written_within, written_passed, written_part, written_next, none_left, none_behind, written_length, written_all}
use Rattle.selection.proofs.put_selected.Goals.{then-passes, else-passes}
use Rattle.selection.proofs.put_selected.Goals as goal

pub loop-n-init : goal.loop-n-init
loop-n-init g c = (omega arith, refl, omega arith, written_first _ _ _)

pub put_number-at-requires : goal.put_number-at-requires
put_number-at-requires g c =
    let l = c.loop-n in
    written_part (g.T.Test.test c.args.passing.now) c.args.limit c.args.out.now l.out l.at l.n c.loop-n-test.true l.invariant.3 (sym c.passes.ensures ∙ c.if-passes.true) c.requires.1

pub loop-n-preserved : goal.loop-n-preserved
loop-n-preserved g c =
    let test = g.T.Test.test c.args.passing.now in
    let l = c.loop-n in
    let w : Written test c.args.limit c.args.out.now c.if-passes.out c.if-passes.at (l.n + 1) = elim c.if-passes.branch [
      | then-passes w ↦ rw (w.out-is, w.at-is) (written_next test c.args.limit c.args.out.now l.out l.at l.n c.loop-n-test.true l.invariant.3 (sym c.passes.ensures ∙ w.if-passes.true) c.requires.1 _ _ _ w.put_number-at.ensures.0 refl w.put_number-at.ensures.1)
      | else-passes w ↦ rw (w.out-is, w.at-is) (written_passed test c.args.limit c.args.out.now l.out l.at l.n c.loop-n-test.true l.invariant.3 (sym c.passes.ensures ∙ w.if-passes.false))
    ] in
    let k = written_within test c.args.limit c.args.out.now _ _ _ c.requires.1 w in
    (l.invariant.0, k.0, k.1, w)

pub returns-after-loop-n-clause-value : goal.returns-after-loop-n-clause-value
returns-after-loop-n-clause-value g c =
    let test = g.T.Test.test c.args.passing.now in
    let l = c.loop-n in
    written_length test c.args.limit c.args.out.now l.out l.at l.n (none_behind test c.args.limit c.args.out.now l.n (omega arith)) l.invariant.3

pub returns-after-loop-n-clause-out_after : goal.returns-after-loop-n-clause-out_after
returns-after-loop-n-clause-out_after g c =
    let test = g.T.Test.test c.args.passing.now in
    let l = c.loop-n in
    written_all test c.args.limit c.args.out.now l.out l.at l.n (none_behind test c.args.limit c.args.out.now l.n (omega arith)) l.invariant.3

pub returns-then-at-size-clause-out_after : goal.returns-then-at-size-clause-out_after
returns-then-at-size-clause-out_after g c =
    let test = g.T.Test.test c.args.passing.now in
    let l = c.loop-n in
    written_all test c.args.limit c.args.out.now l.out l.at l.n (none_left test c.args.limit c.args.out.now l.out l.at l.n (omega arith) l.invariant.3) l.invariant.3
