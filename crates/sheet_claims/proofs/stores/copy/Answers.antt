use mathlib.Core.Path.{ap, ◌∙◌}
use Prim.Native.Nat.{◌+◌, ◌-◌}
use native.Mathlib.Omega.{arith}
use lib.ListN.{drop}
use lib.Seq.{length-take-le}
use Rattle.std.proofs.Common.{length-drop}
use borrow.Rule.Slice.PartMut.{put_mid}
use Rattle.sheet_claims.proofs.StoreLaws.{copied_start, copied_next, copied_end, copied_part}
use Rattle.sheet_claims.proofs.stores.copy.Goals as goal

pub loop-i-init : goal.loop-i-init
loop-i-init c = copied_start _ _ _ _

pub loop-i-preserved : goal.loop-i-preserved
loop-i-preserved c =
    let k = length-take-le (c.args.at + c.args.n - c.args.at) (drop c.args.at c.args.s.now) (omega (arith, length-drop c.args.at c.args.s.now)) in
    rw c.byte_at.ensures (copied_next _ _ _ _ _ _ (omega arith) c.loop-i.invariant)

pub returns : goal.returns
returns c =
    let k = length-take-le (c.args.at + c.args.n - c.args.at) (drop c.args.at c.args.s.now) (omega (arith, length-drop c.args.at c.args.s.now)) in
    ap (put_mid c.args.at (c.args.at + c.args.n - c.args.at) c.args.s.now) (copied_end _ _ _ _ _ _ (omega arith) c.loop-i.invariant)
    ∙ copied_part c.args.s.now c.args.c.now c.args.at c.args.from c.args.n (c.args.at + c.args.n - c.args.at) c.requires.n_in_bounds (omega arith)
