use mathlib.Core.Path.{ap}
use native.Mathlib.Omega.{arith}
use lib.ListN.{set}
use Rattle.class_state.proofs.ApartLaws.{stored_first, stored_next, stored_past, stored_all}
use Rattle.class_state.proofs.apart.store_distincts.Goals as goal

pub loop-i-init : goal.loop-i-init
loop-i-init c = (omega arith, c.u16_at-i.ensures, omega arith, omega arith, stored_first _ _ _ _)

pub loop-i-preserved-then-column-distincts : goal.loop-i-preserved-then-column-distincts
loop-i-preserved-then-column-distincts c =
    let l = c.loop-i in
    (l.invariant.0, l.invariant.1, l.invariant.2, omega arith, stored_next c.args.s.now _ _ l.distincts _ l.i _ _ (omega arith) l.invariant.3 c.u16_at-column.ensures (ap (set l.distincts _) c.estimate_at.ensures) l.invariant.4)

pub loop-i-preserved : goal.loop-i-preserved
loop-i-preserved c =
    let l = c.loop-i in
    (l.invariant.0, l.invariant.1, l.invariant.2, omega arith, stored_past c.args.s.now _ _ l.distincts l.i _ _ (omega arith) l.invariant.3 c.u16_at-column.ensures (omega arith) l.invariant.4)

pub returns : goal.returns
returns c = stored_all c.args.s.now _ _ c.loop-i.distincts c.loop-i.i _ (omega arith) c.loop-i.invariant.1 c.loop-i.invariant.4
