use Rattle.std.proofs.Common.{◌≡◌}
use Rattle.power.specs.Power.{root_power}
use Rattle.power.proofs.root_power.Given as goal

abbrev pub invariant-loop-i : goal.invariant-loop-i
invariant-loop-i l = root_power l.i l.r l.q l.u ≡ root_power 30 l.x l.p l.u
