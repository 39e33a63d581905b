use Rattle.std.proofs.Common.{◌≡◌, ◌-◌, ◌/◌, ◌^◌}
use Rattle.power.specs.Power.{whole_power}
use Rattle.power.proofs.whole_power.Given as goal

abbrev pub invariant-loop-i : goal.invariant-loop-i
invariant-loop-i l = l.p ≡ whole_power (l.initial.i - l.i) l.x (l.n / 2 ^ l.i)
