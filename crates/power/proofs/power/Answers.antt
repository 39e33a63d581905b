use Rattle.std.proofs.Common.{T, sym, subst}
use lib.Ieee.{le, of_bits, div}
use Rattle.float.specs.Order.{f64_one}
use Rattle.power.specs.Power.{power}
use Rattle.power.proofs.Exponents.{below_top}
use Rattle.power.proofs.power.Goals as goal

pub returns-then-x : goal.returns-then-x
unfolding power of_bits
returns-then-x c = simp c.if-x.true

pub returns-then-f : goal.returns-then-f
unfolding power of_bits
returns-then-f c = simp (c.if-x.false, c.if-f.true)

pub finite_power-requires-clause-below_limit : goal.finite_power-requires-clause-below_limit
unfolding of_bits
finite_power-requires-clause-below_limit c =
    let h : T (le f64_one c.args.f) = subst T (sym c.if-f-2.true) tt in
    below_top c.args.f h c.if-f.false

pub returns-then-f-2 : goal.returns-then-f-2
unfolding power of_bits
returns-then-f-2 c = simp (c.if-x.false, c.if-f.false, c.if-f-2.true) c.finite_power.ensures

pub returns-else-f-2 : goal.returns-else-f-2
unfolding power of_bits div
returns-else-f-2 c = simp (c.if-x.false, c.if-f.false, c.if-f-2.false)
