use Rattle.std.proofs.Common.{◌≡◌, suc, ◌-◌, ◌/◌, ◌%◌, ◌^◌, div-one, arith}
use lib.Ieee.{binary64, mul, size}
use Rattle.root.proofs.Roots.{size_is}
use Rattle.power.proofs.Powers.{times_one, times_zero, whole_none, whole_step}
use Rattle.power.proofs.whole_power.Goals as goal

pub loop-i-init : goal.loop-i-init
loop-i-init c =
    let none : c.ilog2-i.result - c.ilog2-i.result ≡ 0 = omega arith in
    cc (whole_none c.args.x (c.args.n / 2 ^ c.ilog2-i.result))

pub loop-i-preserved-then-n-i-eq1 : goal.loop-i-preserved-then-n-i-eq1
loop-i-preserved-then-n-i-eq1 c =
    let j = c.ilog2-i.result in
    let i = c.loop-i.i in
    let p = mul binary64 c.loop-i.p c.loop-i.p in
    let more : suc (j - i) ≡ j - (i - 1) = omega arith in
    let next : suc (i - 1) ≡ i = omega arith in
    cc (c.loop-i.invariant, whole_step (j - i) (i - 1) c.args.x c.args.n, times_one _ c.args.x p c.if-n-i-eq1.true)

pub loop-i-preserved : goal.loop-i-preserved
loop-i-preserved c =
    let j = c.ilog2-i.result in
    let i = c.loop-i.i in
    let p = mul binary64 c.loop-i.p c.loop-i.p in
    let more : suc (j - i) ≡ j - (i - 1) = omega arith in
    let next : suc (i - 1) ≡ i = omega arith in
    let digit : c.args.n / 2 ^ (i - 1) % 2 ≡ 0 = omega arith in
    cc (c.loop-i.invariant, whole_step (j - i) (i - 1) c.args.x c.args.n, times_zero _ c.args.x p digit)

pub returns : goal.returns
returns c =
    let j = c.ilog2-i.result in
    let done : c.loop-i.i ≡ 0 = omega arith in
    let digits : size c.args.n ≡ suc j = size_is c.args.n j c.ilog2-i.ensures.power_le (omega arith) in
    let all : j - 0 ≡ size c.args.n - 1 = omega arith in
    let whole : c.args.n / 2 ^ 0 ≡ c.args.n = div-one c.args.n in
    cc c.loop-i.invariant
