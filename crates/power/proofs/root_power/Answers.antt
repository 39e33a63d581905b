use Rattle.std.proofs.Common.{◌≡◌, ℕ, suc, ◌-◌, ◌/◌, ◌%◌, ◌^◌, ◌<◌, refl, ap, inl, inr, sym, ◌∙◌, arith, eq-zero-or-pos}
use Rattle.std.proofs.lemmas.Nat.Bits.{bit_at-zero, bit_at-trailing_zeros}
use Rattle.std.specs.Int.{bit_at, w64}
use Rattle.power.proofs.Powers.{times_one, times_zero, root_step, roots_rest}
use Rattle.power.proofs.root_power.Goals as goal

pub loop-i-init : goal.loop-i-init
loop-i-init c = refl

pub loop-i-preserved-then-u-i-eq1 : goal.loop-i-preserved-then-u-i-eq1
loop-i-preserved-then-u-i-eq1 c =
    let i = c.loop-i.i in
    let next : suc (i - 1) ≡ i = omega arith in
    cc (c.loop-i.invariant, c.root-r.ensures, root_step (i - 1) c.loop-i.r c.loop-i.q c.args.u, times_one _ c.root-r.result c.loop-i.q c.if-u-i-eq1.true)

pub loop-i-preserved : goal.loop-i-preserved
loop-i-preserved c =
    let i = c.loop-i.i in
    let next : suc (i - 1) ≡ i = omega arith in
    let digit : c.args.u / 2 ^ (i - 1) % 2 ≡ 0 = omega arith in
    cc (c.loop-i.invariant, c.root-r.ensures, root_step (i - 1) c.loop-i.r c.loop-i.q c.args.u, times_zero _ c.root-r.result c.loop-i.q digit)

pub returns : goal.returns
returns c = sym (roots_rest c.loop-i.i c.loop-i.r c.loop-i.q c.args.u none) ∙ c.loop-i.invariant
  where
    none : (k : ℕ) → k < c.loop-i.i → bit_at c.args.u k ≡ 0
    none k l = elim (eq-zero-or-pos c.args.u) [
      | inl e ↦ ap (λ (u : ℕ). bit_at u k) e ∙ bit_at-zero k
      | inr h ↦ (bit_at-trailing_zeros w64 c.args.u h c.ranges.u.fits).2 k (omega arith)
    ]
