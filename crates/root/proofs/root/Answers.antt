use Rattle.std.proofs.Common.{◌≡◌, true, T, sym, refl, ap, ◌∙◌, subst, inl, inr, eq-zero-or-pos}
use lib.Ieee.{Float, nan, binary64, lt, of_bits, to_bits}
use lib.Ieee.Bits.{of_bits-to_bits}
use Rattle.root.specs.Root.{root}
use Rattle.float.specs.Order.{f64_zero}
use Rattle.float.proofs.SignLaws.{above_not_zero}
use Rattle.float.proofs.OrderLaws.{top_bits}
use Rattle.root.proofs.RootValues.{root_infinity, root_same, root_negative}
use Rattle.root.proofs.root.Goals as goal

-- 0.0, by its bits
zero_is : of_bits binary64 0 ≡ f64_zero
unfolding of_bits
zero_is = refl

nan_is : of_bits binary64 0x7ff8_0000_0000_0000 ≡ nan
unfolding of_bits
nan_is = refl

plus : (x : Float) → lt (of_bits binary64 0) x ≡ true → lt f64_zero x ≡ true
plus x h = ap (λ (z : Float). lt z x) (sym zero_is) ∙ h

pub positive_root-requires : goal.positive_root-requires
positive_root-requires c =
    let x = c.args.x in
    let same : of_bits binary64 (to_bits binary64 x) ≡ x = of_bits-to_bits binary64 x (subst T (sym c.well_formed.0.1) tt) in (
      elim (eq-zero-or-pos (to_bits binary64 x)) [
        | inl e ↦ absurd (above_not_zero x (plus x c.if-x.true) (sym same ∙ ap (of_bits binary64) e ∙ zero_is))
        | inr p ↦ p
      ],
      c.if-b-lt-INFINITY_BITS.true,
    )

pub returns-then-b-lt-INFINITY_BITS : goal.returns-then-b-lt-INFINITY_BITS
returns-then-b-lt-INFINITY_BITS c =
    let x = c.args.x in
    let same : of_bits binary64 (to_bits binary64 x) ≡ x = of_bits-to_bits binary64 x (subst T (sym c.well_formed.0.1) tt) in
    c.positive_root.ensures ∙ ap root same

pub returns-then-x : goal.returns-then-x
returns-then-x c =
    let x = c.args.x in
    let e : of_bits binary64 (to_bits binary64 x) ≡ x = of_bits-to_bits binary64 x (subst T (sym c.well_formed.0.1) tt) in
    let i = sym e ∙ top_bits (to_bits binary64 x) c.if-b-lt-INFINITY_BITS.false (ap (lt f64_zero) e ∙ plus x c.if-x.true) in
    i ∙ sym root_infinity ∙ ap root (sym i)

pub returns-then-x-2 : goal.returns-then-x-2
returns-then-x-2 c = nan_is ∙ root_negative c.args.x (ap (lt c.args.x) (sym zero_is) ∙ c.if-x-2.true)

pub returns : goal.returns
returns c = root_same c.args.x (ap (λ (z : Float). lt z c.args.x) (sym zero_is) ∙ c.if-x.false) (ap (lt c.args.x) (sym zero_is) ∙ c.if-x-2.false)
