-- Floats between powers of two: products from below. Assumes nothing.
use Prim.Native.Nat.{ℕ, ◌+◌, ◌*◌, ◌^◌, ◌≤◌}
use mathlib.Core.Path.{sym, ap, subst, ◌∙◌}
use native.Mathlib.Nat as Nat
use native.Mathlib.Nat.{le_of_eq, mul-pos, mul-le-mul, mul-mul-mul_comm}
use lib.Dec.{T}
use lib.Pow.{pow-add}
use lib.Ieee.{Float, binary64, mul}
use lib.Ieee.Positive.{num, den, den_pos}
use Rattle.float.specs.Order.{nonneg}
use Rattle.float.proofs.NonNegLaws.{mul_is}
use Rattle.units.specs.Sizes.{AtLeast}
use Rattle.units.proofs.SizeLaws.{round_at_least}

pub mul_at_least : (l k : ℕ) (x y : Float) → l + k ≤ 1074 → AtLeast l x → AtLeast k y → T (nonneg (mul binary64 x y)) → AtLeast (l + k) (mul binary64 x y)
mul_at_least l k x y H a b p =
    let e = mul_is binary64 x y a.low b.low in
    let bound = Nat.le_trans (mul-le-mul a.floor b.floor) (le_of_eq (mul-mul-mul_comm (num x) (2 ^ l) (num y) (2 ^ k) ∙ ap (λ (z : ℕ). num x * num y * z) (sym (pow-add 2 l k)))) in
    subst (AtLeast (l + k)) (sym e) (round_at_least (l + k) (num x * num y) (den x * den y) H (mul-pos (den_pos x) (den_pos y)) bound (subst (λ (z : Float). T (nonneg z)) e p))
