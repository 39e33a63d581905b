-- Widths of whole numbers: what the machine's test for unlike ends says. Assumes nothing.
use Prim.Native.Nat.{zero, suc}
use mathlib.Core.Path.{◌≡◌, refl, sym, ap, ◌∙◌}
use mathlib.Core.Bool.{Bool, true, false, true≢false}
use lib.IntN.{ℤ, pos, negsuc, ◌+ℤ◌, ◌-ℤ◌, +ℤ_idl, -ℤ-+ℤ_cancel}
use mir.Syntax.{w64}
use mir.Val.{of_z}
use Rattle.interval.specs.Fraction.{is_zero}

zero_is : (z : ℤ) → is_zero z ≡ true → z ≡ pos 0
zero_is (pos zero) e = refl
zero_is (pos (suc n)) e = absurd (true≢false (sym e))
zero_is (negsuc n) e = absurd (true≢false (sym e))

pub unlike_ends : (a b : ℤ) → (of_z w64 a ≡ of_z w64 b → ⊥) → is_zero (a -ℤ b) ≡ false
unlike_ends a b h = go (is_zero (a -ℤ b)) (zero_is (a -ℤ b))
  where
    same : a -ℤ b ≡ pos 0 → a ≡ b
    same e = sym (-ℤ-+ℤ_cancel a b) ∙ ap (λ (z : ℤ). z +ℤ b) e ∙ +ℤ_idl b

    go : (t : Bool) → (t ≡ true → a -ℤ b ≡ pos 0) → t ≡ false
    go true k = absurd (h (ap (of_z w64) (same (k refl))))
    go false k = refl
