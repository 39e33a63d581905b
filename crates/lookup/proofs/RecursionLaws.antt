-- A number below e stands for the same thing whatever e is. Assumes nothing.
use Prim.Native.Nat.{ℕ, zero, suc, ◌≤◌, ◌<◌}
use mathlib.Core.Path.{◌≡◌, refl, ap}
use mathlib.Core.Logic.{⊎_elim}
use native.Mathlib.Omega.{arith}
use native.Mathlib.Nat.{eq-or-lt_of_le, le_of_suc-le-suc}
use borrow.Author.Tests.{eq-eqb, ne_eqb}
use Rattle.lookup.specs.Recursion.{below, by_number}

module _ {ℓ} {A : Type ℓ} (make : (ℕ → A) → ℕ → A) (other : ℕ → A) where
  pub below_is : (e o : ℕ) → o < e → by_number make other o ≡ below make other e o
  unfolding below by_number
  below_is zero o h = absurd (none o h)
    where
      none : (o : ℕ) → o < 0 → ⊥
      none o h = omega arith
  below_is (suc e) o h = ⊎_elim same (λ l. less l (below_is e o l)) (eq-or-lt_of_le (le_of_suc-le-suc h))
    where
      same : o ≡ e → by_number make other o ≡ below make other (suc e) o
      same q = rw (below, eq-eqb o e q) (ap (λ (m : ℕ). make (below make other m) m) q)

      less : o < e → by_number make other o ≡ below make other e o → by_number make other o ≡ below make other (suc e) o
      less l ih =
          let ne : o ≡ e → ⊥ = omega arith in
          rw (below, ne_eqb o e ne) ih

  pub below_not : (e o : ℕ) → e ≤ o → other o ≡ below make other e o
  unfolding below
  below_not zero o h = refl
  below_not (suc e) o h =
      let ne : o ≡ e → ⊥ = omega arith in
      let l : e ≤ o = omega arith in
      rw (below, ne_eqb o e ne) (below_not e o l)
