-- Recursion over expressions: what a number stands for is made from what the smaller numbers stand for. Definitions only.
use Rattle.std.specs.Prelude.{ℕ, zero, suc, true, false, eqb}

-- what o stands for where it is below a number, and `other` where it is not
unfoldable pub below {ℓ} : {A : Type ℓ} → ((ℕ → A) → ℕ → A) → (ℕ → A) → ℕ → ℕ → A
below make other zero o = other o
below make other (suc e) o = elim (eqb o e) [ true ↦ make (below make other e) e | false ↦ below make other e o ]

unfoldable pub by_number {ℓ} : {A : Type ℓ} → ((ℕ → A) → ℕ → A) → (ℕ → A) → ℕ → A
unfolding below
by_number make other e = make (below make other e) e
