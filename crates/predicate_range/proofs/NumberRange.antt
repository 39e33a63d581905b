-- What holds of everything made from things that have it holds of what every number stands for. Assumes nothing.
use Prim.Native.Nat.{ℕ, zero, suc}
use mathlib.Core.Bool.{Bool, true, false, cond}
use lib.Dec.{eqb}
use Rattle.lookup.specs.Recursion.{below, by_number}

-- of either of two
pub either : {A : Type 0} (P : A → Type 0) (b : Bool) (x y : A) → P x → P y → P (cond b x y)
either P true x y p q = p
either P false x y p q = q

module _ {A : Type 0} (P : A → Type 0) (make : (ℕ → A) → ℕ → A) (other : ℕ → A) (others : (o : ℕ) → P (other o)) (made : (f : ℕ → A) → ((o : ℕ) → P (f o)) → (e : ℕ) → P (make f e)) where
  each_below : (e o : ℕ) → P (below make other e o)
  unfolding below
  each_below zero o = others o
  each_below (suc e) o = go (eqb o e) (made (below make other e) (each_below e) e) (each_below e o)
    where
      go : (b : Bool) → P (make (below make other e) e) → P (below make other e o) → P (elim b [ true ↦ make (below make other e) e | false ↦ below make other e o ])
      go true p q = p
      go false p q = q

  pub each_number : (e : ℕ) → P (by_number make other e)
  unfolding by_number
  each_number e = made (below make other e) (each_below e) e
