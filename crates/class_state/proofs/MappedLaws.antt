-- A list of which a loop has mapped the first elements. Assumes nothing.
use Prim.Native.Nat.{ℕ, zero, suc, ◌+◌, ◌≤◌, ◌<◌}
use mathlib.Core.Path.{◌≡◌, refl, ap}
use mathlib.Core.List.{List, [], ◌∷◌, ◌++◌, map, append-nil}
use native.Mathlib.Omega.{arith}
use native.Mathlib.Nat.{le_of_suc-le-suc}
use native.Mathlib.Numerals.{add-one}
use lib.ListN.{length, get_or, take, drop, set, drop_of_length-le}
use lib.Seq.{take_all}

-- the first i are mapped
unfoldable pub mapped : (ℕ → ℕ) → List ℕ → ℕ → List ℕ
mapped f l i = map f (take i l) ++ drop i l

pub mapped_none : (f : ℕ → ℕ) (l : List ℕ) → l ≡ mapped f l 0
unfolding mapped
mapped_none f l = refl

pub mapped_all : (f : ℕ → ℕ) (l : List ℕ) (i : ℕ) → length l ≤ i → mapped f l i ≡ map f l
unfolding mapped
mapped_all f l i h = rw (drop_of_length-le l h, take_all i l h, append-nil) refl

more : (f : ℕ → ℕ) (l : List ℕ) (i : ℕ) → i < length l → set (mapped f l i) i (f (get_or (mapped f l i) i 0)) ≡ mapped f l (suc i)
unfolding mapped
more f [] i h = absurd (none i h)
  where
    none : (i : ℕ) → i < 0 → ⊥
    none i h = omega arith
more f (x ∷ l) zero h = refl
more f (x ∷ l) (suc i) h = ap (◌∷◌ (f x)) (more f l i (le_of_suc-le-suc h))

pub mapped_next : (f : ℕ → ℕ) (l out : List ℕ) (i v : ℕ) → i < length l → out ≡ mapped f l i → v ≡ f (get_or out i 0) → set out i v ≡ mapped f l (i + 1)
mapped_next f l out i v h e w = rw (w, e, add-one) (more f l i h)
