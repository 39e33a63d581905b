-- What holds of each member of a list, or at each place of one. Assumes nothing.
use Prim.Native.Nat.{ℕ, zero, suc, ◌+◌}
use mathlib.Core.Path.{◌≡◌, refl, sym, subst}
use mathlib.Core.Logic.{⊎_elim}
use mathlib.Core.List.Memᴰ
use mathlib.Core.List.{List, [], ◌∷◌, ◌++◌, map, Memᴰ}
use lib.ListN.{get_or, set}
use Rattle.records.specs.Lists.{tabulate_from}
use Rattle.lawful.specs.Lawful.{Each}

module _ {A : Type 0} (P : A → Type 0) where
  -- ---- members
  pub each_none : Each P []
  each_none x m = absurd (Memᴰ.not-nil m)

  pub each_more : (x : A) (xs : List A) → P x → Each P xs → Each P (x ∷ xs)
  each_more x xs p h y m = ⊎_elim (λ (e : y ≡ x). subst P (sym e) p) (λ (k : Memᴰ y xs). h y k) (Memᴰ.cases_cons m)

  pub each_first : (x : A) (xs : List A) → Each P (x ∷ xs) → P x
  each_first x xs h = h x (Memᴰ.head refl)

  pub each_rest : (x : A) (xs : List A) → Each P (x ∷ xs) → Each P xs
  each_rest x xs h y m = h y (Memᴰ.tail m)

  pub each_append : (l m : List A) → Each P l → Each P m → Each P (l ++ m)
  each_append [] m h k = k
  each_append (x ∷ xs) m h k = each_more x (xs ++ m) (each_first x xs h) (each_append xs m (each_rest x xs h) k)

  pub each_map : {B : Type 0} (f : B → A) → ((y : B) → P (f y)) → (l : List B) → Each P (map f l)
  each_map f h [] = each_none
  each_map f h (y ∷ ys) = each_more (f y) (map f ys) (h y) (each_map f h ys)

  -- ---- places, with d for those past the end
  pub set_at_each : (d : A) (l : List A) (k : ℕ) (x : A) → ((i : ℕ) → P (get_or l i d)) → P x → (i : ℕ) → P (get_or (set l k x) i d)
  set_at_each d [] k x h p i = h i
  set_at_each d (y ∷ ys) zero x h p zero = p
  set_at_each d (y ∷ ys) zero x h p (suc i) = h (suc i)
  set_at_each d (y ∷ ys) (suc k) x h p zero = h zero
  set_at_each d (y ∷ ys) (suc k) x h p (suc i) = set_at_each d ys k x (λ j. h (suc j)) p i

  pub tabulate_at_each : (d : A) (f : ℕ → A) (i n : ℕ) → ((j : ℕ) → P (f j)) → P d → (j : ℕ) → P (get_or (tabulate_from f i n) j d)
  unfolding tabulate_from
  tabulate_at_each d f i zero h p j = p
  tabulate_at_each d f i (suc n) h p zero = h i
  tabulate_at_each d f i (suc n) h p (suc j) = tabulate_at_each d f (i + 1) n h p j
