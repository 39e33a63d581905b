-- Laws of an element put into the sorted rest of a list. Assumes nothing.
use Prim.Native.Nat.{ℕ, zero, suc, ◌+◌, ◌-◌, ◌<◌}
use mathlib.Core.Path.{◌≡◌, refl, ap, ◌∙◌}
use mathlib.Core.Bool.{Bool, true, false}
use mathlib.Core.List.{List, [], ◌∷◌, ◌++◌}
use native.Mathlib.Omega.{arith}
use native.Mathlib.Numerals.{one-add}
use lib.ListN.{length, get_or, take, drop, set}
use Rattle.std.specs.List.{prefix_len, copy_within}
use Rattle.edge_order.specs.Sort.{insert}

-- within a list, what stands for a missing element does not matter
pub get_or_within {ℓ} : {A : Type ℓ} (l : List A) (i : ℕ) (d e : A) → i < length l → get_or l i d ≡ get_or l i e
get_or_within [] i d e h = absurd (none i h)
  where
    none : (i : ℕ) → i < 0 → ⊥
    none i h = omega arith
get_or_within (x ∷ l) zero d e h = refl
get_or_within (x ∷ l) (suc i) d e h = get_or_within l i d e (less i (length l) h)
  where
    less : (i n : ℕ) → suc i < suc n → i < n
    less i n h = omega arith

module _ {A : Type 0} (before : A → A → Bool) (x : A) where
  abbrev count : List A → ℕ
  count ys = prefix_len (λ (y : A). before y x) ys

  -- those that stand before x, moved one place to the front, then x
  moved : (first : A) (ys : List A) → set (take (count ys) ys ++ drop (count ys) (first ∷ ys)) (count ys) x ≡ insert before x ys
  unfolding insert
  moved first [] = refl
  moved first (y ∷ ys) = at (before y x) refl (moved y ys)
    where
      at : (b : Bool) → before y x ≡ b → set (take (count ys) ys ++ drop (count ys) (y ∷ ys)) (count ys) x ≡ insert before x ys
          → set (take (count (y ∷ ys)) (y ∷ ys) ++ drop (count (y ∷ ys)) (first ∷ y ∷ ys)) (count (y ∷ ys)) x ≡ insert before x (y ∷ ys)
      at true e rest = rw (e, one-add) (ap (λ (l : List A). y ∷ l) rest)
      at false e rest = rw e refl

  pub placed : (order after : List A) (n : ℕ) → 0 < length order → n ≡ count (drop 1 order) → after ≡ copy_within order 1 (n + 1) 0 → set after n x ≡ insert before x (drop 1 order)
  placed [] after n h e f = absurd (none h)
    where
      none : 0 < 0 → ⊥
      none h = omega arith
  placed (first ∷ ys) after n h e f =
      ap (λ (l : List A). set l n x) (f ∙ (λ k. take (same k) ys ++ drop (also k) (first ∷ ys)))
      ∙ ap (λ (k : ℕ). set (take k ys ++ drop k (first ∷ ys)) k x) e
      ∙ moved first ys
    where
      same : n + 1 - 1 ≡ n
      same = omega arith

      also : 0 + (n + 1 - 1) ≡ n
      also = omega arith
