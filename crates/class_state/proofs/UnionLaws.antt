-- One union by its root moved and its distinct stored, and what a union keeps. Assumes nothing.
use Prim.Native.Nat.{ℕ, zero, suc, ◌<◌}
use mathlib.Core.Path.{◌≡◌, refl, sym, ap, ◌∙◌, subst}
use mathlib.Core.Bool.{Bool, true, false, cond}
use mathlib.Core.List.{List, [], ◌∷◌, map}
use borrow.Author.Tests.{eqb-true}
use lib.Dec.{eqb}
use lib.ListN.{length, get_or, set, length-map, length-set}
use lib.Seq.{set-get_or, get_or-set_same}
use Rattle.estimate.specs.declared.Estimate.{Estimate}
use Rattle.class_state.specs.declared.EquivalenceClassState.{EquivalenceClassState}
use Rattle.class_state.specs.State.{Rooted, moved, union_distinct, united, no_distinct, find, under, union}

-- ---- roots that move

-- from a root to itself none moves
pub move_none : (from to : ℕ) (roots : List ℕ) → from ≡ to → roots ≡ map (moved from to) roots
move_none from to [] e = refl
move_none from to (root ∷ roots) e = λ i. one (eqb root from) (eqb-true root from) i ∷ move_none from to roots e i
  where
    one : (t : Bool) → (t ≡ true → root ≡ from) → root ≡ cond t to root
    one true same = same refl ∙ e
    one false same = refl

pub root_below : (roots : List ℕ) (column root : ℕ) → Rooted roots → root ≡ get_or roots column 0 → root < 128
root_below roots column root rooted e = subst (λ (r : ℕ). r < 128) (sym e) (rooted column)

moved_below : (from to root : ℕ) → to < 128 → root < 128 → moved from to root < 128
moved_below from to root h k = go (eqb root from)
  where
    go : (t : Bool) → cond t to root < 128
    go true = h
    go false = k

pub rooted_moved : (from to : ℕ) (roots : List ℕ) → to < 128 → Rooted roots → Rooted (map (moved from to) roots)
rooted_moved from to [] h rooted column = rooted column
rooted_moved from to (root ∷ roots) h rooted zero = moved_below from to root h (rooted zero)
rooted_moved from to (root ∷ roots) h rooted (suc column) = rooted_moved from to roots h (λ (k : ℕ). rooted (suc k)) column

-- ---- one union

-- a read in range does not hang on what a read past the end would give
pub read_any {ℓ} : {A : Type ℓ} (l : List A) (i : ℕ) (d e : A) → i < length l → get_or l i d ≡ get_or l i e
read_any l i d e h = ap (λ m. get_or m i d) (sym (set-get_or l i e)) ∙ get_or-set_same l i (get_or l i e) d h

-- the roots moved and one distinct stored, of one class or of two
pub union_step : (state : EquivalenceClassState) (left right to from : ℕ) (d distinct : Estimate)
    → to ≡ get_or state.roots left 0 → from ≡ get_or state.roots right 0 → to < length state.distincts → from < length state.distincts
    → record { roots = map (moved from to) state.roots; distincts = set state.distincts to (united (eqb to from) (get_or state.distincts to d) (get_or state.distincts from d) distinct) }
    ≡ union state left right distinct
unfolding union under
union_step state left right to from d distinct a b h k =
    go (eqb to from) (eqb-true to from)
    ∙ (λ i. cond (eqb (a i) (b i)) state (under state (a i) (b i) distinct))
  where
    go : (t : Bool) → (t ≡ true → to ≡ from)
        → ◌≡◌ {A = EquivalenceClassState} (record { roots = map (moved from to) state.roots; distincts = set state.distincts to (united t (get_or state.distincts to d) (get_or state.distincts from d) distinct) })
        (cond t state (under state to from distinct))
    go true same = λ i. record { roots = sym (move_none from to state.roots (sym (same refl))) i; distincts = set-get_or state.distincts to d i }
    go false same = λ i. record {
      roots = map (moved from to) state.roots;
      distincts = set state.distincts to (union_distinct (read_any state.distincts to d no_distinct h i) (read_any state.distincts from d no_distinct k i) distinct);
    }

-- ---- what it keeps

module _ (state : EquivalenceClassState) (left right : ℕ) (distinct : Estimate) where
  pub union_rooted : Rooted state.roots → Rooted (union state left right distinct).roots
  unfolding union under
  union_rooted rooted = go (eqb (find state left) (find state right))
    where
      go : (t : Bool) → Rooted (cond t state (under state (find state left) (find state right) distinct)).roots
      go true = rooted
      go false = rooted_moved (find state right) (find state left) state.roots (rooted left) rooted

  pub union_lengths : (length (union state left right distinct).roots ≡ length state.roots) × (length (union state left right distinct).distincts ≡ length state.distincts)
  unfolding union under
  union_lengths = go (eqb (find state left) (find state right))
    where
      go : (t : Bool) → (length (cond t state (under state (find state left) (find state right) distinct)).roots ≡ length state.roots) × (length (cond t state (under state (find state left) (find state right) distinct)).distincts ≡ length state.distincts)
      go true = (refl, refl)
      go false = (length-map state.roots (moved (find state right) (find state left)), length-set state.distincts (find state left) _)
