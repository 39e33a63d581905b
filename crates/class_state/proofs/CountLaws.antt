-- How many columns each root has, counted in one pass over the columns. Assumes nothing.
use Prim.Native.Nat.{ℕ, zero, suc, ◌+◌, ◌-◌, ◌*◌, ◌≤◌, ◌<◌}
use mathlib.Core.Path.{◌≡◌, refl, sym, ap, ◌∙◌}
use mathlib.Core.Bool.{Bool, true, false, cond}
use mathlib.Core.List.{List, [], ◌∷◌}
use native.Mathlib.Omega.{arith}
use native.Mathlib.Nat.{add-zero, zero-add}
use borrow.Author.Tests.{eqb-true, eqb-false, ltb-true, ltb-false}
use lib.Dec.{eqb, ltb, leb}
use lib.ListN.{length, get_or, set, replicate, get_or-replicate, get_or-eq_default}
use lib.Seq.{get_or-set_same, get_or-set_other, ext_get_or}
use Rattle.std.specs.List.{fold, sum_by, count_by}
use Rattle.float.specs.Integers.{bit}
use Rattle.records.specs.Lists.{tabulate_from, tabulate}
use Rattle.records.proofs.ListLaws.{tabulate_length, tabulate_at}
use Rattle.selection.specs.Selected.{selected}
use Rattle.layout.specs.Places.{column_limit}
use Rattle.class_state.specs.State.{has_root, members, is_returned, returned_roots}
use Rattle.class_state.specs.Sizes.{member_count, class_size, returned_size, sum_over, returned_count, counts_size}
use Rattle.class_state.proofs.SizeLaws.{classes_size, members_below, count_step, count_end}

-- ---- sums as the library has them

summed : (f g : ℕ → ℕ) → ((x : ℕ) → f x ≡ g x) → (n : ℕ) (l : List ℕ) → fold (λ a x. a + f x) n l ≡ n + sum_over g l
unfolding sum_over
summed f g e n [] = sym (add-zero n)
summed f g e n (x ∷ l) =
    let rest = summed f g e (n + f x) l in
    let here = e x in
    omega arith

pub sum_is : (f : ℕ → ℕ) (l : List ℕ) → sum_by f l ≡ sum_over f l
sum_is f l = summed f f (λ (x : ℕ). refl) 0 l ∙ zero-add (sum_over f l)

-- how many bytes classes of so many columns take, at most
size_below : (n : ℕ) → n ≤ 255 → returned_size n ≤ class_size 255
size_below n h = go (leb 2 n)
  where
    go : (b : Bool) → cond b (class_size n) 0 ≤ 538
    go true = omega arith
    go false = omega arith

pub counts_size_below : (counts : List ℕ) → ((i : ℕ) → get_or counts i 0 ≤ 255) → counts_size counts ≤ class_size 255 * length counts
unfolding sum_over
counts_size_below [] h = omega arith
counts_size_below (n ∷ counts) h =
    let one = size_below n (h 0) in
    let rest = counts_size_below counts (λ (i : ℕ). h (suc i)) in
    omega arith

-- how many elements pass a test, as a sum
pub count_passing : (p : ℕ → Bool) (l : List ℕ) → count_by p l ≡ sum_over (λ (x : ℕ). bit (p x)) l
count_passing p l = summed (λ (x : ℕ). cond (p x) 1 0) (λ (x : ℕ). bit (p x)) (λ (x : ℕ). one (p x)) 0 l ∙ zero-add (sum_over (λ (x : ℕ). bit (p x)) l)
  where
    one : (b : Bool) → cond b 1 0 ≡ bit b
    one true = refl
    one false = refl

ones : (l : List ℕ) → sum_over (λ (x : ℕ). 1) l ≡ length l
unfolding sum_over
ones [] = refl
ones (x ∷ l) = let rest = ones l in omega arith

module _ (roots : List ℕ) where
  -- of the columns from i on, how many have a root
  abbrev count_from : ℕ → ℕ → ℕ
  count_from i root = length (selected (has_root roots root) i (128 - i))

  -- where the loop stands at column i
  abbrev pub Counted : List ℕ → ℕ → Type 0
  Counted counts i = (root : ℕ) → root < 128 → get_or counts root 0 + count_from i root ≡ member_count roots root

  pub members_are : (root : ℕ) → selected (has_root roots root) 0 128 ≡ members roots root
  unfolding members
  members_are root = refl

  pub counted_first : Counted (replicate 128 0) 0
  counted_first root h = ap (λ (k : ℕ). k + count_from 0 root) (get_or-replicate {A = ℕ} 128 root 0 0 h) ∙ zero-add (count_from 0 root) ∙ ap length (members_are root)

  pub counted_next : (counts : List ℕ) (i r : ℕ) → length counts ≡ 128 → i < 128 → r ≡ get_or roots i 0 → Counted counts i → Counted (set counts r (get_or counts r 0 + 1)) (i + 1)
  counted_next counts i r n h e c root q = go (eqb r root) (eqb-true r root) (eqb-false r root) (count_step (has_root roots root) i 128 h ∙ ap (λ (k : ℕ). bit (eqb k root) + count_from (i + 1) root) (sym e)) (c root q)
    where
      go : (t : Bool) → (t ≡ true → r ≡ root) → (t ≡ false → r ≡ root → ⊥) → count_from i root ≡ bit t + count_from (i + 1) root → get_or counts root 0 + count_from i root ≡ member_count roots root
          → get_or (set counts r (get_or counts r 0 + 1)) root 0 + count_from (i + 1) root ≡ member_count roots root
      go true same other f g =
          let s : get_or (set counts root (get_or counts root 0 + 1)) root 0 ≡ get_or counts root 0 + 1 = get_or-set_same counts root (get_or counts root 0 + 1) 0 (omega arith) in
          rw (same refl) (omega arith)
      go false same other f g =
          let s = get_or-set_other counts r root (get_or counts r 0 + 1) 0 (λ (z : root ≡ r). other refl (sym z)) in
          omega arith

  -- each count is a byte
  pub counted_room : (counts : List ℕ) (i : ℕ) → length counts ≡ 128 → Counted counts i → (root : ℕ) → get_or counts root 0 < 255
  counted_room counts i n c root = go (ltb root 128) (ltb-true root 128) (ltb-false root 128)
    where
      go : (t : Bool) → (t ≡ true → root < 128) → (t ≡ false → 128 ≤ root) → get_or counts root 0 < 255
      go true h g =
          let e = c root (h refl) in
          let m = members_below roots root in
          omega arith
      go false h g =
          let a = g refl in
          let q : length counts ≤ root = omega arith in
          let z = get_or-eq_default counts 0 q in
          omega arith

  pub counted_all : (counts : List ℕ) (i : ℕ) → length counts ≡ 128 → 128 ≤ i → Counted counts i → counts ≡ tabulate (member_count roots) column_limit
  counted_all counts i n h c = ext_get_or 0 counts (tabulate (member_count roots) 128) (n ∙ sym (tabulate_length (member_count roots) 128)) (λ (k : ℕ) (l : k < length counts). each k l)
    where
      each : (k : ℕ) → k < length counts → get_or counts k 0 ≡ get_or (tabulate (member_count roots) 128) k 0
      each k l =
          let e = c k (omega arith) in
          let z = count_end (has_root roots k) i 128 h in
          let t = tabulate_at (member_count roots) 128 k 0 (omega arith) in
          omega arith

  pub counts_length : (counts : List ℕ) → counts ≡ tabulate (member_count roots) column_limit → length counts ≡ 128
  counts_length counts e = ap length e ∙ tabulate_length (member_count roots) 128

  pub count_at : (counts : List ℕ) (root : ℕ) → counts ≡ tabulate (member_count roots) column_limit → root < 128 → get_or counts root 0 ≡ member_count roots root
  count_at counts root e h = ap (λ (l : List ℕ). get_or l root 0) e ∙ tabulate_at (member_count roots) 128 root 0 h

  -- ---- sums over the counts are sums over the returned roots

  sum_returned : (f g : ℕ → ℕ) → ((m : ℕ) → f m ≡ cond (leb 2 m) (g m) 0) → (i n : ℕ) → sum_over f (tabulate_from (member_count roots) i n) ≡ sum_over (λ (root : ℕ). g (member_count roots root)) (selected (is_returned roots) i n)
  unfolding sum_over tabulate_from selected
  sum_returned f g e i zero = refl
  sum_returned f g e i (suc n) =
      ap (λ (k : ℕ). k + sum_over f (tabulate_from (member_count roots) (i + 1) n)) (e (member_count roots i))
      ∙ ap (λ (k : ℕ). cond (is_returned roots i) (g (member_count roots i)) 0 + k) (sum_returned f g e (i + 1) n)
      ∙ go (is_returned roots i) (selected (is_returned roots) (i + 1) n)
    where
      go : (b : Bool) (l : List ℕ) → cond b (g (member_count roots i)) 0 + sum_over (λ (root : ℕ). g (member_count roots root)) l ≡ sum_over (λ (root : ℕ). g (member_count roots root)) (cond b (i ∷ l) l)
      go true l = refl
      go false l = zero-add (sum_over (λ (root : ℕ). g (member_count roots root)) l)

  module _ (counts : List ℕ) (e : counts ≡ tabulate (member_count roots) column_limit) where
    pub counts_size_law : counts_size counts ≡ classes_size roots
    unfolding classes_size returned_roots
    counts_size_law = ap counts_size e ∙ sum_returned returned_size class_size (λ (m : ℕ). refl) 0 128

    pub counts_returned : returned_count counts ≡ length (returned_roots roots)
    unfolding returned_roots
    counts_returned = ap returned_count e ∙ sum_returned (λ (n : ℕ). bit (leb 2 n)) (λ (n : ℕ). 1) (λ (m : ℕ). one (leb 2 m)) 0 128 ∙ ones (selected (is_returned roots) 0 128)
      where
        one : (b : Bool) → bit b ≡ cond b 1 0
        one true = refl
        one false = refl
