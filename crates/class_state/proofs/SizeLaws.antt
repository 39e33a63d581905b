-- How many classes are returned, how many bytes they take, and how many at most. Assumes nothing.
use Prim.Native.Nat.{ℕ, zero, suc, ◌+◌, ◌-◌, ◌*◌, ◌≤◌, ◌<◌}
use mathlib.Core.Path.{◌≡◌, refl, ap, ◌∙◌}
use mathlib.Core.Bool.{Bool, true, false, cond}
use mathlib.Core.List.{List, [], ◌∷◌, ◌++◌, map, Memᴰ, append_assoc}
use native.Mathlib.Omega.{arith}
use native.Mathlib.Nat.{mul-add}
use borrow.Author.Tests.{eqb-true, ne_eqb, leb-true}
use lib.Dec.{eqb}
use lib.ListN.{length, get_or, length-append}
use Rattle.le.specs.Fields.{field_bytes, u16_bytes}
use Rattle.float.specs.Integers.{bit}
use Rattle.estimate.specs.Bytes.{estimate_bytes}
use Rattle.estimate.proofs.EstimateLaws.{estimate_length}
use Rattle.number_bytes.specs.Numbers.{numbers_bytes}
use Rattle.number_bytes.proofs.NumberLaws.{numbers_length}
use Rattle.records.specs.Classes.{ColumnEquivalenceClass}
use Rattle.selection.specs.Selected.{selected}
use Rattle.selection.proofs.SelectedLaws.{Rising, none, next, one_selected, selected_in, selected_length, selected_rising, selected_step, selected_end}
use Rattle.class_state.specs.declared.EquivalenceClassState.{EquivalenceClassState}
use Rattle.class_state.specs.State.{has_root, members, is_returned, returned_roots, class_at_root, into_classes}
use Rattle.class_state.specs.Bytes.{class_bytes, classes_bytes}
use Rattle.class_state.specs.Sizes.{member_count, class_size, size_at_root, sum_over}

-- ---- how many, at most

pub members_below : (roots : List ℕ) (root : ℕ) → member_count roots root ≤ 128
unfolding members
members_below roots root = selected_length (has_root roots root) 0 128

pub class_count_below : (roots : List ℕ) → length (returned_roots roots) ≤ 128
unfolding returned_roots
class_count_below roots = selected_length (is_returned roots) 0 128

-- ---- the bytes

-- how many columns, their distinct, the columns
pub class_parts : (class : ColumnEquivalenceClass) → class_bytes class ≡ u16_bytes (length class.columns) ++ (estimate_bytes class.distinct ++ numbers_bytes class.columns)
unfolding class_bytes estimate_bytes
class_parts class =
    let count = u16_bytes (length class.columns) in
    let distinct = estimate_bytes class.distinct in
    let columns = numbers_bytes class.columns in
    append_assoc count (distinct ++ []) columns ∙ ap (λ (l : List ℕ). count ++ l) (append_assoc distinct [] columns)

pub class_length : (class : ColumnEquivalenceClass) → length (class_bytes class) ≡ class_size (length class.columns)
class_length class =
    let c = class.columns in
    let p = ap length (class_parts class) in
    let a = length-append (u16_bytes (length c)) (estimate_bytes class.distinct ++ numbers_bytes c) in
    let b = length-append (estimate_bytes class.distinct) (numbers_bytes c) in
    let u : length (u16_bytes (length c)) ≡ 2 = unfold field_bytes in refl in
    let e = estimate_length class.distinct in
    let n = numbers_length c in
    omega arith

-- of all classes that are returned
unfoldable pub classes_size : List ℕ → ℕ
unfolding members returned_roots sum_over
classes_size roots = sum_over (size_at_root roots) (returned_roots roots)

module _ (state : EquivalenceClassState) where
  abbrev roots_bytes : List ℕ → List ℕ
  roots_bytes l = classes_bytes (map (class_at_root state) l)

  roots_size : (l : List ℕ) → length (roots_bytes l) ≡ sum_over (size_at_root state.roots) l
  unfolding classes_bytes sum_over
  roots_size [] = refl
  roots_size (root ∷ l) =
      length-append (class_bytes (class_at_root state root)) (roots_bytes l)
      ∙ (λ i. class_length (class_at_root state root) i + roots_size l i)

  pub classes_size_law : length (classes_bytes (into_classes state)) ≡ classes_size state.roots
  unfolding into_classes classes_size
  classes_size_law = roots_size (returned_roots state.roots)

-- ---- how many are left, where a loop stands at the number i

module _ (test : ℕ → Bool) (i n : ℕ) where
  pub count_step : i < n → length (selected test i (n - i)) ≡ bit (test i) + length (selected test (i + 1) (n - (i + 1)))
  count_step h = ap length (selected_step test i n h) ∙ length-append (one_selected test i) (selected test (i + 1) (n - (i + 1))) ∙ ap (λ (k : ℕ). k + length (selected test (i + 1) (n - (i + 1)))) (one (test i))
    where
      one : (b : Bool) → length (cond b (i ∷ []) []) ≡ bit b
      one true = refl
      one false = refl

  pub count_end : n ≤ i → length (selected test i (n - i)) ≡ 0
  count_end h = ap length (selected_end test i n h)

-- ---- sums over lists

sum_most : (f g : ℕ → ℕ) (b : ℕ) (l : List ℕ) → ((x : ℕ) → Memᴰ x l → f x ≤ b * g x) → sum_over f l ≤ b * sum_over g l
unfolding sum_over
sum_most f g b [] h = omega arith
sum_most f g b (x ∷ l) h =
    let first = h x (Memᴰ.head refl) in
    let rest = sum_most f g b l (λ (y : ℕ) (m : Memᴰ y l). h y (Memᴰ.tail m)) in
    let both = mul-add b (g x) (sum_over g l) in
    omega arith

sum_both : (f g : ℕ → ℕ) (l : List ℕ) → sum_over (λ (x : ℕ). f x + g x) l ≡ sum_over f l + sum_over g l
unfolding sum_over
sum_both f g [] = refl
sum_both f g (x ∷ l) = let rest = sum_both f g l in omega arith

-- how often r stands in a list
abbrev times : ℕ → List ℕ → ℕ
times r l = sum_over (λ (x : ℕ). bit (eqb r x)) l

below_not : (r i : ℕ) (l : List ℕ) → r < i → Rising i l → times r l ≡ 0
unfolding sum_over
below_not r i [] h none = refl
below_not r i (x ∷ l) h (next p rising) =
    let rest = below_not r (suc x) l (omega arith) rising in
    rw (ne_eqb r x (λ (e : r ≡ x). omega arith)) (omega arith)

-- in a list that rises it stands at most once
rising_times : (r i : ℕ) (l : List ℕ) → Rising i l → times r l ≤ 1
unfolding sum_over
rising_times r i [] none = omega arith
rising_times r i (x ∷ l) (next p rising) = go (eqb r x) (eqb-true r x) (rising_times r (suc x) l rising)
  where
    go : (t : Bool) → (t ≡ true → r ≡ x) → times r l ≤ 1 → bit t + times r l ≤ 1
    go true same most =
        let e = same refl in
        let z = below_not r (suc x) l (omega arith) rising in
        omega arith
    go false same most = omega arith

-- ---- how many bytes, at most

-- each column has one root, so roots that differ share no column
module _ (roots l : List ℕ) (rising : Rising 0 l) (n : ℕ) where
  abbrev columns_from : ℕ → ℕ → ℕ
  columns_from i root = length (selected (has_root roots root) i (n - i))

  shared_from : (k i : ℕ) → n - i ≡ k → sum_over (columns_from i) l ≤ k
  shared_from zero i e =
      let h = sum_most (columns_from i) (columns_from i) 0 l (λ (root : ℕ) (m : Memᴰ root l). let c = count_end (has_root roots root) i n (omega arith) in omega arith) in
      omega arith
  shared_from (suc k) i e =
      let h : i < n = omega arith in
      let step : sum_over (columns_from i) l ≡ sum_over (λ (root : ℕ). bit (has_root roots root i) + columns_from (i + 1) root) l = λ j. sum_over (λ (root : ℕ). count_step (has_root roots root) i n h j) l in
      let both = sum_both (λ (root : ℕ). bit (has_root roots root i)) (columns_from (i + 1)) l in
      let one = rising_times (get_or roots i 0) 0 l rising in
      let rest = shared_from k (i + 1) (omega arith) in
      omega arith

returned_members : (roots : List ℕ) → sum_over (member_count roots) (returned_roots roots) ≤ 128
unfolding members returned_roots
returned_members roots = shared_from roots (returned_roots roots) (selected_rising (is_returned roots) 0 128) 128 128 0 refl

-- a class that is returned has two columns or more
class_below : (n : ℕ) → 2 ≤ n → class_size n ≤ 16 * n
class_below n h = omega arith

returned_two : (roots : List ℕ) (root : ℕ) → Memᴰ root (returned_roots roots) → 2 ≤ member_count roots root
unfolding returned_roots
returned_two roots root m = leb-true 2 (member_count roots root) (selected_in (is_returned roots) 0 128 root m).2

all_below : (size n : ℕ) → n ≤ 128 → size ≤ 16 * n → size ≤ 2048
all_below size n h k = omega arith

pub classes_size_below : (roots : List ℕ) → classes_size roots ≤ 2048
unfolding classes_size
classes_size_below roots =
    all_below (classes_size roots) (sum_over (member_count roots) (returned_roots roots)) (returned_members roots)
    (sum_most (size_at_root roots) (member_count roots) 16 (returned_roots roots) (λ (root : ℕ) (m : Memᴰ root (returned_roots roots)). class_below (member_count roots root) (returned_two roots root m)))
