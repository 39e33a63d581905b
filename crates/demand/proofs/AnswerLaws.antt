-- What demand 3 says of one join holds of the answer's bytes: they are read back, each class is the columns of one root, and the laws of roots and of the walk say which columns these are. Assumes nothing.
use Prim.Native.Nat.{ℕ, zero, suc, ◌≤◌, ◌<◌}
use mathlib.Core.Path.{◌≡◌, refl, sym, subst, ◌∙◌}
use mathlib.Core.Logic.{◌↔◌, ◌≢◌}
use mathlib.Core.Bool.{Bool}
use mathlib.Core.List.Memᴰ
use mathlib.Core.List.{List, [], ◌∷◌, map, map-map, Memᴰ}
use native.Mathlib.Omega.{arith}
use borrow.Author.Tests.{eq-eqb, eqb-true, leb-true, le-leb}
use lib.ListN.{length, get_or, length-map}
use Rattle.records.specs.Classes.{ColumnEquivalenceClass}
use Rattle.selection.specs.Selected.{selected}
use Rattle.selection.proofs.SelectedLaws.{selected_in, in_selected, selected_length, selected_rising, rising_once, rising_two, two_members}
use Rattle.class_state.specs.State.{find, has_root, members, is_returned, returned_roots, class_at_root, into_classes}
use Rattle.class_state.specs.declared.EquivalenceClassState.{EquivalenceClassState}
use Rattle.equality_pairs.specs.Pairs.{equality_pairs}
use Rattle.equality_pairs.specs.NonNull.{is_marked, non_null_marks, marked_columns}
use Rattle.equality_pairs.proofs.PairLaws.{pairs_length}
use Rattle.join.specs.Join.{JoinSelectivityEstimate, join_estimate, join_selectivity_from_conjuncts}
use Rattle.edge_fold.proofs.CountLaws.{coverage_count_law}
use Rattle.join_answer.specs.Join.{join_bytes}
use Rattle.demand.specs.Reader.{blocks, non_nulls}
use Rattle.demand.specs.Claim.{Columns, Join, Fact, Linked, LeadsToOrdinary, Block, ShareBlock, OneJoin}
use Rattle.demand.proofs.Kept.{Kept}
use Rattle.demand.proofs.LinkLaws.{join_state, root_law, root_below, chain_below}
use Rattle.demand.proofs.WalkLaws.{walk_law}
use Rattle.demand.proofs.ReadLaws.{Short, ShortJoin, columns_of, blocks_read, non_nulls_read}

-- ---- counts

selected_short : (test : ℕ → Bool) → Short (selected test 0 128)
selected_short test = record {
  count = let h = selected_length test 0 128 in omega arith;
  each = λ (n : ℕ) (m : Memᴰ n (selected test 0 128)). let h = (selected_in test 0 128 n m).1 in omega arith;
}

-- ---- the columns of a root

module _ (roots : List ℕ) where
  member_root : (root a : ℕ) → Memᴰ a (members roots root) → (a < 128) × (get_or roots a 0 ≡ root)
  unfolding members
  member_root root a m = let h = selected_in (has_root roots root) 0 128 a m in (h.1, eqb-true (get_or roots a 0) root h.2)

  root_member : (root a : ℕ) → a < 128 → get_or roots a 0 ≡ root → Memᴰ a (members roots root)
  unfolding members
  root_member root a h e = in_selected (has_root roots root) 0 128 a (omega arith) h (eq-eqb (get_or roots a 0) root e)

  two_columns : (root : ℕ) → Memᴰ root (returned_roots roots) → (a : ℕ) × (b : ℕ) × (Memᴰ a (members roots root)) × (Memᴰ b (members roots root)) × (a ≢ b)
  unfolding returned_roots members
  two_columns root m = rising_two (members roots root) (selected_rising (has_root roots root) 0 128) (leb-true 2 (length (members roots root)) (selected_in (is_returned roots) 0 128 root m).2)

  root_returned : (root a b : ℕ) → root < 128 → Memᴰ a (members roots root) → Memᴰ b (members roots root) → a ≢ b → Memᴰ root (returned_roots roots)
  unfolding returned_roots
  root_returned root a b h p q n = in_selected (is_returned roots) 0 128 root (omega arith) h (le-leb 2 (length (members roots root)) (two_members (members roots root) a b p q n))

-- a list that has an element stands within the lists
listed_at : (f : ℕ → List ℕ) (l : List ℕ) (i a : ℕ) → Memᴰ a (get_or (map f l) i []) → (i < length l) × (Memᴰ a (f (get_or l i 0)))
listed_at f [] i a m = absurd (Memᴰ.not-nil m)
listed_at f (x ∷ l) zero a m = (first (length l), m)
  where
    first : (n : ℕ) → 0 < suc n
    first n = omega arith
listed_at f (x ∷ l) (suc i) a m = let h = listed_at f l i a m in (next i (length l) h.0, h.1)
  where
    next : (i n : ℕ) → i < n → suc i < suc n
    next i n h = omega arith

-- ---- the answer of a join

module _ (join : Join) (kept : Kept join) where
  abbrev estimate : JoinSelectivityEstimate
  estimate = join_selectivity_from_conjuncts join.sheet join.conjuncts

  abbrev state : EquivalenceClassState
  state = join_state join

  abbrev answer : List ℕ
  answer = join_bytes estimate

  abbrev returned : List ℕ
  returned = returned_roots state.roots

  abbrev columns_at : ℕ → Columns
  columns_at root = members state.roots root

  class_short : (class : ColumnEquivalenceClass) → Memᴰ class (into_classes state) → Short class.columns
  unfolding into_classes members
  class_short class m =
      let r = Memᴰ.of_map (class_at_root state) returned m in
      subst (λ (c : ColumnEquivalenceClass). Short c.columns) r.2 (selected_short (has_root state.roots r.0))

  short : ShortJoin estimate
  unfolding join_selectivity_from_conjuncts join_estimate into_classes returned_roots marked_columns
  short = record {
    class_count = subst (λ (n : ℕ). n < 65536) (sym (length-map returned (class_at_root state))) (selected_short (is_returned state.roots)).count;
    classes = class_short;
    coverage_count = few _ _ _ (coverage_count_law join.sheet (equality_pairs join.sheet join.conjuncts)) (pairs_length join.sheet join.conjuncts) kept.conjunct_count;
    non_null = selected_short (is_marked (non_null_marks (equality_pairs join.sheet join.conjuncts)));
  }
    where
      few : (a b c : ℕ) → a ≤ b → b ≤ c → c ≤ 64 → a < 65536
      few a b c h k l = omega arith

  blocks_are : blocks answer ≡ map columns_at returned
  unfolding join_selectivity_from_conjuncts join_estimate into_classes
  blocks_are = blocks_read estimate short ∙ map-map columns_of (class_at_root state) returned

  non_nulls_are : non_nulls answer ≡ marked_columns (non_null_marks (equality_pairs join.sheet join.conjuncts))
  unfolding join_selectivity_from_conjuncts join_estimate
  non_nulls_are = non_nulls_read estimate short

  block_root : (k : Columns) → Block answer k → (root : ℕ) × Memᴰ root returned × (columns_at root ≡ k)
  block_root k m = Memᴰ.of_map columns_at returned (subst (λ (K : List Columns). Memᴰ k K) blocks_are m)

  two : (k : Columns) → Block answer k → (a : ℕ) × (b : ℕ) × Memᴰ a k × Memᴰ b k × (a ≢ b)
  two k m =
      let r = block_root k m in
      subst (λ (l : Columns). (a : ℕ) × (b : ℕ) × Memᴰ a l × Memᴰ b l × (a ≢ b)) r.2 (two_columns state.roots r.0 r.1)

  apart : (i j a : ℕ) → Memᴰ a (get_or (blocks answer) i []) → Memᴰ a (get_or (blocks answer) j []) → i ≡ j
  unfolding returned_roots
  apart i j a p q =
      let u = listed_at columns_at returned i a (subst (λ (K : List Columns). Memᴰ a (get_or K i [])) blocks_are p) in
      let v = listed_at columns_at returned j a (subst (λ (K : List Columns). Memᴰ a (get_or K j [])) blocks_are q) in
      let e = (member_root state.roots (get_or returned i 0) a u.1).1 in
      let f = (member_root state.roots (get_or returned j 0) a v.1).1 in
      rising_once (selected_rising (is_returned state.roots) 0 128) i j u.0 v.0 (sym e ∙ f)

  linked : (a b : ℕ) → ShareBlock answer a b → Linked (Fact join) a b
  linked a b (k, m, p, q) =
      let r = block_root k m in
      let u = member_root state.roots r.0 a (subst (λ (l : Columns). Memᴰ a l) (sym r.2) p) in
      let v = member_root state.roots r.0 b (subst (λ (l : Columns). Memᴰ b l) (sym r.2) q) in
      (root_law join kept a b u.0 v.0).0 (u.1 ∙ sym v.1)

  shared : (a b : ℕ) → a ≢ b → Linked (Fact join) a b → ShareBlock answer a b
  shared a b n l =
      let h = chain_below join kept l n in
      let p = root_member state.roots (find state a) a h.0 refl in
      let q = root_member state.roots (find state a) b h.1 (sym ((root_law join kept a b h.0 h.1).1 l)) in
      let r = root_returned state.roots (find state a) a b (root_below join kept a h.0) p q n in
      (columns_at (find state a), subst (λ (K : List Columns). Memᴰ (columns_at (find state a)) K) (sym blocks_are) (Memᴰ.map columns_at r), p, q)

  pub one_join : OneJoin join (join_bytes (join_selectivity_from_conjuncts join.sheet join.conjuncts))
  one_join = record {
    two = two;
    apart = apart;
    share = λ (a b : ℕ) (n : a ≢ b). (linked a b, shared a b n);
    non_null = λ (a : ℕ). subst (λ (l : List ℕ). Memᴰ a l ↔ LeadsToOrdinary join a) (sym non_nulls_are) (walk_law join kept a);
  }
