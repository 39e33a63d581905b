-- What a loop over the roots has left to write. Assumes nothing.
use Prim.Native.Nat.{ℕ, ◌+◌, ◌-◌, ◌≤◌, ◌<◌}
use mathlib.Core.Path.{◌≡◌, refl, sym, ap, ◌∙◌}
use mathlib.Core.Bool.{Bool, true, false, cond}
use mathlib.Core.List.{List, [], ◌∷◌, ◌++◌, map, append_assoc}
use native.Mathlib.Omega.{arith}
use borrow.Author.Tests.{le-leb, lt-leb}
use lib.Dec.{leb}
use lib.ListN.{length, take, drop, length-append}
use Rattle.le.specs.Fields.{field_bytes, u16_bytes, onto}
use Rattle.estimate.specs.Bytes.{estimate_bytes}
use Rattle.estimate.specs.declared.Estimate.{Estimate}
use Rattle.estimate.proofs.EstimateLaws.{estimate_length}
use Rattle.number_bytes.specs.Numbers.{numbers_bytes}
use Rattle.number_bytes.proofs.FilledLaws.{Filled, filled_within, filled_part, filled_first, filled_next, filled_none, filled_all}
use Rattle.records.specs.Classes.{ColumnEquivalenceClass}
use Rattle.selection.specs.Selected.{selected}
use Rattle.selection.proofs.SelectedLaws.{selected_step, selected_end}
use Rattle.class_state.specs.declared.EquivalenceClassState.{EquivalenceClassState}
use Rattle.class_state.specs.State.{root_distinct, members, is_returned, returned_roots, class_at_root, into_classes}
use Rattle.class_state.specs.Bytes.{class_bytes, classes_bytes}
use Rattle.class_state.specs.Sizes.{member_count, returned_size, size_at_root}
use Rattle.class_state.proofs.SizeLaws.{class_parts, class_length, classes_size, classes_size_law}

pub head_length : (count : ℕ) (d : Estimate) → length (u16_bytes count ++ estimate_bytes d) ≡ 28
unfolding field_bytes
head_length count d = length-append (u16_bytes count) (estimate_bytes d) ∙ ap (λ (n : ℕ). 2 + n) (estimate_length d)

-- ---- one class, of a count that the code has tested

module _ (roots : List ℕ) (root count : ℕ) (e : count ≡ member_count roots root) where
  returned_so : 2 ≤ count → is_returned roots root ≡ true
  returned_so h = ap (leb 2) (sym e) ∙ le-leb 2 count h

  returned_not : count < 2 → is_returned roots root ≡ false
  returned_not h = ap (leb 2) (sym e) ∙ lt-leb 2 count h

  pub size_so : 2 ≤ count → size_at_root roots root ≡ returned_size (member_count roots root)
  size_so h = ap (λ (b : Bool). cond b (size_at_root roots root) 0) (sym (returned_so h))

  pub size_not : count < 2 → 0 ≡ returned_size (member_count roots root)
  size_not h = ap (λ (b : Bool). cond b (size_at_root roots root) 0) (sym (returned_not h))

  module _ (class : ColumnEquivalenceClass) where
    pub bytes_so : 2 ≤ count → class_bytes class ≡ cond (is_returned roots root) (class_bytes class) []
    bytes_so h = ap (λ (b : Bool). cond b (class_bytes class) []) (sym (returned_so h))

    pub bytes_not : count < 2 → [] ≡ cond (is_returned roots root) (class_bytes class) []
    bytes_not h = ap (λ (b : Bool). cond b (class_bytes class) []) (sym (returned_not h))

  -- count and estimate, then the members
  pub class_written : (distinct : Estimate) → (u16_bytes count ++ estimate_bytes distinct) ++ numbers_bytes (members roots root) ≡ class_bytes (record { columns = members roots root; distinct = distinct })
  class_written distinct =
      append_assoc (u16_bytes count) (estimate_bytes distinct) (numbers_bytes (members roots root))
      ∙ ap (λ (n : ℕ). u16_bytes n ++ (estimate_bytes distinct ++ numbers_bytes (members roots root))) e
      ∙ sym (class_parts (record { columns = members roots root; distinct = distinct }))

-- ---- the classes of a state

module _ (state : EquivalenceClassState) where
  -- of those from a root on
  abbrev returned_from : ℕ → List ℕ
  returned_from i = selected (is_returned state.roots) i (128 - i)

  returned_are : returned_from 0 ≡ returned_roots state.roots
  unfolding returned_roots
  returned_are = refl

  abbrev returned_bytes : ℕ → List ℕ
  returned_bytes root = cond (is_returned state.roots root) (class_bytes (class_at_root state root)) []

  returned_length : (root : ℕ) → length (returned_bytes root) ≡ returned_size (member_count state.roots root)
  returned_length root = go (is_returned state.roots root)
    where
      go : (b : Bool) → length (cond b (class_bytes (class_at_root state root)) []) ≡ cond b (size_at_root state.roots root) 0
      go true = class_length (class_at_root state root)
      go false = refl

  abbrev pub bytes_left : ℕ → List ℕ
  bytes_left i = classes_bytes (map (class_at_root state) (returned_from i))

  bytes_left_first : bytes_left 0 ≡ classes_bytes (into_classes state)
  unfolding into_classes
  bytes_left_first = ap (λ (l : List ℕ). classes_bytes (map (class_at_root state) l)) returned_are

  bytes_left_size : length (bytes_left 0) ≡ classes_size state.roots
  bytes_left_size = ap length bytes_left_first ∙ classes_size_law state

  bytes_left_next : (i : ℕ) → i < 128 → bytes_left i ≡ returned_bytes i ++ bytes_left (i + 1)
  unfolding classes_bytes
  bytes_left_next i h = ap (λ (l : List ℕ). classes_bytes (map (class_at_root state) l)) (selected_step (is_returned state.roots) i 128 h) ∙ go (is_returned state.roots i) (returned_from (i + 1))
    where
      go : (b : Bool) (l : List ℕ) → classes_bytes (map (class_at_root state) (cond b (i ∷ []) [] ++ l)) ≡ cond b (class_bytes (class_at_root state i)) [] ++ classes_bytes (map (class_at_root state) l)
      go true l = refl
      go false l = refl

  bytes_left_none : (i : ℕ) → 128 ≤ i → bytes_left i ≡ []
  unfolding classes_bytes
  bytes_left_none i h = ap (λ (l : List ℕ). classes_bytes (map (class_at_root state) l)) (selected_end (is_returned state.roots) i 128 h)

  -- ---- a loop over the roots that writes their classes into a slice that held out₀

  module _ (out₀ : List ℕ) where
    -- where it stands at a root
    abbrev pub Returned : List ℕ → ℕ → ℕ → Type 0
    Returned out at root = Filled bytes_left (bytes_left 0) out₀ out at root

    pub returned_first : Returned out₀ 0 0
    returned_first = filled_first bytes_left (bytes_left 0) out₀ 0 refl

    module _ (out : List ℕ) (at root : ℕ) (r : Returned out at root) where
      returned_all : bytes_left root ≡ [] → out ≡ onto (classes_bytes (into_classes state)) out₀
      returned_all none = filled_all bytes_left _ out₀ out at root none r ∙ ap (λ (l : List ℕ). onto l out₀) bytes_left_first

      -- nothing is left where all bytes are written, and behind the last root
      pub returned_written : classes_size state.roots ≤ at → out ≡ onto (classes_bytes (into_classes state)) out₀
      returned_written h = let a = bytes_left_size in returned_all (filled_none bytes_left _ out₀ out at root (omega arith) r)

      pub returned_end : 128 ≤ root → out ≡ onto (classes_bytes (into_classes state)) out₀
      returned_end h = returned_all (bytes_left_none root h)

      -- the class at the root is one of all
      pub returned_room : root < 128 → at + returned_size (member_count state.roots root) ≤ classes_size state.roots
      returned_room below =
          let a = ap length (sym r.left) ∙ length-append r.done (bytes_left root) in
          let b = ap length (bytes_left_next root below) ∙ length-append (returned_bytes root) (bytes_left (root + 1)) in
          let f = r.reached in
          let l = returned_length root in
          let s = bytes_left_size in
          omega arith

      module _ (room : classes_size state.roots ≤ length out₀) where
        all_room : length (bytes_left 0) ≤ length out₀
        all_room = let a = bytes_left_size in omega arith

        pub returned_within : (length out ≡ length out₀) × (at ≤ length out)
        returned_within = filled_within bytes_left _ out₀ all_room out at root r

        module _ (below : root < 128) where
          -- there is room for the class at the root in the part that is lent for it
          pub returned_part : returned_size (member_count state.roots root) ≤ length (take (length out - at) (drop at out))
          returned_part =
              let m = filled_part bytes_left _ out₀ all_room out (returned_bytes root) at root r (bytes_left_next root below) in
              let l = returned_length root in
              omega arith

          pub returned_next : (Y : List ℕ) (k m : ℕ) (distinct : Estimate) → distinct ≡ root_distinct state root → m ≡ returned_size (member_count state.roots root) → k ≡ length out - at
              → Y ≡ onto (cond (is_returned state.roots root) (class_bytes (record { columns = members state.roots root; distinct = distinct })) []) (take k (drop at out))
              → Returned (take at out ++ (Y ++ drop k (drop at out))) (at + m) (root + 1)
          returned_next Y k m distinct d e g y =
              filled_next bytes_left _ out₀ all_room out (returned_bytes root) at root r (bytes_left_next root below) Y k m (e ∙ sym (returned_length root)) g
              (y ∙ ap (λ (x : Estimate). onto (cond (is_returned state.roots root) (class_bytes (record { columns = members state.roots root; distinct = x })) []) (take k (drop at out))) d)
