-- The state of two profiles: its parts one after the other, every root below 128, and 128 roots and distincts. Assumes nothing.
use Prim.Native.Nat.{ℕ, ◌≤◌, ◌<◌}
use mathlib.Core.Path.{◌≡◌, refl, sym, ap, ◌∙◌, subst}
use mathlib.Core.Bool.{Bool, true, false}
use mathlib.Core.List.{List, [], ◌∷◌}
use native.Mathlib.Omega.{arith}
use borrow.Author.Tests.{ltb-true, ltb-false}
use lib.Dec.{ltb}
use lib.ListN.{length, get_or, length-set, get_or-eq_default}
use Rattle.estimate.specs.declared.Estimate.{Estimate}
use Rattle.records.specs.Lists.{tabulate, itself}
use Rattle.records.specs.Classes.{ColumnEquivalenceClass, class_at}
use Rattle.records.proofs.ListLaws.{tabulate_length, tabulate_at}
use Rattle.sheet.specs.Sheet.{Sheet, records_in, sheet_of}
use Rattle.sheet.specs.declared.Sections.{Sections}
use Rattle.sheet.specs.declared.order.Kind.TheVariants.{Classes}
use Rattle.class_state.specs.declared.EquivalenceClassState.{EquivalenceClassState}
use Rattle.layout.specs.Places.{column_limit}
use Rattle.class_state.specs.State.{Rooted, find, union, column_distinct, apart, union_each, overwritten, with_columns, with_classes, from_profiles}
use Rattle.class_state.proofs.UnionLaws.{union_rooted, union_lengths}

-- ---- its parts

pub profiles_are : (s : List ℕ) (q : Sections) (alone left state : EquivalenceClassState) → alone ≡ apart (sheet_of s q) → left ≡ with_classes alone (records_in Classes class_at s q.left_classes)
    → state ≡ with_classes left (records_in Classes class_at s q.right_classes) → state ≡ from_profiles (sheet_of s q)
unfolding from_profiles sheet_of
profiles_are s q alone left state a l e =
    e
    ∙ ap (λ (t : EquivalenceClassState). with_classes t (records_in Classes class_at s q.right_classes)) (l ∙ ap (λ (t : EquivalenceClassState). with_classes t (records_in Classes class_at s q.left_classes)) a)

-- ---- what every union and every overwriting keeps, the classes keep

module _ (P : EquivalenceClassState → Type 0)
    (unites : (state : EquivalenceClassState) (left right : ℕ) (distinct : Estimate) → P state → P (union state left right distinct))
    (overwrites : (state : EquivalenceClassState) (first : ℕ) (distinct : Estimate) → P state → P (overwritten state first distinct)) where
  each_keeps : (state : EquivalenceClassState) (first : ℕ) (columns : List ℕ) (distinct : Estimate) → P state → P (union_each state first columns distinct)
  unfolding union_each
  each_keeps state first [] distinct p = p
  each_keeps state first (column ∷ columns) distinct p = each_keeps (union state first column distinct) first columns distinct (unites state first column distinct p)

  columns_keep : (state : EquivalenceClassState) (columns : List ℕ) (distinct : Estimate) → P state → P (with_columns state columns distinct)
  unfolding with_columns
  columns_keep state [] distinct p = p
  columns_keep state (first ∷ []) distinct p = p
  columns_keep state (first ∷ second ∷ columns) distinct p = each_keeps (overwritten state first distinct) first (second ∷ columns) distinct (overwrites state first distinct p)

  classes_keep : (state : EquivalenceClassState) (classes : List ColumnEquivalenceClass) → P state → P (with_classes state classes)
  unfolding with_classes
  classes_keep state [] p = p
  classes_keep state (class ∷ classes) p = classes_keep (with_columns state class.columns class.distinct) classes (columns_keep state class.columns class.distinct p)

  profiles_keep : (sheet : Sheet) → P (apart sheet) → P (from_profiles sheet)
  unfolding from_profiles
  profiles_keep sheet p = classes_keep (with_classes (apart sheet) sheet.left_classes) sheet.right_classes (classes_keep (apart sheet) sheet.left_classes p)

-- ---- every column's root is a column

abbrev RootedState : EquivalenceClassState → Type 0
RootedState state = Rooted state.roots

own_rooted : Rooted (tabulate itself column_limit)
own_rooted column = go (ltb column 128) (ltb-true column 128) (ltb-false column 128)
  where
    go : (t : Bool) → (t ≡ true → column < 128) → (t ≡ false → 128 ≤ column) → get_or (tabulate itself 128) column 0 < 128
    go true below past =
        let e = tabulate_at itself 128 column 0 (below refl) in
        let h = below refl in
        omega arith
    go false below past =
        let n = tabulate_length itself 128 in
        let h = past refl in
        let e = get_or-eq_default (tabulate itself 128) 0 {n = column} (omega arith) in
        omega arith

overwrites_rooted : (state : EquivalenceClassState) (first : ℕ) (distinct : Estimate) → RootedState state → RootedState (overwritten state first distinct)
unfolding overwritten
overwrites_rooted state first distinct rooted = rooted

pub union_keeps : (state state' : EquivalenceClassState) (left right : ℕ) (distinct : Estimate) → state' ≡ union state left right distinct → Rooted state.roots → Rooted state'.roots
union_keeps state state' left right distinct e rooted = subst RootedState (sym e) (union_rooted state left right distinct rooted)

pub rooted_next : (state state' : EquivalenceClassState) (columns : List ℕ) (distinct : Estimate) → state' ≡ with_columns state columns distinct → Rooted state.roots → Rooted state'.roots
rooted_next state state' columns distinct e rooted = subst RootedState (sym e) (columns_keep RootedState union_rooted overwrites_rooted state columns distinct rooted)

pub rooted_classes : (state state' : EquivalenceClassState) (classes : List ColumnEquivalenceClass) → state' ≡ with_classes state classes → Rooted state.roots → Rooted state'.roots
rooted_classes state state' classes e rooted = subst RootedState (sym e) (classes_keep RootedState union_rooted overwrites_rooted state classes rooted)

module _ (sheet : Sheet) where
  apart_rooted : Rooted (apart sheet).roots
  unfolding apart
  apart_rooted = own_rooted

  pub rooted_first : (state : EquivalenceClassState) → state ≡ apart sheet → Rooted state.roots
  rooted_first state e = subst RootedState (sym e) apart_rooted

  pub from_profiles_rooted : Rooted (from_profiles sheet).roots
  from_profiles_rooted = profiles_keep RootedState union_rooted overwrites_rooted sheet apart_rooted

-- ---- 128 roots and 128 distincts

abbrev Sized : EquivalenceClassState → Type 0
Sized state = (length state.roots ≡ 128) × (length state.distincts ≡ 128)

unites_sized : (state : EquivalenceClassState) (left right : ℕ) (distinct : Estimate) → Sized state → Sized (union state left right distinct)
unites_sized state left right distinct n =
    let m = union_lengths state left right distinct in
    (m.0 ∙ n.0, m.1 ∙ n.1)

overwrites_sized : (state : EquivalenceClassState) (first : ℕ) (distinct : Estimate) → Sized state → Sized (overwritten state first distinct)
unfolding overwritten
overwrites_sized state first distinct n = (n.0, length-set state.distincts (find state first) distinct ∙ n.1)

module _ (sheet : Sheet) where
  apart_sized : Sized (apart sheet)
  unfolding apart
  apart_sized = (tabulate_length itself 128, tabulate_length (column_distinct sheet) 128)

  from_profiles_sized : Sized (from_profiles sheet)
  from_profiles_sized = profiles_keep Sized unites_sized overwrites_sized sheet apart_sized

  pub from_profiles_roots_length : length (from_profiles sheet).roots ≡ 128
  from_profiles_roots_length = from_profiles_sized.0

  pub from_profiles_distincts_length : length (from_profiles sheet).distincts ≡ 128
  from_profiles_distincts_length = from_profiles_sized.1
