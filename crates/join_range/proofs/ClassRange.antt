-- Every distinct in the classes that a join goes through is an estimate that a sheet may hold: those of the profiles, of the sheet's classes and of the setting are, and a union takes one of them. Assumes nothing.
use Prim.Native.Nat.{ℕ}
use mathlib.Core.Path.{refl}
use mathlib.Core.List.{List, [], ◌∷◌}
use lib.ListN.{length}
use lib.Ieee.{le}
use Rattle.float.specs.Order.{f64_zero}
use Rattle.float.proofs.UnitLaws.{zero_unit}
use Rattle.estimate.specs.Estimates.{min_by_value, max_by_value}
use Rattle.estimate.specs.Bytes.{LawfulFigure, LawfulEstimate}
use Rattle.estimate.specs.declared.Estimate.{Estimate}
use Rattle.records.specs.Classes.{ColumnEquivalenceClass}
use Rattle.sheet.specs.Sheet.{Sheet}
use Rattle.lawful.specs.Lawful.{Each, LawfulClass, LawfulSheet}
use Rattle.std.specs.Prelude.{Option, None, Some}
use Rattle.lookup.specs.Lookup.{ProfileAndRows, profile_and_rows}
use Rattle.predicate_range.proofs.NumberRange.{either}
use Rattle.predicate_range.proofs.FoundRange.{LawfulFound, profile_lawful}
use Rattle.layout.specs.Places.{column_limit}
use Rattle.class_state.specs.State.{find, equivalent, no_distinct, root_distinct, under, union, unknown_distinct, own_distinct, column_distinct, apart, union_each, overwritten, with_columns, with_classes, from_profiles, class_at_root, returned_roots, into_classes}
use Rattle.class_state.specs.declared.EquivalenceClassState.{EquivalenceClassState}
use Rattle.join_range.specs.Range.{ClassInRange}
use Rattle.join_range.proofs.EachLaws.{each_first, each_rest, each_map, set_at_each, tabulate_at_each}

-- ---- one of two
pub min_lawful : (a b : Estimate) → LawfulEstimate a → LawfulEstimate b → LawfulEstimate (min_by_value a b)
unfolding min_by_value
min_lawful a b p q = either LawfulEstimate (le a.value b.value) a b p q

pub max_lawful : (a b : Estimate) → LawfulEstimate a → LawfulEstimate b → LawfulEstimate (max_by_value a b)
unfolding max_by_value
max_lawful a b p q = either LawfulEstimate (le b.value a.value) a b p q

-- ---- every root's distinct, and with it every column's class's
abbrev pub LawfulState : EquivalenceClassState → Type 0
LawfulState state = (root : ℕ) → LawfulEstimate (root_distinct state root)

zero_lawful : LawfulFigure f64_zero
zero_lawful = record { held = zero_unit.held; lawful = tt }

no_lawful : LawfulEstimate no_distinct
unfolding no_distinct
no_lawful = record { value = zero_lawful; lower = zero_lawful; upper = refl }

-- ---- union
under_lawful : (state : EquivalenceClassState) (to from : ℕ) (distinct : Estimate) → LawfulState state → LawfulEstimate distinct → LawfulState (under state to from distinct)
unfolding under
under_lawful state to from distinct s p =
    let a = root_distinct state to in
    let b = root_distinct state from in
    set_at_each LawfulEstimate no_distinct state.distincts to (min_by_value (min_by_value a b) distinct) s (min_lawful (min_by_value a b) distinct (min_lawful a b (s to) (s from)) p)

pub union_lawful : (state : EquivalenceClassState) (left right : ℕ) (distinct : Estimate) → LawfulState state → LawfulEstimate distinct → LawfulState (union state left right distinct)
unfolding union
union_lawful state left right distinct s p =
    either LawfulState (equivalent state left right) state (under state (find state left) (find state right) distinct) s (under_lawful state (find state left) (find state right) distinct s p)

-- ---- from the profiles
each_lawful : (state : EquivalenceClassState) (first : ℕ) (columns : List ℕ) (distinct : Estimate) → LawfulState state → LawfulEstimate distinct → LawfulState (union_each state first columns distinct)
unfolding union_each
each_lawful state first [] distinct s p = s
each_lawful state first (column ∷ columns) distinct s p = each_lawful (union state first column distinct) first columns distinct (union_lawful state first column distinct s p) p

overwritten_lawful : (state : EquivalenceClassState) (first : ℕ) (distinct : Estimate) → LawfulState state → LawfulEstimate distinct → LawfulState (overwritten state first distinct)
unfolding overwritten
overwritten_lawful state first distinct s p = set_at_each LawfulEstimate no_distinct state.distincts (find state first) distinct s p

columns_lawful : (state : EquivalenceClassState) (columns : List ℕ) (distinct : Estimate) → LawfulState state → LawfulEstimate distinct → LawfulState (with_columns state columns distinct)
unfolding with_columns
columns_lawful state [] distinct s p = s
columns_lawful state (first ∷ []) distinct s p = s
columns_lawful state (first ∷ second ∷ columns) distinct s p = each_lawful (overwritten state first distinct) first (second ∷ columns) distinct (overwritten_lawful state first distinct s p) p

classes_lawful : (state : EquivalenceClassState) (classes : List ColumnEquivalenceClass) → LawfulState state → Each LawfulClass classes → LawfulState (with_classes state classes)
unfolding with_classes
classes_lawful state [] s c = s
classes_lawful state (class ∷ classes) s c =
    classes_lawful (with_columns state class.columns class.distinct) classes (columns_lawful state class.columns class.distinct s (each_first LawfulClass class classes c).distinct) (each_rest LawfulClass class classes c)

module _ (sheet : Sheet) (h : LawfulSheet sheet) where
  unknown_lawful : LawfulEstimate (unknown_distinct sheet)
  unfolding unknown_distinct
  unknown_lawful = record { value = h.settings.unknown_column_ndv_cap; lower = zero_lawful; upper = refl }

  own_lawful : (found : Option ProfileAndRows) → LawfulFound (length sheet.sketches) found → LawfulEstimate (own_distinct sheet found)
  own_lawful None f = unknown_lawful
  own_lawful (Some (profile, rows)) f = f.0.distinct

  apart_lawful : LawfulState (apart sheet)
  unfolding apart
  apart_lawful = tabulate_at_each LawfulEstimate no_distinct (column_distinct sheet) 0 column_limit (λ column. own_lawful (profile_and_rows sheet column) (profile_lawful sheet h column)) no_lawful

  pub profiles_lawful : LawfulState (from_profiles sheet)
  unfolding from_profiles
  profiles_lawful = classes_lawful (with_classes (apart sheet) sheet.left_classes) sheet.right_classes (classes_lawful (apart sheet) sheet.left_classes apart_lawful h.left_classes) h.right_classes

-- ---- what is returned
pub returned_lawful : (state : EquivalenceClassState) → LawfulState state → Each ClassInRange (into_classes state)
unfolding into_classes
returned_lawful state s = each_map ClassInRange (class_at_root state) s (returned_roots state.roots)
