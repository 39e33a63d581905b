-- The classes of a profile, united one by one. Assumes nothing.
use Prim.Native.Nat.{ℕ, zero, suc, ◌+◌, ◌-◌, ◌*◌, ◌≤◌, ◌<◌}
use mathlib.Core.Path.{◌≡◌, refl, sym, ap, ◌∙◌}
use mathlib.Core.List.{List}
use native.Mathlib.Omega.{arith}
use native.Mathlib.Nat.{add-zero, sub-zero}
use lib.ListN.{get_or, set}
use Rattle.le.specs.Fields.{u16_at}
use Rattle.estimate.specs.Bytes.{estimate_at}
use Rattle.estimate.specs.declared.Estimate.{Estimate}
use Rattle.records.specs.Lists.{tabulate_from, tabulate}
use Rattle.records.specs.Classes.{class_head_at, class_column, class_at}
use Rattle.records.proofs.ListLaws.{tabulate_step, tabulate_end}
use Rattle.sheet.specs.Order.{record_end, record_at}
use Rattle.sheet.specs.Sheet.{record_in, records_in}
use Rattle.sheet.specs.declared.order.Kind.TheVariants.{Classes}
use Rattle.sheet.proofs.PlaceLaws.{record_next}
use Rattle.class_state.specs.declared.EquivalenceClassState.{EquivalenceClassState}
use Rattle.class_state.specs.State.{union, union_each, overwritten, with_columns, with_classes}

abbrev pub class_state : List ℕ → List Estimate → EquivalenceClassState
class_state roots distincts = record { roots = roots; distincts = distincts }

-- ---- the columns of a class at a place, where a loop stands at the i-th

module _ (s : List ℕ) (at : ℕ) (distinct : Estimate) where
  abbrev pub united_from : EquivalenceClassState → ℕ → EquivalenceClassState
  united_from state i = union_each state (u16_at s (at + 28)) (tabulate_from (class_column s at) i (u16_at s at - i)) distinct

  united_step : (state : EquivalenceClassState) (i : ℕ) → i < u16_at s at → united_from (union state (u16_at s (at + 28)) (class_column s at i) distinct) (i + 1) ≡ united_from state i
  unfolding union_each
  united_step state i h = ap (λ (l : List ℕ). union_each state (u16_at s (at + 28)) l distinct) (sym (tabulate_step (class_column s at) i (u16_at s at) h))

  abbrev pub UnitedRest : EquivalenceClassState → EquivalenceClassState → ℕ → Type 0
  UnitedRest state₀ state i = united_from state i ≡ united_from state₀ 1

  module _ (state₀ state : EquivalenceClassState) (i n : ℕ) (c : n ≡ u16_at s at) (rest : UnitedRest state₀ state i) where
    pub united_next : (first column : ℕ) (state' : EquivalenceClassState) → i < n → first ≡ u16_at s (at + 28) → column ≡ u16_at s (at + 28 + 2 * i) → state' ≡ union state first column distinct
        → UnitedRest state₀ state' (i + 1)
    united_next first column state' h f g e =
        ap (λ (t : EquivalenceClassState). united_from t (i + 1)) (e ∙ λ j. union state (f j) (g j) distinct)
        ∙ united_step state i (omega arith)
        ∙ rest

    pub united_all : n ≤ i → state ≡ united_from state₀ 1
    unfolding union_each
    united_all h = ap (λ (l : List ℕ). union_each state (u16_at s (at + 28)) l distinct) (sym (tabulate_end (class_column s at) i (u16_at s at) (omega arith))) ∙ rest

-- ---- the whole class

module _ (s : List ℕ) (at : ℕ) (state : EquivalenceClassState) where
  few : (n : ℕ) (distinct : Estimate) → n < 2 → state ≡ with_columns state (tabulate (class_column s at) n) distinct
  unfolding with_columns tabulate_from
  few zero distinct h = refl
  few (suc zero) distinct h = refl
  few (suc (suc n)) distinct h = absurd (none n h)
    where
      none : (n : ℕ) → suc (suc n) < 2 → ⊥
      none n h = omega arith

  many : (n : ℕ) (distinct : Estimate) → 2 ≤ n
      → union_each (overwritten state (class_column s at 0) distinct) (class_column s at 0) (tabulate_from (class_column s at) 1 (n - 1)) distinct
      ≡ with_columns state (tabulate (class_column s at) n) distinct
  unfolding with_columns tabulate_from
  many zero distinct h = absurd (none h)
    where
      none : 2 ≤ 0 → ⊥
      none h = omega arith
  many (suc zero) distinct h = absurd (none h)
    where
      none : 2 ≤ 1 → ⊥
      none h = omega arith
  many (suc (suc n)) distinct h = ap (λ (m : ℕ). union_each (overwritten state (class_column s at 0) distinct) (class_column s at 0) (tabulate_from (class_column s at) 1 m) distinct) (less n)
    where
      less : (n : ℕ) → suc (suc n) - 1 ≡ suc n
      less n = omega arith

  abbrev with_class_at : EquivalenceClassState
  with_class_at = with_columns state (class_at s at).columns (class_at s at).distinct

  module _ (n : ℕ) (c : n ≡ u16_at s at) where
    pub class_few : n < 2 → state ≡ with_class_at
    unfolding class_at class_head_at
    class_few h = few (u16_at s at) (class_at s at).distinct (omega arith)

    pub class_many : (distinct : Estimate) (first own : ℕ) (state' : EquivalenceClassState) → 2 ≤ n → distinct ≡ estimate_at s (at + 2) → first ≡ u16_at s (at + 28) → own ≡ get_or state.roots first 0
        → state' ≡ united_from s at distinct (class_state state.roots (set state.distincts own distinct)) 1 → state' ≡ with_class_at
    unfolding class_at class_head_at overwritten
    class_many distinct first own state' h d f r e =
        e
        ∙ (λ i. union_each (class_state state.roots (set state.distincts (root i) (d i))) (column i) (tabulate_from (class_column s at) 1 (u16_at s at - 1)) (d i))
        ∙ many (u16_at s at) (estimate_at s (at + 2)) (omega arith)
      where
        column : u16_at s (at + 28) ≡ class_column s at 0
        column = ap (u16_at s) (sym (add-zero (at + 28)))

        root : own ≡ get_or state.roots (class_column s at 0) 0
        root = r ∙ ap (λ (k : ℕ). get_or state.roots k 0) (f ∙ column)

-- ---- the classes of a section, where a loop stands at the i-th

module _ (s : List ℕ) (start : ℕ) where
  pub class_next : (i at n : ℕ) → at ≡ record_at Classes s start i → n ≡ u16_at s at → at + 28 + 2 * n ≡ record_at Classes s start (i + 1)
  unfolding record_end
  class_next i at n e c = ap (λ (m : ℕ). at + 28 + 2 * m) c ∙ ap (record_end Classes s) e ∙ record_next Classes s start i

  abbrev classes_from : EquivalenceClassState → ℕ → EquivalenceClassState
  classes_from state i = with_classes state (tabulate_from (record_in Classes class_at s start) i (u16_at s start - i))

  abbrev pub all_classes : EquivalenceClassState → EquivalenceClassState
  all_classes state = with_classes state (records_in Classes class_at s start)

  abbrev pub ClassesRest : EquivalenceClassState → EquivalenceClassState → ℕ → Type 0
  ClassesRest state₀ state i = classes_from state i ≡ all_classes state₀

  pub classes_first : (state : EquivalenceClassState) → ClassesRest state state 0
  unfolding records_in
  classes_first state = rw (sub-zero (u16_at s start)) refl

  classes_step : (state : EquivalenceClassState) (i : ℕ) → i < u16_at s start → classes_from (with_columns state (class_at s (record_at Classes s start i)).columns (class_at s (record_at Classes s start i)).distinct) (i + 1) ≡ classes_from state i
  unfolding with_classes
  classes_step state i h = ap (with_classes state) (sym (tabulate_step (record_in Classes class_at s start) i (u16_at s start) h))

  module _ (state₀ state : EquivalenceClassState) (i n : ℕ) (c : n ≡ u16_at s start) (rest : ClassesRest state₀ state i) where
    pub classes_next : (at : ℕ) (state' : EquivalenceClassState) → i < n → at ≡ record_at Classes s start i → state' ≡ with_columns state (class_at s at).columns (class_at s at).distinct → ClassesRest state₀ state' (i + 1)
    classes_next at state' h f e =
        ap (λ (t : EquivalenceClassState). classes_from t (i + 1)) (e ∙ λ k. with_columns state (class_at s (f k)).columns (class_at s (f k)).distinct)
        ∙ classes_step state i (omega arith)
        ∙ rest

    pub classes_all : n ≤ i → state ≡ all_classes state₀
    unfolding with_classes
    classes_all h = ap (with_classes state) (sym (tabulate_end (record_in Classes class_at s start) i (u16_at s start) (omega arith))) ∙ rest
