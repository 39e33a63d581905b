-- The items of a sketch from one of them on: what these give is what all of them give. Assumes nothing.
use Rattle.std.proofs.Common.{◌≡◌, ℕ, zero, suc, ◌+◌, ◌-◌, ◌*◌, ◌<◌, ◌≤◌, true, false, cond, List, length, Option, Some, None, sym, refl, ap, ◌∙◌, arith}
use Rattle.std.specs.List.{fold, range_with_len}
use native.Mathlib.Nat.{sub-zero}
use Rattle.le.specs.Fields.{u16_at, u64_at}
use Rattle.scalar.specs.Order.{scalar_order, is_equal}
use Rattle.scalar.specs.declared.Scalar.{Scalar}
use Rattle.scalar_bytes.specs.Reading.{scalar_at}
use Rattle.records.specs.Lists.{tabulate_from}
use Rattle.records.specs.Sketches.{sketch_item_at, sketch_item, sketch_at}
use Rattle.records.specs.declared.sketches.SketchItem.{SketchItem}
use Rattle.records.proofs.ListLaws.{tabulate_length, tabulate_step, tabulate_end}
use Rattle.sketch.specs.Frequent.{counts_of, find_item, tracked_rows, residual_rows}
use Rattle.sketch.specs.declared.items.Counts.{Counts}

-- of n items, the i-th and those behind it
abbrev pub items_from : List ℕ → ℕ → ℕ → ℕ → List SketchItem
items_from s at i n = tabulate_from (sketch_item s at) i (n - i)

pub items_count : (s : List ℕ) (at : ℕ) → u16_at s (at + 8) ≡ length (sketch_at s at).items
unfolding sketch_at
items_count s at = sym (tabulate_length (sketch_item s at) (u16_at s (at + 8)))

pub items_all : (s : List ℕ) (at n : ℕ) → n ≡ length (sketch_at s at).items → items_from s at 0 n ≡ (sketch_at s at).items
unfolding sketch_at
items_all s at n e = rw (sub-zero, e, ← items_count s at) refl

-- ---- the lookup

module _ (s : List ℕ) (at : ℕ) (value : Scalar) (i n : ℕ) (found : Option Counts) (rest : find_item value (items_from s at i n) ≡ found) where
  find_step : i < n → find_item value (items_from s at i n)
      ≡ cond (is_equal (scalar_order (scalar_at s (at + 10 + 35 * i)) value)) (Some (counts_of (sketch_item s at i))) (find_item value (items_from s at (i + 1) n))
  unfolding find_item sketch_item_at
  find_step h = ap (find_item value) (tabulate_step (sketch_item s at) i n h)

  pub find_next : i < n → is_equal (scalar_order (scalar_at s (at + 10 + 35 * i)) value) ≡ false → find_item value (items_from s at (i + 1) n) ≡ found
  find_next h e = sym (rw e at (find_step h)) ∙ rest

  pub find_here : i < n → is_equal (scalar_order (scalar_at s (at + 10 + 35 * i)) value) ≡ true → Some (counts_of (sketch_item s at i)) ≡ found
  find_here h e = sym (rw e at (find_step h)) ∙ rest

  pub find_none : n ≤ i → None ≡ found
  unfolding find_item
  find_none h = sym (ap (find_item value) (tabulate_end (sketch_item s at) i n h)) ∙ rest

-- ---- the rows left

rows_all : (s : List ℕ) (at n : ℕ) → n ≡ length (sketch_at s at).items → (sketch_at s at).population - tracked_rows (items_from s at 0 n) ≡ residual_rows (sketch_at s at)
unfolding residual_rows
rows_all s at n e = rw (items_all s at n e) (omega arith)

-- item by item they are taken away
pub rows_taken : (s : List ℕ) (at i n left : ℕ) → fold (λ rows k. rows - u64_at s (at + 10 + 35 * k + 19)) left (range_with_len i n) ≡ left - tracked_rows (tabulate_from (sketch_item s at) i n)
unfolding tracked_rows tabulate_from sketch_item_at
rows_taken s at i zero left = omega arith
rows_taken s at i (suc n) left =
    let rest = rows_taken s at (i + 1) n (left - u64_at s (at + 10 + 35 * i + 19)) in
    rest ∙ omega arith

pub rows_left : (s : List ℕ) (at n : ℕ) → n ≡ length (sketch_at s at).items → fold (λ rows k. rows - u64_at s (at + 10 + 35 * k + 19)) (sketch_at s at).population (range_with_len 0 n) ≡ residual_rows (sketch_at s at)
rows_left s at n e =
    rows_taken s at 0 n _
    ∙ ap (λ m. (sketch_at s at).population - tracked_rows (tabulate_from (sketch_item s at) 0 m)) (sym (sub-zero n))
    ∙ rows_all s at n e
