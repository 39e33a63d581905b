-- The sums over the items of the left sketch: what one item adds to a count; and the sums so far, with the items from one on, give what all of the items give. Assumes nothing.
use Rattle.std.proofs.Common.{◌≡◌, ℕ, ◌+◌, ◌*◌, ◌<◌, ◌≤◌, Bool, true, false, ◌&&◌, List, length, Option, Some, None, sym, refl, ap, ◌∙◌, le_refl, arith}
use lib.Ieee.{lt}
use Rattle.float.specs.Order.{f64_zero}
use Rattle.le.specs.Fields.{u64_at}
use Rattle.scalar_bytes.specs.Reading.{scalar_at}
use Rattle.records.specs.Sketches.{sketch_item_at, sketch_item, sketch_at}
use Rattle.records.specs.declared.sketches.SketchItem.{SketchItem}
use Rattle.records.proofs.ListLaws.{tabulate_step, tabulate_end}
use Rattle.sketch.specs.Frequent.{find_item, count}
use Rattle.sketch.specs.declared.items.Counts.{Counts}
use Rattle.sketch.proofs.ItemLaws.{items_from, items_all}
use Rattle.sketch_join.specs.SketchJoin.{with_common, summed}
use Rattle.sketch_join.specs.declared.sums.CommonValues.{CommonValues}

-- an item adds one common value or none
pub common_grows : (sums : CommonValues) (lower : ℕ) (found : Option Counts) → (with_common sums lower found).common_values ≤ sums.common_values + 1
unfolding with_common
common_grows sums lower None = omega arith
common_grows sums lower (Some other) = go (lt f64_zero (count lower) && lt f64_zero (count other.lower)) refl
  where
    go : (t : Bool) → (lt f64_zero (count lower) && lt f64_zero (count other.lower)) ≡ t
        → (with_common sums lower (Some other)).common_values ≤ sums.common_values + 1
    go true e = rw e (le_refl (sums.common_values + 1))
    go false e = rw e (omega arith)

module _ {S : Type 0} (more : S → ℕ → Option Counts → S) (s : List ℕ) (at : ℕ) (right : List SketchItem) where
  pub summed_all : (n : ℕ) (sums : S) → n ≡ length (sketch_at s at).items → summed more sums (items_from s at 0 n) right ≡ summed more sums (sketch_at s at).items right
  summed_all n sums e = ap (λ (l : List SketchItem). summed more sums l right) (items_all s at n e)

  module _ (i n : ℕ) (sums all : S) (rest : summed more sums (items_from s at i n) right ≡ all) where
    pub summed_next : i < n → summed more (more sums (u64_at s (at + 10 + 35 * i + 19)) (find_item (scalar_at s (at + 10 + 35 * i)) right)) (items_from s at (i + 1) n) right ≡ all
    unfolding summed sketch_item_at
    summed_next h = sym (ap (λ (l : List SketchItem). summed more sums l right) (tabulate_step (sketch_item s at) i n h)) ∙ rest

    pub summed_end : n ≤ i → sums ≡ all
    unfolding summed
    summed_end h = sym (ap (λ (l : List SketchItem). summed more sums l right) (tabulate_end (sketch_item s at) i n h)) ∙ rest
