-- A sketch: a head, then its items. Definitions only.
use Rattle.std.specs.Prelude.{ℕ, ◌+◌, ◌*◌, List}
use Rattle.le.specs.Fields.{u16_at, u64_at}
use Rattle.layout.specs.Places.{sketch_count_offset, sketch_head_size, item_lower_offset, item_error_offset, item_size}
use Rattle.scalar_bytes.specs.Reading.{scalar_at}
use Rattle.records.specs.Lists.{tabulate_from, tabulate}
use Rattle.records.specs.declared.sketches.SketchHead.{SketchHead}
use Rattle.records.specs.declared.sketches.SketchItem.{SketchItem}

unfoldable pub sketch_head_at : List ℕ → ℕ → SketchHead
sketch_head_at s at = record { population = u64_at s at; count = u16_at s (at + sketch_count_offset) }

unfoldable pub sketch_item_at : List ℕ → ℕ → SketchItem
unfolding scalar_at
sketch_item_at s at = record { value = scalar_at s at; lower = u64_at s (at + item_lower_offset); error = u64_at s (at + item_error_offset) }

pub record Sketch : Type 0 where
  pub population : ℕ
  pub items : List SketchItem

-- item i of a sketch at a place
abbrev pub sketch_item : List ℕ → ℕ → ℕ → SketchItem
sketch_item s at i = sketch_item_at s (at + sketch_head_size + item_size * i)

unfoldable pub sketch_at : List ℕ → ℕ → Sketch
unfolding sketch_head_at sketch_item_at tabulate_from
sketch_at s at = record {
  population = (sketch_head_at s at).population;
  items = tabulate (sketch_item s at) (sketch_head_at s at).count;
}
