-- Sketches that keep their rules are lawful. Assumes nothing.
use Prim.Native.Nat.{ℕ, ◌+◌, ◌*◌, ◌≤◌, ◌<◌}
use mathlib.Core.Path.{◌≡◌, refl, sym, subst}
use mathlib.Core.Bool.{◌&&◌}
use mathlib.Core.List.{List}
use native.Mathlib.Omega.{arith}
use lib.Dec.{leb}
use borrow.Author.Tests.{leb-true}
use Rattle.le.specs.Fields.{u16_at, u64_at}
use Rattle.le.proofs.FieldLaws.{Bytes}
use Rattle.rules.specs.Rules.{ask}
use Rattle.rules.proofs.RuleLaws.{ask_kept, both_first, else_first, else_second, each_kept}
use Rattle.layout.specs.Places.{count_limit, item_limit, items_limit, sketch_count_offset, sketch_head_size, item_lower_offset, item_error_offset, item_size}
use Rattle.layout.proofs.LayoutLaws.{Kept, record_kept}
use Rattle.scalar_bytes.specs.Reading.{scalar_refusal}
use Rattle.scalar_bytes.specs.declared.reads.ScalarPlace.TheVariants.{Sketch}
use Rattle.records.specs.Sketches.{sketch_item_at, sketch_item, sketch_at}
use Rattle.records.proofs.ListLaws.{tabulate_length}
use Rattle.record_rules.specs.Fields.{count_lawful}
use Rattle.sketch_rules.specs.Lawful.{LawfulItem}
use Rattle.sketch_rules.specs.Sketches.{item_fields, item_refusal, sketch_head_fields, sketch_head_refusal, sketch_refusal}
use Rattle.lawful.specs.Lawful.{LawfulSketch}
use Rattle.lawful.proofs.EachLaws.{each_tabulate}
use Rattle.lawful.proofs.ScalarLaws.{scalar_lawful, sketch_no_null}

count_lawful_law : (n : ℕ) → ask (count_lawful n) 4 ≡ 0 → n ≤ count_limit
count_lawful_law n e = leb-true n count_limit (ask_kept (count_lawful n) 4 (omega arith) e)

item_lawful : (s : List ℕ) (first j : ℕ) → Bytes s → item_refusal s first j ≡ 0 → LawfulItem (sketch_item_at s (first + item_size * j))
unfolding item_refusal sketch_item_at
item_lawful s first j b e =
    let at : ℕ = first + item_size * j in
    let fields = record_kept item_fields (record { first = first; j = j }) s at e in
    let scalar = else_first (scalar_refusal Sketch s at) _ fields.0 in
    record {
      value = scalar_lawful Sketch s at refl b scalar;
      present = sketch_no_null s at b scalar;
      lower = count_lawful_law (u64_at s (at + item_lower_offset)) fields.1.0;
      error = count_lawful_law (u64_at s (at + item_error_offset)) fields.1.1.0;
    }

module _ (s : List ℕ) (items at : ℕ) (kept : sketch_refusal s items at ≡ 0) where
  abbrev n : ℕ
  n = u16_at s (at + sketch_count_offset)

  head : sketch_head_refusal s items at ≡ 0
  unfolding sketch_refusal
  head = else_first (sketch_head_refusal s items at) _ kept

  fields : Kept sketch_head_fields items s at 0
  unfolding sketch_head_refusal
  fields = record_kept sketch_head_fields items s at head

  count : n ≤ item_limit
  count = leb-true n item_limit (both_first (leb n item_limit) _ (ask_kept (leb n item_limit && leb (items + n) items_limit) 3 (omega arith) fields.1.0))

  each : (j : ℕ) → j < n → item_refusal s (at + sketch_head_size) j ≡ 0
  unfolding sketch_refusal
  each = each_kept (item_refusal s (at + sketch_head_size)) n (else_second (sketch_head_refusal s items at) _ kept)

  pub sketch_lawful : Bytes s → LawfulSketch (sketch_at s at)
  unfolding sketch_at
  sketch_lawful b = record {
    population = count_lawful_law (u64_at s at) fields.0;
    items = each_tabulate LawfulItem (sketch_item s at) n (λ j l. item_lawful s (at + sketch_head_size) j b (each j l));
    count = subst (λ (l : ℕ). l ≤ item_limit) (sym (tabulate_length (sketch_item s at) n)) count;
  }
