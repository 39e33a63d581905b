-- The fields of sketches. Definitions only.
use Rattle.std.specs.Prelude.{ℕ, ◌+◌, ◌*◌, Bool, not, ◌&&◌, List, [], ◌∷◌, leb, eqb}
use Rattle.le.specs.Fields.{field_at, u16_at, u64_at}
use Rattle.rules.specs.Rules.{ask, or_else, first_refusal}
use Rattle.layout.specs.Places.{item_limit, items_limit, scalar_size, sketch_count_offset, sketch_head_size, item_size}
use Rattle.layout.specs.Fields.{Field, number, wide, fields_refusal}
use Rattle.scalar_bytes.specs.Reading.{scalar_refusal}
use Rattle.scalar_bytes.specs.Fields.{scalar}
use Rattle.scalar_bytes.specs.declared.reads.ScalarPlace.TheVariants.{Sketch}
use Rattle.records.specs.declared.sketches.SketchHead.{SketchHead}
use Rattle.records.specs.declared.sketches.SketchItem.{SketchItem}
use Rattle.record_rules.specs.Fields.{count_lawful}

abbrev pub wide_count_refusal : List ℕ → ℕ → ℕ
wide_count_refusal s at = ask (count_lawful (u64_at s at)) 4

-- ---- items

-- one value by its bytes: of scalars that keep the scalar rules that is equality (`same_value_law`)
abbrev pub same_value : List ℕ → ℕ → ℕ → Bool
same_value s a b = eqb (field_at scalar_size s a) (field_at scalar_size s b)

-- the first item is at `first`: items i and j do not hold one value
unfoldable pub alike_refusal : List ℕ → ℕ → ℕ → ℕ → ℕ
alike_refusal s first j i = ask (not (same_value s (first + item_size * i) (first + item_size * j))) 7

-- item j
pub record ItemPlace : Type 0 where
  pub first : ℕ
  pub j : ℕ

-- a scalar that no item before it holds
abbrev pub item_value_refusal : ItemPlace → List ℕ → ℕ → ℕ
item_value_refusal c s at = or_else (scalar_refusal Sketch s at) (first_refusal (alike_refusal s c.first c.j) 0 c.j)

abbrev pub item_fields : List (Field ItemPlace SketchItem)
item_fields =
    scalar (λ x. x.value) item_value_refusal
    ∷ wide (λ x. x.lower) (λ c. wide_count_refusal)
    ∷ wide (λ x. x.error) (λ c. wide_count_refusal)
    ∷ []

unfoldable pub item_refusal : List ℕ → ℕ → ℕ → ℕ
unfolding scalar_refusal first_refusal alike_refusal
item_refusal s first j = fields_refusal item_fields (record { first = first; j = j }) s (first + item_size * j)

-- ---- the head

-- the sketches before hold so many items
abbrev pub item_count_refusal : ℕ → List ℕ → ℕ → ℕ
item_count_refusal items s at = let n = u16_at s at in ask (leb n item_limit && leb (items + n) items_limit) 3

abbrev pub sketch_head_fields : List (Field ℕ SketchHead)
sketch_head_fields =
    wide (λ x. x.population) (λ items. wide_count_refusal)
    ∷ number (λ x. x.count) item_count_refusal
    ∷ []

unfoldable pub sketch_head_refusal : List ℕ → ℕ → ℕ → ℕ
sketch_head_refusal s items = fields_refusal sketch_head_fields items s

unfoldable pub sketch_refusal : List ℕ → ℕ → ℕ → ℕ
unfolding sketch_head_refusal first_refusal item_refusal
sketch_refusal s items at = or_else (sketch_head_refusal s items at) (first_refusal (item_refusal s (at + sketch_head_size)) 0 (u16_at s (at + sketch_count_offset)))
