-- What is lawful as a sketch's head and as an item. Definitions only.
use Rattle.std.specs.Prelude.{ℕ, ◌+◌, ◌≤◌, ◌≡◌, true, false}
use Rattle.layout.specs.Places.{count_limit, item_limit, items_limit}
use Rattle.scalar.specs.Types.{is_null}
use Rattle.scalar_bytes.specs.Encoding.{lawful_scalar}
use Rattle.records.specs.declared.sketches.SketchHead.{SketchHead}
use Rattle.records.specs.declared.sketches.SketchItem.{SketchItem}

-- the sketches before hold so many items
pub record LawfulSketchHead (items : ℕ) (x : SketchHead) : Type 0 where
  pub population : x.population ≤ count_limit
  pub count : x.count ≤ item_limit
  pub sum : items + x.count ≤ items_limit

pub record LawfulItem (x : SketchItem) : Type 0 where
  pub value : lawful_scalar x.value ≡ true
  pub present : is_null x.value ≡ false
  pub lower : x.lower ≤ count_limit
  pub error : x.error ≤ count_limit
