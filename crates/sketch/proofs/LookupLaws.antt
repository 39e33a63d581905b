-- Lookup finds the equal value or nothing, where all scalars are such as a sheet may hold. Assumes nothing.
use Rattle.std.proofs.Common.{◌≡◌, Bool, true, false, cond, ◌≢◌, ◌↔◌, Option, Some, None, List, [], ◌∷◌, sym, refl, ap, ◌∙◌, ⊎_elim}
use mathlib.Core.Bool.{false≢true}
use mathlib.Core.List.Memᴰ
use mathlib.Core.List.{Memᴰ}
use Rattle.scalar.specs.Types.{is_null}
use Rattle.scalar.specs.Order.{scalar_order, is_equal}
use Rattle.scalar.specs.declared.Scalar.{Scalar}
use Rattle.scalar_bytes.specs.Encoding.{lawful_scalar}
use Rattle.records.specs.declared.sketches.SketchItem.{SketchItem}
use Rattle.sketch.specs.Frequent.{counts_of, find_item}
use Rattle.sketch.specs.declared.items.Counts.{Counts}
use Rattle.sketch.proofs.EqualLaws.{equal_law}

-- a sketch may hold the item
pub record Held (x : SketchItem) : Type 0 where
  pub lawful : lawful_scalar x.value ≡ true
  pub no_null : is_null x.value ≡ false

abbrev pub AllHeld : List SketchItem → Type 0
AllHeld items = (x : SketchItem) → Memᴰ x items → Held x

-- x is the only item with its value
abbrev pub Only : SketchItem → List SketchItem → Type 0
Only x items = (y : SketchItem) → Memᴰ y items → y.value ≡ x.value → y ≡ x

abbrev told : SketchItem → Option Counts
told x = Some (counts_of x)

pub found_law : (items : List SketchItem) → AllHeld items → (x : SketchItem) → Memᴰ x items → Only x items → find_item x.value items ≡ Some (counts_of x)
unfolding find_item
found_law [] held x m only = absurd (Memᴰ.not-nil m)
found_law (y ∷ ys) held x m only =
    go (is_equal (scalar_order y.value x.value)) refl (λ k. found_law ys (λ z n. held z (Memᴰ.tail n)) x k (λ z n. only z (Memᴰ.tail n)))
  where
    here : Memᴰ y (y ∷ ys)
    here = Memᴰ.head refl

    law : (is_equal (scalar_order y.value x.value) ≡ true) ↔ (y.value ≡ x.value)
    law = equal_law y.value x.value (held y here).lawful (held x m).lawful (held y here).no_null

    go : (t : Bool) → is_equal (scalar_order y.value x.value) ≡ t → (Memᴰ x ys → find_item x.value ys ≡ told x) → cond t (told y) (find_item x.value ys) ≡ told x
    go true e rest = ap told (only y here (law.0 e))
    go false e rest = ⊎_elim (λ (s : x ≡ y). absurd (false≢true (sym e ∙ law.1 (ap (λ (z : SketchItem). z.value) (sym s))))) rest (Memᴰ.cases_cons m)

pub absent_law : (items : List SketchItem) (value : Scalar) → AllHeld items → lawful_scalar value ≡ true
    → ((x : SketchItem) → Memᴰ x items → x.value ≢ value) → find_item value items ≡ None
unfolding find_item
absent_law [] value held l none = refl
absent_law (y ∷ ys) value held l none =
    go (is_equal (scalar_order y.value value)) refl (absent_law ys value (λ z n. held z (Memᴰ.tail n)) l (λ z n. none z (Memᴰ.tail n)))
  where
    here : Memᴰ y (y ∷ ys)
    here = Memᴰ.head refl

    go : (t : Bool) → is_equal (scalar_order y.value value) ≡ t → find_item value ys ≡ None → cond t (told y) (find_item value ys) ≡ None
    go true e rest = absurd (none y here ((equal_law y.value value (held y here).lawful l (held y here).no_null).0 e))
    go false e rest = rest
