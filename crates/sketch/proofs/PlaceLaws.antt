-- Where the sketches of a section stand. Assumes nothing.
use Rattle.std.proofs.Common.{◌≡◌, ℕ, ◌+◌, ◌*◌, ◌<◌, ◌≤◌, Bool, true, false, cond, ltb, ltb-true, ltb-false, List, Option, Some, None, sym, refl, ap, ◌∙◌, subst}
use lib.ListN.{get_or-eq_default}
use lib.Ieee.{Float, of_int, le}
use Rattle.le.specs.Fields.{u16_at}
use Rattle.scalar.specs.declared.Scalar.{Scalar}
use Rattle.records.specs.Sketches.{sketch_at}
use Rattle.sheet.specs.Order.{record_end, record_at}
use Rattle.sheet.specs.Sheet.{records_in}
use Rattle.sheet.specs.declared.order.Kind.TheVariants.{Sketches}
use Rattle.sheet.proofs.PlaceLaws.{record_next}
use Rattle.sheet.proofs.SheetLaws.{records_length, record_at_law}
use Rattle.sketch.specs.Places.{numbered_place}
use Rattle.sketch.specs.Frequent.{no_sketch, sketch_of, sketch_selectivity, numbered_selectivity}

pub place_next : (s : List ℕ) (start i at : ℕ) → at ≡ record_at Sketches s start i → at + 10 + 35 * u16_at s (at + 8) ≡ record_at Sketches s start (i + 1)
unfolding record_end
place_next s start i at e = ap (record_end Sketches s) e ∙ record_next Sketches s start i

-- sketch k, read where it stands
pub sketch_there : (s : List ℕ) (start k : ℕ) → k < u16_at s start → sketch_of (records_in Sketches sketch_at s start) k ≡ sketch_at s (record_at Sketches s start k)
sketch_there s start k h = record_at_law Sketches sketch_at s start k _ h

pub sketch_past : (s : List ℕ) (start k : ℕ) → u16_at s start ≤ k → sketch_of (records_in Sketches sketch_at s start) k ≡ no_sketch
sketch_past s start k h = get_or-eq_default (records_in Sketches sketch_at s start) no_sketch (subst (λ (n : ℕ). n ≤ k) (sym (records_length Sketches sketch_at s start)) h)

-- ---- by its number

module _ (s : List ℕ) (start k : ℕ) where
  pub numbered_there : (at : ℕ) → Some at ≡ numbered_place s start (Some k) → sketch_at s at ≡ sketch_of (records_in Sketches sketch_at s start) k
  numbered_there at e = go (ltb k (u16_at s start)) refl e
    where
      go : (t : Bool) → ltb k (u16_at s start) ≡ t → ◌≡◌ {A = Option ℕ} (Some at) (cond t (Some (record_at Sketches s start k)) None) → sketch_at s at ≡ sketch_of (records_in Sketches sketch_at s start) k
      go true h e = let stands : at ≡ record_at Sketches s start k = cc in rw stands (sym (sketch_there s start k (ltb-true k (u16_at s start) h)))
      go false h e = cc

  -- the section does not hold it
  pub numbered_past : None ≡ numbered_place s start (Some k) → sketch_of (records_in Sketches sketch_at s start) k ≡ no_sketch
  numbered_past e = go (ltb k (u16_at s start)) refl e
    where
      go : (t : Bool) → ltb k (u16_at s start) ≡ t → ◌≡◌ {A = Option ℕ} None (cond t (Some (record_at Sketches s start k)) None) → sketch_of (records_in Sketches sketch_at s start) k ≡ no_sketch
      go true h e = cc
      go false h e = sketch_past s start k (ltb-false k (u16_at s start) h)

module _ (s : List ℕ) (start : ℕ) (distinct : Float) (literal : Scalar) where
  pub selected_there : (number : Option ℕ) (at : ℕ) → Some at ≡ numbered_place s start number
      → sketch_selectivity (sketch_at s at) distinct literal ≡ numbered_selectivity number (records_in Sketches sketch_at s start) distinct literal
  selected_there None at e = cc
  selected_there (Some k) at e = rw (numbered_there s start k at e) refl

  pub selected_lacking : (number : Option ℕ) → None ≡ numbered_place s start number → None ≡ numbered_selectivity number (records_in Sketches sketch_at s start) distinct literal
  unfolding sketch_selectivity of_int le
  selected_lacking None e = refl
  selected_lacking (Some k) e = rw (numbered_past s start k e) refl
