-- The selectivity of a value by a sketch, where it has one, lies from 0 to 1. Assumes nothing.
use Rattle.std.specs.Prelude.{Option, None, Some, IfSome, unwrap_or}
use Prim.Native.Nat.{ℕ, ◌≤◌, min}
use mathlib.Core.Path.{◌≡◌, refl}
use mathlib.Core.Bool.{Bool, true, false, cond}
use mathlib.Core.List.{List}
use native.Mathlib.Nat as Nat
use native.Mathlib.Nat.{sub-le}
use lib.IntN.{pos}
use lib.Dec.{lit≤}
use lib.ListN.{length}
use lib.Ieee.{Float, binary64, of_int, le}
use Rattle.float.specs.Order.{f64_zero, Unit01}
use Rattle.scalar.specs.Types.{is_null}
use Rattle.scalar.specs.declared.Scalar.{Scalar}
use Rattle.estimate.specs.Bytes.{LawfulFigure}
use Rattle.records.specs.Sketches.{Sketch}
use Rattle.records.specs.declared.columns.ColumnProfile.{ColumnProfile}
use Rattle.lawful.specs.Lawful.{Each, LawfulSketch}
use Rattle.units.proofs.CountLaws.{mixed_share_unit, rest_share_unit}
use Rattle.sketch.specs.declared.items.Counts.{Counts}
use Rattle.sketch.specs.Frequent.{sketch_of, find_item, tracked_rows, item_selectivity, residual_rows, residual_selectivity, found_selectivity, sketch_selectivity, numbered_selectivity, frequent_value_selectivity}
use Rattle.predicate_range.proofs.NumberRange.{either}
use Rattle.predicate_range.proofs.FoundRange.{sketch_lawful, LawfulItemFound, item_lawful}

abbrev pub NumberInUnit : Option Float → Type 0
NumberInUnit x = IfSome x Unit01

-- the number, or else a value from 0 to 1
pub unit_or : (x : Option Float) (y : Float) → NumberInUnit x → Unit01 y → Unit01 (unwrap_or x y)
unit_or None y u v = v
unit_or (Some x) y u v = u

rows_left : (x : Sketch) → residual_rows x ≤ x.population
unfolding residual_rows
rows_left x = sub-le x.population (min (tracked_rows x.items) x.population)

residual_unit : (x : Sketch) (distinct : Float) → LawfulSketch x → LawfulFigure distinct → le (of_int binary64 (pos x.population)) f64_zero ≡ false → Unit01 (residual_selectivity x distinct)
unfolding residual_selectivity
residual_unit x distinct h f e =
    rest_share_unit (residual_rows x) x.population (length x.items) distinct (Nat.le_trans (rows_left x) h.population) h.population (Nat.le_trans h.count (lit≤ tt)) f e

found_unit : (found : Option Counts) (x : Sketch) (distinct : Float) → LawfulItemFound found → LawfulSketch x → LawfulFigure distinct → le (of_int binary64 (pos x.population)) f64_zero ≡ false
    → Unit01 (found_selectivity found x distinct)
unfolding item_selectivity
found_unit None x distinct i h f e = residual_unit x distinct h f e
found_unit (Some counts) x distinct i h f e = mixed_share_unit counts.lower counts.error x.population i.0 i.1 h.population e

sketch_unit : (x : Sketch) (distinct : Float) (value : Scalar) → LawfulSketch x → LawfulFigure distinct → NumberInUnit (sketch_selectivity x distinct value)
unfolding sketch_selectivity
sketch_unit x distinct value h f = go (le (of_int binary64 (pos x.population)) f64_zero) (found_unit (find_item value x.items) x distinct (item_lawful value x.items h.items) h f)
  where
    go : (b : Bool) → (b ≡ false → Unit01 (found_selectivity (find_item value x.items) x distinct)) → NumberInUnit (cond b None (Some (found_selectivity (find_item value x.items) x distinct)))
    go true u = tt
    go false u = u refl

numbered_unit : (k : Option ℕ) (l : List Sketch) (distinct : Float) (value : Scalar) → Each LawfulSketch l → LawfulFigure distinct → NumberInUnit (numbered_selectivity k l distinct value)
numbered_unit None l distinct value h f = tt
numbered_unit (Some k) l distinct value h f = sketch_unit (sketch_of l k) distinct value (sketch_lawful l h k) f

pub frequent_unit : (l : List Sketch) (profile : ColumnProfile) (value : Scalar) → Each LawfulSketch l → LawfulFigure profile.distinct.value → NumberInUnit (frequent_value_selectivity l profile value)
unfolding frequent_value_selectivity
frequent_unit l profile value h f =
    either NumberInUnit (is_null value) None (numbered_selectivity profile.sketch l profile.distinct.value value) tt (numbered_unit profile.sketch l profile.distinct.value value h f)
