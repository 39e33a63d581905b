-- What two sketches tell of a join lies from 0 to 1; where they tell nothing, 0 stands in its place. Sums over the items of a sketch, of which there are 64 at most, stay far below the largest floats. Assumes nothing.
use Rattle.std.specs.Prelude.{None, Some, Option}
use Prim.Native.Nat.{ℕ, zero, suc, ◌+◌, ◌^◌, ◌≤◌}
use mathlib.Core.Path.{◌≡◌, refl}
use mathlib.Core.Bool.{Bool, true, false, ◌&&◌, ◌||◌, cond, true≢false}
use mathlib.Core.List.{List, [], ◌∷◌}
use native.Mathlib.Nat as Nat
use native.Mathlib.Nat.{zero-lt-suc}
use native.Mathlib.Omega.{arith}
use lib.IntN.{pos}
use lib.Dec.{T, eqb, ltb, lit≤}
use lib.ListN.{length}
use lib.Ieee.{Float, binary64, of_int, add, sub, mul, div, lt}
use lib.Ieee.Fits.{div-fits}
use Rattle.float.specs.Order.{f64_zero, f64_one, f64_max, f64_min, Unit01}
use Rattle.estimate.specs.Bytes.{LawfulFigure}
use Rattle.records.specs.Sketches.{Sketch}
use Rattle.records.specs.declared.sketches.SketchItem.{SketchItem}
use Rattle.records.specs.declared.columns.ColumnProfile.{ColumnProfile}
use Rattle.sketch_rules.specs.Lawful.{LawfulItem}
use Rattle.lawful.specs.Lawful.{Each, LawfulSketch}
use Rattle.units.specs.Sizes.{UpTo, AtLeast}
use Rattle.units.proofs.SizeLaws.{up_to_more, unit_up_to, zero_up_to, one_up_to, add_up_to, mul_up_to, div_up_to, max_at_least, count_up_to, count_at_least, at_least_positive, clamped_up_to}
use Rattle.units.proofs.SpreadLaws.{sub_nonneg_spread, up_to_stepped, spread_max_zero}
use Rattle.units.proofs.CountLaws.{rest_max_one}
use Rattle.sketch.specs.declared.items.Counts.{Counts}
use Rattle.sketch.specs.Frequent.{sketch_of, find_item}
use Rattle.range.specs.Selectivity.{non_null_fraction}
use Rattle.predicate_range.proofs.NumberRange.{either}
use Rattle.predicate_range.proofs.FoundRange.{sketch_lawful, LawfulItemFound, item_lawful}
use Rattle.predicate_range.proofs.ColumnRange.{fraction_unit}
use Rattle.predicate_range.proofs.SketchRange.{NumberInUnit}
use Rattle.sketch_join.specs.SketchJoin.{non_null_rows, with_common, summed, common_from, common_values, residual_join_rows, pair_selectivity, either_empty, sketches_join, numbered_join, sketch_join_estimate, with_matched, matched_from, matched_values, residual_matched_left_rows, match_probability, sketches_match, numbered_match, sketch_left_match_probability}
use Rattle.sketch_join.specs.declared.sums.CommonValues.{CommonValues}
use Rattle.sketch_join.specs.declared.sums.MatchedValues.{MatchedValues}
use Rattle.join_range.proofs.EachLaws.{each_first, each_rest}
use Rattle.join_range.proofs.ClearLaws.{clear, add_clear, div_clear, ratio_clear, clear_clamped}
use Rattle.join_range.proofs.ProductLaws.{mul_at_least}

abbrev count : ℕ → Float
count n = of_int binary64 (pos n)

pub neither : (a b : Bool) → (a || b) ≡ false → (a ≡ false) × (b ≡ false)
neither true b e = absurd (true≢false e)
neither false b e = (refl, e)

-- ---- counts and rows
count_some : (n : ℕ) → n ≤ 2 ^ 53 → eqb n 0 ≡ false → AtLeast 0 (of_int binary64 (pos n))
count_some zero k e = absurd (true≢false e)
count_some (suc n) k e = count_at_least (suc n) (zero-lt-suc n) (count_up_to 53 (suc n) (lit≤ tt) k).low

-- what is left of one, or 0
rest_up_to : (h : ℕ) (x y : Float) → h ≤ 1023 → UpTo h x → UpTo h y → UpTo h (f64_max (sub binary64 x y) f64_zero)
rest_up_to h x y H u v = spread_max_zero 1074 h (sub binary64 x y) (sub_nonneg_spread 1074 h x y (lit≤ tt) H u.low v.low (up_to_stepped h x u) (up_to_stepped h y v))

rows_up_to : (sketch : Sketch) (profile : ColumnProfile) (rows : Float) → LawfulSketch sketch → LawfulFigure profile.frequency.value → LawfulFigure rows → UpTo 53 (non_null_rows sketch profile rows)
unfolding non_null_rows
rows_up_to sketch profile rows l f r =
    let fraction = non_null_fraction profile.frequency.value rows in
    mul_up_to 53 0 (count sketch.population) fraction (lit≤ tt) (count_up_to 53 sketch.population (lit≤ tt) l.population) (unit_up_to fraction (fraction_unit profile.frequency.value rows f r))

-- ---- values that both sketches track
record CommonUpTo (h : ℕ) (sums : CommonValues) : Type 0 where
  heavy : UpTo h sums.heavy_join_rows
  left : UpTo h sums.common_left_rows
  right : UpTo h sums.common_right_rows
  values : sums.common_values ≤ h

common_more : (h k : ℕ) (sums : CommonValues) → h ≤ k → CommonUpTo h sums → CommonUpTo k sums
common_more h k sums l c = record {
  heavy = up_to_more h k sums.heavy_join_rows l c.heavy;
  left = up_to_more h k sums.common_left_rows l c.left;
  right = up_to_more h k sums.common_right_rows l c.right;
  values = Nat.le_trans c.values l;
}

one_more : (h n : ℕ) → h + suc n ≤ 170 → suc h + n ≤ 170
one_more h n l = omega arith

below_all : (h n : ℕ) → h + n ≤ 170 → h ≤ 170
below_all h n l = omega arith

within : (h n : ℕ) → h + suc n ≤ 170 → suc h ≤ 1023
within h n l = omega arith

later : (h : ℕ) → 106 ≤ h → 106 ≤ suc h
later h l = omega arith

values_more : (v h : ℕ) → v ≤ h → v + 1 ≤ suc h
values_more v h l = omega arith

with_common_law : (h : ℕ) (sums : CommonValues) (lower : ℕ) (found : Option Counts) → 106 ≤ h → suc h ≤ 1023 → lower ≤ 2 ^ 53 → LawfulItemFound found → CommonUpTo h sums → CommonUpTo (suc h) (with_common sums lower found)
unfolding with_common
with_common_law h sums lower None a b l i c = common_more h (suc h) sums (Nat.le-suc h) c
with_common_law h sums lower (Some other) a b l i c =
    let u = count_up_to 53 lower (lit≤ tt) l in
    let v = count_up_to 53 other.lower (lit≤ tt) i.0 in
    let few : 53 ≤ h = Nat.le_trans (lit≤ tt) a in
    either (CommonUpTo (suc h)) (lt f64_zero (count lower) && lt f64_zero (count other.lower)) _ sums
    (record {
      heavy = add_up_to h sums.heavy_join_rows (mul binary64 (count lower) (count other.lower)) b c.heavy (up_to_more 106 h (mul binary64 (count lower) (count other.lower)) a (mul_up_to 53 53 (count lower) (count other.lower) (lit≤ tt) u v));
      left = add_up_to h sums.common_left_rows (count lower) b c.left (up_to_more 53 h (count lower) few u);
      right = add_up_to h sums.common_right_rows (count other.lower) b c.right (up_to_more 53 h (count other.lower) few v);
      values = values_more sums.common_values h c.values;
    })
    (common_more h (suc h) sums (Nat.le-suc h) c)

common_up_to : (h : ℕ) (sums : CommonValues) (left right : List SketchItem) → 106 ≤ h → h + length left ≤ 170 → Each LawfulItem left → Each LawfulItem right → CommonUpTo h sums → CommonUpTo 170 (common_from sums left right)
unfolding summed
common_up_to h sums [] right a b l r c = common_more h 170 sums (below_all h 0 b) c
common_up_to h sums (x ∷ xs) right a b l r c =
    let found = find_item x.value right in
    common_up_to (suc h) (with_common sums x.lower found) xs right (later h a) (one_more h (length xs) b) (each_rest LawfulItem x xs l) r
    (with_common_law h sums x.lower found a (within h (length xs) b) (each_first LawfulItem x xs l).lower (item_lawful x.value right r) c)

no_common : CommonUpTo 106 (record { heavy_join_rows = f64_zero; common_left_rows = f64_zero; common_right_rows = f64_zero; common_values = 0 })
no_common = record { heavy = zero_up_to 106; left = zero_up_to 106; right = zero_up_to 106; values = lit≤ tt }

items_few : (n : ℕ) → n ≤ 64 → 106 + n ≤ 170
items_few n l = omega arith

values_up_to : (left right : Sketch) → LawfulSketch left → LawfulSketch right → CommonUpTo 170 (common_values left.items right.items)
values_up_to left right l r = common_up_to 106 _ left.items right.items (lit≤ tt) (items_few (length left.items) l.count) l.items r.items no_common

-- ---- the selectivity of a pair of rows
residual_up_to : (sums : CommonValues) (left_rows right_rows left_distinct right_distinct : Float) → CommonUpTo 170 sums → UpTo 53 left_rows → UpTo 53 right_rows → LawfulFigure left_distinct → LawfulFigure right_distinct
    → UpTo 340 (residual_join_rows sums left_rows right_rows left_distinct right_distinct)
unfolding residual_join_rows
residual_up_to sums left_rows right_rows left_distinct right_distinct c u v f g =
    let n = sums.common_values in
    let few : n ≤ 2 ^ 64 = Nat.le_trans c.values (lit≤ tt) in
    let x = f64_max (sub binary64 left_rows sums.common_left_rows) f64_zero in
    let y = f64_max (sub binary64 right_rows sums.common_right_rows) f64_zero in
    let p = f64_max (sub binary64 left_distinct (count n)) f64_one in
    let q = f64_max (sub binary64 right_distinct (count n)) f64_one in
    let a = rest_max_one left_distinct n f few in
    let b = rest_max_one right_distinct n g few in
    div_up_to 340 0 (mul binary64 x y) (f64_max p q) (lit≤ tt)
    (mul_up_to 170 170 x y (lit≤ tt) (rest_up_to 170 left_rows sums.common_left_rows (lit≤ tt) (up_to_more 53 170 left_rows (lit≤ tt) u) c.left) (rest_up_to 170 right_rows sums.common_right_rows (lit≤ tt) (up_to_more 53 170 right_rows (lit≤ tt) v) c.right))
    (max_at_least 0 p q a.0.low b.1)

pair_unit : (left right : Sketch) (sums : CommonValues) (residual : Float) → LawfulSketch left → LawfulSketch right → CommonUpTo 170 sums → UpTo 340 residual → either_empty left right ≡ false → Unit01 (pair_selectivity left right sums residual)
unfolding pair_selectivity
pair_unit left right sums residual l r c u e =
    let n = neither (eqb left.population 0) (eqb right.population 0) e in
    let x = count left.population in
    let y = count right.population in
    let a = count_some left.population l.population n.0 in
    let b = count_some right.population r.population n.1 in
    let m = mul_up_to 53 53 x y (lit≤ tt) (count_up_to 53 left.population (lit≤ tt) l.population) (count_up_to 53 right.population (lit≤ tt) r.population) in
    let rows = add binary64 sums.heavy_join_rows residual in
    clamped_up_to 341 (div binary64 rows (mul binary64 x y))
    (div_up_to 341 0 rows (mul binary64 x y) (lit≤ tt) (add_up_to 340 sums.heavy_join_rows residual (lit≤ tt) (up_to_more 170 340 sums.heavy_join_rows (lit≤ tt) c.heavy) u) (mul_at_least 0 0 x y (lit≤ tt) a b m.low))

some_unit : (b : Bool) (x : Float) → (b ≡ false → Unit01 x) → NumberInUnit (cond b None (Some x))
some_unit true x u = tt
some_unit false x u = u refl

-- ---- the part of the left rows that find a partner
record MatchedUpTo (h : ℕ) (sums : MatchedValues) : Type 0 where
  known : UpTo h sums.known_matched_left_rows
  common : UpTo h sums.common_values

matched_more : (h k : ℕ) (sums : MatchedValues) → h ≤ k → MatchedUpTo h sums → MatchedUpTo k sums
matched_more h k sums l c = record { known = up_to_more h k sums.known_matched_left_rows l c.known; common = up_to_more h k sums.common_values l c.common }

with_matched_law : (h : ℕ) (sums : MatchedValues) (lower : ℕ) (found : Option Counts) → 106 ≤ h → suc h ≤ 1023 → lower ≤ 2 ^ 53 → MatchedUpTo h sums → MatchedUpTo (suc h) (with_matched sums lower found)
unfolding with_matched
with_matched_law h sums lower None a b l c = matched_more h (suc h) sums (Nat.le-suc h) c
with_matched_law h sums lower (Some other) a b l c =
    either (MatchedUpTo (suc h)) (lt f64_zero (count lower) && ltb 0 other.lower) _ sums
    (record {
      known = add_up_to h sums.known_matched_left_rows (count lower) b c.known (up_to_more 53 h (count lower) (Nat.le_trans (lit≤ tt) a) (count_up_to 53 lower (lit≤ tt) l));
      common = add_up_to h sums.common_values f64_one b c.common (one_up_to h);
    })
    (matched_more h (suc h) sums (Nat.le-suc h) c)

matched_from_law : (h : ℕ) (sums : MatchedValues) (left right : List SketchItem) → 106 ≤ h → h + length left ≤ 170 → Each LawfulItem left → MatchedUpTo h sums → MatchedUpTo 170 (matched_from sums left right)
unfolding summed
matched_from_law h sums [] right a b l c = matched_more h 170 sums (below_all h 0 b) c
matched_from_law h sums (x ∷ xs) right a b l c =
    let found = find_item x.value right in
    matched_from_law (suc h) (with_matched sums x.lower found) xs right (later h a) (one_more h (length xs) b) (each_rest LawfulItem x xs l)
    (with_matched_law h sums x.lower found a (within h (length xs) b) (each_first LawfulItem x xs l).lower c)

matched_up_to : (left right : Sketch) → LawfulSketch left → MatchedUpTo 170 (matched_values left.items right.items)
matched_up_to left right l =
    matched_from_law 106 _ left.items right.items (lit≤ tt) (items_few (length left.items) l.count) l.items (record { known = zero_up_to 106; common = zero_up_to 106 })

-- the rows beyond those known are divided by what may be a very small number
residual_clear : (sums : MatchedValues) (rows intersection distinct : Float) → MatchedUpTo 170 sums → UpTo 53 rows → UpTo 64 intersection → UpTo 64 distinct → T (clear (residual_matched_left_rows sums rows intersection distinct))
unfolding residual_matched_left_rows
residual_clear sums rows intersection distinct c u v w =
    let k = sums.common_values in
    let x = f64_max (sub binary64 rows sums.known_matched_left_rows) f64_zero in
    let d = f64_max (sub binary64 distinct k) f64_zero in
    let r = f64_max (sub binary64 intersection k) f64_zero in
    let a = rest_up_to 170 rows sums.known_matched_left_rows (lit≤ tt) (up_to_more 53 170 rows (lit≤ tt) u) c.known in
    let b = rest_up_to 170 distinct k (lit≤ tt) (up_to_more 64 170 distinct (lit≤ tt) w) c.common in
    let i = either (UpTo 170) (lt d r) d r b (rest_up_to 170 intersection k (lit≤ tt) (up_to_more 64 170 intersection (lit≤ tt) v) c.common) in
    ratio_clear (mul binary64 x (f64_min r d)) d (mul_up_to 170 170 x (f64_min r d) (lit≤ tt) a i).low b.low

match_unit : (left : Sketch) (sums : MatchedValues) (residual : Float) → LawfulSketch left → MatchedUpTo 170 sums → T (clear residual) → eqb left.population 0 ≡ false → Unit01 (match_probability left sums residual)
unfolding match_probability
match_unit left sums residual l c r e =
    let known = sums.known_matched_left_rows in
    let n = count left.population in
    clear_clamped (div binary64 (add binary64 known residual) n) (div-fits binary64 (add binary64 known residual) n)
    (div_clear (add binary64 known residual) n (add_clear known residual c.known.low r) (at_least_positive 0 n (count_some left.population l.population e)))

-- ---- by the columns' sketches
module _ (sketches : List Sketch) (l : Each LawfulSketch sketches) (left right : ColumnProfile) (left_rows right_rows : Float) (lf : LawfulFigure left.frequency.value) (lr : LawfulFigure left_rows) where
  module _ (rf : LawfulFigure right.frequency.value) (rr : LawfulFigure right_rows) (ld : LawfulFigure left.distinct.value) (rd : LawfulFigure right.distinct.value) where
    sketches_join_law : (x y : Sketch) → LawfulSketch x → LawfulSketch y → NumberInUnit (sketches_join x y left left_rows right right_rows)
    unfolding sketches_join
    sketches_join_law x y a b =
        let sums = common_values x.items y.items in
        let c = values_up_to x y a b in
        let p = non_null_rows x left left_rows in
        let q = non_null_rows y right right_rows in
        let residual = residual_join_rows sums p q left.distinct.value right.distinct.value in
        some_unit (either_empty x y) (pair_selectivity x y sums residual)
        (pair_unit x y sums residual a b c (residual_up_to sums p q left.distinct.value right.distinct.value c (rows_up_to x left left_rows a lf lr) (rows_up_to y right right_rows b rf rr) ld rd))

    numbered_join_law : (i j : Option ℕ) → NumberInUnit (numbered_join i j sketches left left_rows right right_rows)
    numbered_join_law None j = tt
    numbered_join_law (Some i) None = tt
    numbered_join_law (Some i) (Some j) = sketches_join_law (sketch_of sketches i) (sketch_of sketches j) (sketch_lawful sketches l i) (sketch_lawful sketches l j)

    pub sketch_join_unit : NumberInUnit (sketch_join_estimate sketches left left_rows right right_rows)
    unfolding sketch_join_estimate
    sketch_join_unit = numbered_join_law left.sketch right.sketch

  module _ (intersection distinct : Float) (u : UpTo 64 intersection) (v : UpTo 64 distinct) where
    sketches_match_law : (x y : Sketch) → LawfulSketch x → NumberInUnit (sketches_match x y left left_rows intersection distinct)
    unfolding sketches_match
    sketches_match_law x y a =
        let sums = matched_values x.items y.items in
        let c = matched_up_to x y a in
        let rows = non_null_rows x left left_rows in
        let residual = residual_matched_left_rows sums rows intersection distinct in
        some_unit (either_empty x y) (match_probability x sums residual)
        (λ e. match_unit x sums residual a c (residual_clear sums rows intersection distinct c (rows_up_to x left left_rows a lf lr) u v) (neither (eqb x.population 0) (eqb y.population 0) e).0)

    numbered_match_law : (i j : Option ℕ) → NumberInUnit (numbered_match i j sketches left left_rows intersection distinct)
    numbered_match_law None j = tt
    numbered_match_law (Some i) None = tt
    numbered_match_law (Some i) (Some j) = sketches_match_law (sketch_of sketches i) (sketch_of sketches j) (sketch_lawful sketches l i)

    pub sketch_match_unit : NumberInUnit (sketch_left_match_probability sketches left left_rows right intersection distinct)
    unfolding sketch_left_match_probability
    sketch_match_unit = numbered_match_law left.sketch right.sketch
