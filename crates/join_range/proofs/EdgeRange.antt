-- What one equality comes to: its selectivity and the part of the left rows that find a partner lie from 0 to 1, and its coverage in its ranges. Assumes nothing.
use Rattle.std.specs.Prelude.{Option, None, Some, IfSome, unwrap_or}
use Rattle.std.proofs.lemmas.Option.{IfSome_then}
use Prim.Native.Nat.{ℕ}
use mathlib.Core.Path.{◌≡◌, refl}
use mathlib.Core.Bool.{Bool, true, false, not, ◌&&◌, ◌||◌, cond}
use lib.Dec.{T, eqb, lit≤}
use lib.ListN.{length}
use lib.Ieee.{Float, binary64, add, sub, mul, div, lt, le, fits}
use lib.Ieee.Fits.{and_l, and_r}
use Rattle.float.specs.Order.{f64_zero, f64_one, f64_max, nonneg, Unit01}
use Rattle.float.proofs.NonNegLaws.{le_trans}
use Rattle.float.proofs.UnitLaws.{zero_unit, one_unit, mul_unit}
use Rattle.estimate.specs.Bytes.{LawfulFigure}
use Rattle.estimate.specs.declared.Estimate.{Estimate}
use Rattle.records.specs.declared.columns.BaseColumn.{BaseColumn}
use Rattle.records.specs.declared.columns.ColumnProfile.{ColumnProfile}
use Rattle.sheet.specs.Sheet.{Sheet}
use Rattle.record_rules.specs.Lawful.{LawfulColumn}
use Rattle.lawful.specs.Lawful.{LawfulSheet}
use Rattle.units.specs.Sizes.{UpTo, AtLeast}
use Rattle.units.proofs.SizeLaws.{up_to_more, unit_up_to, zero_up_to, add_up_to, mul_up_to, div_up_to, clamped_up_to}
use Rattle.units.proofs.FigureLaws.{figure_up_to, figure_at_least, figure_max, figure_max_one_order, share_unit}
use Rattle.units.proofs.UnitOperations.{complement_unit, quotient_unit}
use Rattle.std.specs.Prelude.{Option, None, Some}
use Rattle.std.specs.Option.{option_or}
use Rattle.lookup.specs.Lookup.{ProfileAndRows, left_profile, right_profile, profile_and_rows}
use Rattle.interval.specs.Intersection.{estimated_distinct_intersection}
use Rattle.interval.specs.declared.intersection.DistinctIntersection.{DistinctIntersection}
use Rattle.fraction_range.specs.Distinct.{DistinctWithin}
use Rattle.fraction_range.proofs.DistinctLaws.{max_left, intersection_within}
use Rattle.predicate_range.proofs.NumberRange.{either}
use Rattle.predicate_range.proofs.FoundRange.{LawfulFound, profile_in_lawful, profile_lawful}
use Rattle.predicate_range.proofs.ColumnRange.{fraction_unit}
use Rattle.predicate_range.proofs.SketchRange.{NumberInUnit}
use Rattle.sketch_join.specs.SketchJoin.{sketch_join_estimate, sketch_left_match_probability}
use Rattle.keys.specs.Keys.{is_catalog, has_rows, row_count, single_column_unique, single_column_foreign_key, profile_has_complete_base_population, distinct_by_base, effective_join_distinct}
use Rattle.edge.specs.Oriented.{OrientedColumns, oriented_as, oriented_join_columns, distinct_or_one, join_column_distinct, fraction_or_one, join_column_non_null_fraction}
use Rattle.edge.specs.Inputs.{has_null, null_pair_selectivity, null_match_probability, edge_inputs}
use Rattle.edge.specs.Figures.{disjoint_estimate, foreign_key_estimate, equal_non_null, uniform_pair_selectivity, uniform_non_null_match_probability, at_least_uniform, overlap_estimate}
use Rattle.edge.specs.Edge.{unoriented_estimate, bases_referenced, is_reference, unless_null_safe, estimate_by_sketches, estimate_by_inputs, oriented_estimate, estimate_as, equality_edge_estimate}
use Rattle.edge.specs.declared.EqualityEdge.{EqualityEdge}
use Rattle.edge.specs.declared.EdgeInputs.{EdgeInputs}
use Rattle.join_range.specs.Range.{EdgeInRange, EdgeEstimateInRange}
use Rattle.join_range.proofs.ClearLaws.{level_from_one}
use Rattle.join_range.proofs.ProductLaws.{mul_at_least}
use Rattle.join_range.proofs.ShareLaws.{shared_up_to, shared_below, share_up_to, share_in_unit}
use Rattle.join_range.proofs.SketchJoinRange.{neither, sketch_join_unit, sketch_match_unit}

one_figure : LawfulFigure f64_one
unfolding fits le
one_figure = record { held = tt; lawful = tt }

-- ---- columns
distinct_figure : (n : ℕ) (found : Option ProfileAndRows) → LawfulFound n found → LawfulFigure (distinct_or_one found)
distinct_figure n None f = one_figure
distinct_figure n (Some (profile, rows)) f = f.0.distinct.value

fraction_in_unit : (n : ℕ) (found : Option ProfileAndRows) → LawfulFound n found → Unit01 (fraction_or_one found)
fraction_in_unit n None f = one_unit
fraction_in_unit n (Some (profile, rows)) f = fraction_unit profile.frequency.value rows f.0.frequency.value f.1

abbrev LawfulOriented : ℕ → Option OrientedColumns → Type 0
LawfulOriented n None = Unit {0}
LawfulOriented n (Some columns) = LawfulColumn n columns.left × LawfulColumn n columns.right

as_lawful : (n left_column right_column : ℕ) (x y : Option ProfileAndRows) → LawfulFound n x → LawfulFound n y → LawfulOriented n (oriented_as left_column right_column x y)
as_lawful n left_column right_column None y f g = tt
as_lawful n left_column right_column (Some (left, left_rows)) None f g = tt
as_lawful n left_column right_column (Some (left, left_rows)) (Some (right, right_rows)) f g = (f.0, g.0)

or_else_lawful : (n : ℕ) (x y : Option OrientedColumns) → LawfulOriented n x → LawfulOriented n y → LawfulOriented n (option_or x y)
or_else_lawful n None y f g = g
or_else_lawful n (Some columns) y f g = f

-- ---- the inputs
record InputsInRange (x : EdgeInputs) : Type 0 where
  left : LawfulFigure x.left_distinct
  right : LawfulFigure x.right_distinct
  left_non_null : Unit01 x.left_non_null
  right_non_null : Unit01 x.right_non_null
  null_pair : Unit01 x.null_pair_selectivity
  null_match : Unit01 x.null_match_probability

null_pair_unit : (nulls : Bool) (x y : Float) → Unit01 x → Unit01 y → Unit01 (null_pair_selectivity nulls x y)
unfolding null_pair_selectivity
null_pair_unit nulls x y u v =
    let a = sub binary64 f64_one x in
    let b = sub binary64 f64_one y in
    either Unit01 nulls (mul binary64 a b) f64_zero (mul_unit a b (complement_unit x u) (complement_unit y v)) zero_unit

null_match_unit : (nulls : Bool) (x : Float) → Unit01 x → Unit01 (null_match_probability nulls x)
unfolding null_match_probability
null_match_unit nulls x u = either Unit01 nulls (sub binary64 f64_one x) f64_zero (complement_unit x u) zero_unit

-- ---- disjoint domains
zero_below_max : (x : Float) → LawfulFigure x → T (le f64_zero (f64_max x f64_one))
zero_below_max x f =
    let u = figure_max_one_order x f in
    le_trans f64_zero f64_one (f64_max x f64_one) tt tt u.low zero_unit.high u.above

disjoint_range : (x : EdgeInputs) → InputsInRange x → EdgeEstimateInRange (disjoint_estimate x)
unfolding disjoint_estimate
disjoint_range x r = record {
  pair_selectivity = r.null_pair;
  left_match_probability = r.null_match;
  left_coverage = record {
    input_distinct = r.left;
    input_non_null_fraction = r.left_non_null;
    intersection_distinct = zero_up_to 64;
    intersection_below = zero_below_max x.left_distinct r.left;
    non_null_match_probability = zero_up_to 64;
    match_in_unit = λ k. zero_unit;
    null_match_probability = r.null_match;
  };
}

-- ---- a foreign key: the right rows are the whole number of a table's
rows_from_one : (x : Float) (count : Option ℕ) → T (nonneg x) → lt f64_zero x ≡ true → T (has_rows x count) → T (le f64_one x)
rows_from_one x None p k h = absurd h
rows_from_one x (Some n) p k h = level_from_one x n p k h

module _ (sheet : Sheet) (p : T (nonneg sheet.right_rows.value)) (k : lt f64_zero sheet.right_rows.value ≡ true) where
  population_from_one : (table : ℕ) → T (profile_has_complete_base_population sheet sheet.right_rows table) → T (le f64_one sheet.right_rows.value)
  unfolding profile_has_complete_base_population
  population_from_one table h =
      let count = row_count table sheet.tables in
      rows_from_one sheet.right_rows.value count p k (and_r (is_catalog sheet.right_rows.source) (has_rows sheet.right_rows.value count) h)

  bases_from_one : (left right : Option BaseColumn) → T (bases_referenced sheet left right) → T (le f64_one sheet.right_rows.value)
  bases_from_one None right h = absurd h
  bases_from_one (Some column) None h = absurd h
  bases_from_one (Some column) (Some referenced) h =
      population_from_one referenced.table (and_r (single_column_foreign_key sheet column referenced) (profile_has_complete_base_population sheet sheet.right_rows referenced.table) h)

is_true : (b : Bool) → T b → b ≡ true
is_true true t = refl
is_true false t = absurd t

reference_from_one : (sheet : Sheet) (null_safe : Bool) (left right : Option BaseColumn) → T (nonneg sheet.right_rows.value) → T (is_reference sheet null_safe left right) → T (le f64_one sheet.right_rows.value)
unfolding is_reference
reference_from_one sheet null_safe left right p h =
    let some = lt f64_zero sheet.right_rows.value in
    let t = and_r (not null_safe) (some && bases_referenced sheet left right) h in
    bases_from_one sheet p (is_true some (and_l some (bases_referenced sheet left right) t)) left right (and_r some (bases_referenced sheet left right) t)

foreign_range : (x : EdgeInputs) (rows : Float) → InputsInRange x → T (nonneg rows) → T (le f64_one rows) → EdgeEstimateInRange (foreign_key_estimate x rows)
unfolding foreign_key_estimate
foreign_range x rows r p k = record {
  pair_selectivity = either Unit01 (le rows f64_zero) f64_zero (div binary64 x.left_non_null rows) zero_unit (quotient_unit x.left_non_null rows r.left_non_null p k);
  left_match_probability = r.left_non_null;
  left_coverage = record {
    input_distinct = r.left;
    input_non_null_fraction = r.left_non_null;
    intersection_distinct = figure_up_to x.left_distinct r.left;
    intersection_below = max_left x.left_distinct f64_one (figure_up_to x.left_distinct r.left).low;
    non_null_match_probability = up_to_more 0 64 x.left_non_null (lit≤ tt) (unit_up_to x.left_non_null r.left_non_null);
    match_in_unit = λ k. r.left_non_null;
    null_match_probability = zero_unit;
  };
}

-- ---- every other equality
pair_or : (x : Option Float) (y : Float) → NumberInUnit x → UpTo 193 y → UpTo 193 (unwrap_or x y)
pair_or None y u v = v
pair_or (Some x) y u v = up_to_more 0 193 x (lit≤ tt) (unit_up_to x u)

module _ (x : EdgeInputs) (r : InputsInRange x) (intersection : Float) (w : DistinctWithin x.left_distinct x.right_distinct intersection) where
  abbrev left : Float
  left = x.left_distinct

  abbrev right : Float
  right = x.right_distinct

  abbrev part : Float
  part = mul binary64 x.left_non_null x.right_non_null

  equal_up_to : UpTo 192 (equal_non_null x intersection)
  unfolding equal_non_null
  equal_up_to = go (le left f64_zero || le right f64_zero) (neither (le left f64_zero) (le right f64_zero))
    where
      go : (b : Bool) → (b ≡ false → (le left f64_zero ≡ false) × (le right f64_zero ≡ false)) → UpTo 192 (cond b f64_zero (div binary64 (mul binary64 part intersection) (mul binary64 left right)))
      go true n = zero_up_to 192
      go false n =
          let u = mul_up_to 0 64 part intersection (lit≤ tt) (unit_up_to part (mul_unit x.left_non_null x.right_non_null r.left_non_null r.right_non_null)) (shared_up_to left right intersection r.left r.right w) in
          let m = mul_up_to 64 64 left right (lit≤ tt) (figure_up_to left r.left) (figure_up_to right r.right) in
          div_up_to 64 128 (mul binary64 part intersection) (mul binary64 left right) (lit≤ tt) u (mul_at_least 64 64 left right (lit≤ tt) (figure_at_least left r.left (n refl).0) (figure_at_least right r.right (n refl).1) m.low)

  pair_up_to : UpTo 193 (uniform_pair_selectivity x intersection)
  unfolding uniform_pair_selectivity
  pair_up_to =
      let e = equal_non_null x intersection in
      let nulls = x.null_pair_selectivity in
      either (UpTo 193) x.null_safe (add binary64 e nulls) e (add_up_to 192 e nulls (lit≤ tt) equal_up_to (up_to_more 0 192 nulls (lit≤ tt) (unit_up_to nulls r.null_pair))) (up_to_more 192 193 e (lit≤ tt) equal_up_to)

  -- 0, or a part of the left distinct
  uniform_is : (P : Float → Type 0) → P f64_zero → (AtLeast 64 left → P (div binary64 (mul binary64 x.left_non_null intersection) left)) → P (uniform_non_null_match_probability x intersection)
  unfolding uniform_non_null_match_probability
  uniform_is P z p = go (le left f64_zero) (figure_at_least left r.left)
    where
      go : (b : Bool) → (b ≡ false → AtLeast 64 left) → P (cond b f64_zero (div binary64 (mul binary64 x.left_non_null intersection) left))
      go true a = z
      go false a = p (a refl)

  match_up_to : UpTo 64 (uniform_non_null_match_probability x intersection)
  match_up_to = uniform_is (UpTo 64) (zero_up_to 64) (share_up_to left right intersection r.left r.right w x.left_non_null r.left_non_null)

  match_in_unit_law : T (le f64_one left) → Unit01 (uniform_non_null_match_probability x intersection)
  match_in_unit_law k = uniform_is Unit01 zero_unit (λ a. share_in_unit left right intersection r.left r.right w x.left_non_null r.left_non_null a k)

  module _ (sketch_pair sketch_match : Option Float) (u : NumberInUnit sketch_pair) (v : NumberInUnit sketch_match) where
    abbrev uniform : Float
    uniform = uniform_non_null_match_probability x intersection

    -- the uniform one, or the larger of it and the sketches'
    larger : (P : Float → Type 0) → IfSome sketch_match P → P uniform → P (at_least_uniform sketch_match uniform)
    larger P s p = go sketch_match s
      where
        go : (x : Option Float) → IfSome x P → P (at_least_uniform x uniform)
        go None s = p
        go (Some figure) s = either P (lt figure uniform) uniform figure p s

    non_null_up_to : UpTo 64 (at_least_uniform sketch_match uniform)
    non_null_up_to = larger (UpTo 64) (IfSome_then sketch_match v (λ x u. up_to_more 0 64 x (lit≤ tt) (unit_up_to x u))) match_up_to

    overlap_range : EdgeEstimateInRange (overlap_estimate x intersection sketch_pair sketch_match)
    unfolding overlap_estimate
    overlap_range =
        let pair = uniform_pair_selectivity x intersection in
        let match = at_least_uniform sketch_match uniform in
        let nulls = x.null_match_probability in
        record {
          pair_selectivity = clamped_up_to 193 (unwrap_or sketch_pair pair) (pair_or sketch_pair pair u pair_up_to);
          left_match_probability = clamped_up_to 65 (add binary64 match nulls) (add_up_to 64 match nulls (lit≤ tt) non_null_up_to (up_to_more 0 64 nulls (lit≤ tt) (unit_up_to nulls r.null_match)));
          left_coverage = record {
            input_distinct = r.left;
            input_non_null_fraction = r.left_non_null;
            intersection_distinct = shared_up_to left right intersection r.left r.right w;
            intersection_below = shared_below left right intersection r.left r.right w;
            non_null_match_probability = non_null_up_to;
            match_in_unit = λ k. larger Unit01 v (match_in_unit_law k);
            null_match_probability = r.null_match;
          };
        }

-- ---- of a lawful sheet
module _ (sheet : Sheet) (h : LawfulSheet sheet) where
  abbrev n : ℕ
  n = length sheet.sketches

  column_figure : (column : ℕ) → LawfulFigure (join_column_distinct sheet column)
  unfolding join_column_distinct
  column_figure column = distinct_figure n (profile_and_rows sheet column) (profile_lawful sheet h column)

  column_unit : (column : ℕ) → Unit01 (join_column_non_null_fraction sheet column)
  unfolding join_column_non_null_fraction
  column_unit column = fraction_in_unit n (profile_and_rows sheet column) (profile_lawful sheet h column)

  unoriented_range : (first second : ℕ) → EdgeEstimateInRange (unoriented_estimate sheet (join_column_distinct sheet first) (join_column_distinct sheet second))
  unfolding unoriented_estimate
  unoriented_range first second =
      let a = join_column_distinct sheet first in
      let b = join_column_distinct sheet second in
      let rows = sheet.right_rows.value in
      let pair = div binary64 f64_one (f64_max (f64_max a b) f64_one) in
      let u : Unit01 pair = share_unit f64_one (f64_max a b) one_unit (figure_max a b (column_figure first) (column_figure second)) in
      record {
        pair_selectivity = u;
        left_match_probability = clamped_up_to 64 (mul binary64 rows pair) (mul_up_to 64 0 rows pair (lit≤ tt) (figure_up_to rows h.right_rows.value) (unit_up_to pair u));
        left_coverage = tt;
      }

  by_base_figure : (rows : Estimate) (base : Option BaseColumn) (profile : ColumnProfile) → LawfulColumn n profile → LawfulFigure (distinct_by_base sheet rows base profile)
  by_base_figure rows None profile p = p.distinct.value
  by_base_figure rows (Some column) profile p =
      either LawfulFigure (single_column_unique sheet column && profile_has_complete_base_population sheet rows column.table) profile.frequency.value profile.distinct.value p.frequency.value p.distinct.value

  effective_figure : (rows : Estimate) (profile : ColumnProfile) → LawfulColumn n profile → LawfulFigure (effective_join_distinct sheet rows profile)
  unfolding effective_join_distinct
  effective_figure rows profile p = by_base_figure rows profile.base profile p

  inputs_range : (left_column right_column : ℕ) (left right : ColumnProfile) (null_safe : Bool) (left_hint right_hint : Float) → LawfulColumn n left → LawfulColumn n right → LawfulFigure left_hint → LawfulFigure right_hint
      → InputsInRange (edge_inputs sheet left_column right_column left right null_safe left_hint right_hint)
  unfolding edge_inputs
  inputs_range left_column right_column left right null_safe left_hint right_hint p q f g =
      let x = join_column_non_null_fraction sheet left_column in
      let y = join_column_non_null_fraction sheet right_column in
      let u = column_unit left_column in
      let v = column_unit right_column in
      let left_null = has_null sheet.left_rows.value left.frequency.value in
      let right_null = has_null sheet.right_rows.value right.frequency.value in
      record {
        left = figure_max (effective_join_distinct sheet sheet.left_rows left) left_hint (effective_figure sheet.left_rows left p) f;
        right = figure_max (effective_join_distinct sheet sheet.right_rows right) right_hint (effective_figure sheet.right_rows right q) g;
        left_non_null = u;
        right_non_null = v;
        null_pair = null_pair_unit (null_safe && (left_null && right_null)) x y u v;
        null_match = null_match_unit (null_safe && right_null) x u;
      }

  module _ (x : EdgeInputs) (r : InputsInRange x) (left right : ColumnProfile) (p : LawfulColumn n left) (q : LawfulColumn n right) where
    sketches_range : (intersection : Float) → DistinctWithin x.left_distinct x.right_distinct intersection → EdgeEstimateInRange (estimate_by_sketches sheet x left right intersection)
    unfolding estimate_by_sketches
    sketches_range intersection w =
        let left_rows = sheet.left_rows.value in
        let right_rows = sheet.right_rows.value in
        let pair = sketch_join_estimate sheet.sketches left left_rows right right_rows in
        let match = sketch_left_match_probability sheet.sketches left left_rows right intersection x.left_distinct in
        let fl = p.frequency.value in
        let rl = h.left_rows.value in
        overlap_range x r intersection w (unless_null_safe x.null_safe pair) (unless_null_safe x.null_safe match)
        (either NumberInUnit x.null_safe None pair tt (sketch_join_unit sheet.sketches h.sketches left right left_rows right_rows fl rl q.frequency.value h.right_rows.value p.distinct.value q.distinct.value))
        (either NumberInUnit x.null_safe None match tt (sketch_match_unit sheet.sketches h.sketches left right left_rows right_rows fl rl intersection x.left_distinct (shared_up_to x.left_distinct x.right_distinct intersection r.left r.right w) (figure_up_to x.left_distinct r.left)))

    by_inputs_range : (intersection : DistinctIntersection) → DistinctWithin x.left_distinct x.right_distinct intersection.distinct → EdgeEstimateInRange (estimate_by_inputs sheet x left right intersection)
    unfolding estimate_by_inputs
    by_inputs_range intersection w =
        let rows = sheet.right_rows.value in
        let a = (figure_up_to rows h.right_rows.value).low in
        either EdgeEstimateInRange intersection.domains_disjoint (disjoint_estimate x) _ (disjoint_range x r)
        (when EdgeEstimateInRange (is_reference sheet x.null_safe left.base right.base) (foreign_key_estimate x rows) (estimate_by_sketches sheet x left right intersection.distinct)
        (λ t. foreign_range x rows r a (reference_from_one sheet x.null_safe left.base right.base a t))
        (sketches_range intersection.distinct w))
      where
        when : {A : Type 0} (P : A → Type 0) (b : Bool) (x y : A) → (T b → P x) → P y → P (cond b x y)
        when P true x y f k = f tt
        when P false x y f k = k

  oriented_range : (left_column right_column : ℕ) (left right : ColumnProfile) (null_safe : Bool) (left_hint right_hint : Float) → LawfulColumn n left → LawfulColumn n right → LawfulFigure left_hint → LawfulFigure right_hint
      → EdgeEstimateInRange (oriented_estimate sheet left_column right_column left right null_safe left_hint right_hint)
  unfolding oriented_estimate
  oriented_range left_column right_column left right null_safe left_hint right_hint p q f g =
      let x = edge_inputs sheet left_column right_column left right null_safe left_hint right_hint in
      let r = inputs_range left_column right_column left right null_safe left_hint right_hint p q f g in
      by_inputs_range x r left right p q (estimated_distinct_intersection left right x.left_distinct x.right_distinct)
      (intersection_within left right x.left_distinct x.right_distinct (record { lower = p.lower; upper = p.upper }) (record { lower = q.lower; upper = q.upper }) r.left r.right)

  columns_lawful : (first second : ℕ) → LawfulOriented n (oriented_join_columns sheet first second)
  unfolding oriented_join_columns
  columns_lawful first second =
      or_else_lawful n (oriented_as first second (left_profile sheet first) (right_profile sheet second)) (oriented_as second first (left_profile sheet second) (right_profile sheet first))
      (as_lawful n first second (left_profile sheet first) (right_profile sheet second) (left_lawful first) (right_lawful second))
      (as_lawful n second first (left_profile sheet second) (right_profile sheet first) (left_lawful second) (right_lawful first))
    where
      left_lawful : (column : ℕ) → LawfulFound n (left_profile sheet column)
      left_lawful column = profile_in_lawful n sheet.left_rows.value h.left_rows.value column sheet.left_columns h.left_columns

      right_lawful : (column : ℕ) → LawfulFound n (right_profile sheet column)
      right_lawful column = profile_in_lawful n sheet.right_rows.value h.right_rows.value column sheet.right_columns h.right_columns

  module _ (edge : EqualityEdge) (r : EdgeInRange edge) where
    as_range : (columns : Option OrientedColumns) → LawfulOriented n columns → EdgeEstimateInRange (estimate_as sheet edge columns)
    as_range None l = unoriented_range edge.left edge.right
    as_range (Some columns) l =
        let same = eqb columns.left_column edge.left in
        let left_ndv = edge.left_ndv.value in
        let right_ndv = edge.right_ndv.value in
        let f = r.left_ndv.value in
        let g = r.right_ndv.value in
        oriented_range columns.left_column columns.right_column columns.left columns.right edge.null_safe (cond same left_ndv right_ndv) (cond same right_ndv left_ndv) l.0 l.1 (either LawfulFigure same left_ndv right_ndv f g) (either LawfulFigure same right_ndv left_ndv g f)

    pub edge_estimate_range : EdgeEstimateInRange (equality_edge_estimate sheet edge)
    unfolding equality_edge_estimate
    edge_estimate_range = as_range (oriented_join_columns sheet edge.left edge.right) (columns_lawful edge.left edge.right)
