-- Comparisons, IS NULL and IS NOT NULL. Assumes nothing.
use Rattle.std.specs.Prelude.{Option, None, Some, IfSome}
use Prim.Native.Nat.{ℕ}
use mathlib.Core.Path.{◌≡◌}
use mathlib.Core.Bool.{Bool, true, cond}
use native.Mathlib.Nat.{zero-lt-suc}
use lib.Dec.{eqb, lit≤}
use lib.ListN.{length}
use lib.Ieee.{Float, binary64, sub, mul, div}
use Rattle.float.specs.Order.{f64_zero, f64_one, f64_max, clamp_unit, Unit01}
use Rattle.float.proofs.UnitLaws.{zero_unit, one_unit, mul_unit}
use Rattle.scalar.specs.Types.{is_null}
use Rattle.scalar.specs.declared.Scalar.{Scalar}
use Rattle.scalar_bytes.specs.Encoding.{lawful_scalar}
use Rattle.estimate.specs.Bytes.{LawfulFigure}
use Rattle.estimate.specs.Estimates.{exact}
use Rattle.records.specs.declared.columns.ColumnProfile.{ColumnProfile}
use Rattle.records.specs.declared.expressions.UnaryOp.{UnaryOp}
use Rattle.records.specs.declared.expressions.UnaryOp.TheVariants.{Not, IsNull, IsNotNull, Negate}
use Rattle.records.specs.declared.expressions.BinaryOp.{BinaryOp}
use Rattle.records.specs.declared.expressions.BinaryOp.TheVariants.{Eq, IsNotDistinctFrom, NotEq, Lt, LtEq, Gt, GtEq, Add, Subtract, Multiply, Divide}
use Rattle.sheet.specs.Sheet.{Sheet}
use Rattle.record_rules.specs.Lawful.{LawfulColumn}
use Rattle.lawful.specs.Lawful.{LawfulSheet}
use Rattle.units.proofs.SizeLaws.{round_up_to, up_to_unit}
use Rattle.units.proofs.FigureLaws.{figure_max, figure_max_one_order, share_unit, figure_quotient_unit}
use Rattle.units.proofs.SpreadLaws.{positive_difference_unit}
use Rattle.units.proofs.UnitOperations.{complement_unit, sum_unit}
use Rattle.std.specs.Prelude.{Option, None, Some}
use Rattle.lookup.specs.Lookup.{ProfileAndRows, expression_of, profile_and_rows}
use Rattle.sketch.specs.Frequent.{frequent_value_selectivity}
use Rattle.range.specs.Selectivity.{unit_estimate, default_estimate, non_null_fraction}
use Rattle.range.specs.Range.{range_selectivity}
use Rattle.parts.specs.Parts.{ColumnLiteral, column_ref, is_null_safe, column_literal, column_equality_from_parts}
use Rattle.parts.specs.declared.equalities.EqualColumns.{EqualColumns}
use Rattle.comparison.specs.Literal.{equality_part, range_part, comparison_value, comparison_selectivity, profile_selectivity, found_selectivity, literal_selectivity}
use Rattle.comparison.specs.Columns.{self_selectivity, pair_selectivity, profiles_selectivity, found_columns, columns_selectivity}
use Rattle.comparison.specs.Unary.{frequency_in, frequency_of, larger_rows, tenth, nine_tenths, is_null_selectivity, is_not_null_selectivity, unary_selectivity}
use Rattle.comparison.specs.Binary.{equality_or_default, literal_or_equality, binary_selectivity}
use Rattle.predicate_range.specs.Range.{BoundedInUnit}
use Rattle.predicate_range.proofs.NumberRange.{either}
use Rattle.predicate_range.proofs.FoundRange.{expression_lawful, LawfulFound, profile_lawful}
use Rattle.predicate_range.proofs.LeafRange.{selectivity_unit, unit_bounded, exact_bounded, default_bounded}
use Rattle.predicate_range.proofs.SketchRange.{unit_or, frequent_unit}
use Rattle.predicate_range.proofs.ColumnRange.{fraction_unit, range_bounded}
use Rattle.predicate_range.proofs.PartRange.{LawfulPair, pair_lawful}

-- ---- a column and a literal
module _ (sheet : Sheet) (h : LawfulSheet sheet) where
  range_part_law : (profile : ColumnProfile) (literal : Scalar) (op : BinaryOp) (non_null : Float) → LawfulColumn (length sheet.sketches) profile → lawful_scalar literal ≡ true → Unit01 non_null → BoundedInUnit (unit_estimate (range_part sheet.settings.range_fallback_selectivity profile literal op non_null))
  range_part_law profile literal op non_null p l u =
      let fallback = sheet.settings.range_fallback_selectivity in
      let r = range_bounded profile literal op fallback p.lower p.upper l (selectivity_unit fallback h.settings.range_fallback_selectivity) in
      let part = (range_selectivity profile literal op fallback).value in
      unit_bounded (mul binary64 part non_null) (mul_unit part non_null r.value u)

  comparison : (profile : ColumnProfile) (literal : Scalar) (op : BinaryOp) (non_null equality : Float) → LawfulColumn (length sheet.sketches) profile → lawful_scalar literal ≡ true → Unit01 non_null → Unit01 equality
      → BoundedInUnit (comparison_selectivity sheet profile literal op non_null equality)
  unfolding comparison_value default_estimate
  comparison profile literal Eq non_null equality p l u v = unit_bounded equality v
  comparison profile literal IsNotDistinctFrom non_null equality p l u v = default_bounded sheet h
  comparison profile literal NotEq non_null equality p l u v = unit_bounded (f64_max (sub binary64 non_null equality) f64_zero) (positive_difference_unit non_null equality u v)
  comparison profile literal Lt non_null equality p l u v = range_part_law profile literal Lt non_null p l u
  comparison profile literal LtEq non_null equality p l u v = range_part_law profile literal LtEq non_null p l u
  comparison profile literal Gt non_null equality p l u v = range_part_law profile literal Gt non_null p l u
  comparison profile literal GtEq non_null equality p l u v = range_part_law profile literal GtEq non_null p l u
  comparison profile literal Add non_null equality p l u v = default_bounded sheet h
  comparison profile literal Subtract non_null equality p l u v = default_bounded sheet h
  comparison profile literal Multiply non_null equality p l u v = default_bounded sheet h
  comparison profile literal Divide non_null equality p l u v = default_bounded sheet h

  equality_unit : (profile : ColumnProfile) (literal : Scalar) (non_null : Float) → LawfulColumn (length sheet.sketches) profile → Unit01 non_null
      → Unit01 (equality_part sheet profile literal non_null)
  equality_unit profile literal non_null p u =
      let distinct = profile.distinct.value in
      unit_or (frequent_value_selectivity sheet.sketches profile literal) (div binary64 non_null (f64_max distinct f64_one)) (frequent_unit sheet.sketches profile literal h.sketches p.distinct.value) (share_unit non_null distinct u p.distinct.value)

  profile_bounded : (profile : ColumnProfile) (rows : Float) (literal : Scalar) (op : BinaryOp) → LawfulColumn (length sheet.sketches) profile → LawfulFigure rows → lawful_scalar literal ≡ true → BoundedInUnit (profile_selectivity sheet profile rows literal op)
  unfolding profile_selectivity
  profile_bounded profile rows literal op p f l =
      let non_null = non_null_fraction profile.frequency.value rows in
      let u = fraction_unit profile.frequency.value rows p.frequency.value f in
      let equality = equality_part sheet profile literal non_null in
      either BoundedInUnit (is_null literal) (exact f64_zero) (comparison_selectivity sheet profile literal op non_null equality) (exact_bounded f64_zero zero_unit) (comparison profile literal op non_null equality p l u (equality_unit profile literal non_null p u))

  found_bounded : (found : Option ProfileAndRows) (literal : Scalar) (op : BinaryOp) → LawfulFound (length sheet.sketches) found → lawful_scalar literal ≡ true → BoundedInUnit (found_selectivity sheet found literal op)
  found_bounded None literal op f l = default_bounded sheet h
  found_bounded (Some (profile, rows)) literal op f l = profile_bounded profile rows literal op f.0 f.1 l

  literal_bounded : (column : ℕ) (literal : Scalar) (op : BinaryOp) → lawful_scalar literal ≡ true → BoundedInUnit (literal_selectivity sheet column literal op)
  unfolding literal_selectivity
  literal_bounded column literal op l = found_bounded (profile_and_rows sheet column) literal op (profile_lawful sheet h column) l

-- ---- two columns
self_bounded : (null_safe : Bool) (non_null : Float) → Unit01 non_null → BoundedInUnit (self_selectivity null_safe non_null)
unfolding self_selectivity
self_bounded null_safe non_null u = unit_bounded (cond null_safe f64_one non_null) (either Unit01 null_safe f64_one non_null one_unit u)

pair_bounded : (null_safe : Bool) (left right left_distinct right_distinct : Float) → Unit01 left → Unit01 right → LawfulFigure left_distinct → LawfulFigure right_distinct → BoundedInUnit (pair_selectivity null_safe left right left_distinct right_distinct)
unfolding pair_selectivity
pair_bounded null_safe left right left_distinct right_distinct u v f g =
    let equal = div binary64 (mul binary64 left right) (f64_max (f64_max left_distinct right_distinct) f64_one) in
    let nulls = mul binary64 (sub binary64 f64_one left) (sub binary64 f64_one right) in
    let a : Unit01 equal = share_unit (mul binary64 left right) (f64_max left_distinct right_distinct) (mul_unit left right u v) (figure_max left_distinct right_distinct f g) in
    let b : Unit01 (cond null_safe nulls f64_zero) = either Unit01 null_safe nulls f64_zero (mul_unit (sub binary64 f64_one left) (sub binary64 f64_one right) (complement_unit left u) (complement_unit right v)) zero_unit in
    unit_bounded _ (sum_unit equal (cond null_safe nulls f64_zero) a b)

module _ (sheet : Sheet) (h : LawfulSheet sheet) where
  profiles_bounded : (null_safe same : Bool) (left : ColumnProfile) (left_rows : Float) (right : ColumnProfile) (right_rows : Float) → LawfulColumn (length sheet.sketches) left → LawfulFigure left_rows → LawfulColumn (length sheet.sketches) right → LawfulFigure right_rows
      → BoundedInUnit (profiles_selectivity null_safe same left left_rows right right_rows)
  unfolding profiles_selectivity
  profiles_bounded null_safe same left left_rows right right_rows p f q g =
      let u = fraction_unit left.frequency.value left_rows p.frequency.value f in
      let v = fraction_unit right.frequency.value right_rows q.frequency.value g in
      let x = non_null_fraction left.frequency.value left_rows in
      let y = non_null_fraction right.frequency.value right_rows in
      either BoundedInUnit same (self_selectivity null_safe x) (pair_selectivity null_safe x y left.distinct.value right.distinct.value) (self_bounded null_safe x u)
      (pair_bounded null_safe x y left.distinct.value right.distinct.value u v p.distinct.value q.distinct.value)

  found_columns_law : (null_safe same : Bool) (left right : Option ProfileAndRows) → LawfulFound (length sheet.sketches) left → LawfulFound (length sheet.sketches) right → BoundedInUnit (found_columns sheet null_safe same left right)
  found_columns_law null_safe same None right f g = default_bounded sheet h
  found_columns_law null_safe same (Some (left, left_rows)) None f g = default_bounded sheet h
  found_columns_law null_safe same (Some (left, left_rows)) (Some (right, right_rows)) f g = profiles_bounded null_safe same left left_rows right right_rows f.0 f.1 g.0 g.1

  columns_bounded : (null_safe : Bool) (left right : ℕ) → BoundedInUnit (columns_selectivity sheet null_safe left right)
  unfolding columns_selectivity
  columns_bounded null_safe left right = found_columns_law null_safe (eqb left right) (profile_and_rows sheet left) (profile_and_rows sheet right) (profile_lawful sheet h left) (profile_lawful sheet h right)

  -- ---- either
  equality_bounded : (op : BinaryOp) (columns : Option EqualColumns) → BoundedInUnit (equality_or_default sheet op columns)
  equality_bounded op None = default_bounded sheet h
  equality_bounded op (Some columns) = columns_bounded (is_null_safe op) columns.left columns.right

  either_bounded : (op : BinaryOp) (pair : Option ColumnLiteral) (columns : Option EqualColumns) → LawfulPair pair → BoundedInUnit (literal_or_equality sheet op pair columns)
  either_bounded op None columns l = equality_bounded op columns
  either_bounded op (Some (column, literal, normalized)) columns l = literal_bounded sheet h column literal normalized l

  pub binary_bounded : (op : BinaryOp) (left right : ℕ) → BoundedInUnit (binary_selectivity sheet op left right)
  unfolding binary_selectivity
  binary_bounded op left right =
      let x = expression_of sheet left in
      let y = expression_of sheet right in
      either_bounded op (column_literal op x y) (column_equality_from_parts op x y) (pair_lawful op left right x y (expression_lawful sheet h left) (expression_lawful sheet h right))

-- ---- IS NULL and IS NOT NULL
tenth_unit : Unit01 tenth
tenth_unit = up_to_unit tenth (round_up_to 0 1 10 (lit≤ tt) (zero-lt-suc 9) (lit≤ tt))

nine_tenths_unit : Unit01 nine_tenths
nine_tenths_unit = up_to_unit nine_tenths (round_up_to 0 9 10 (lit≤ tt) (zero-lt-suc 9) (lit≤ tt))

module _ (sheet : Sheet) (h : LawfulSheet sheet) where
  frequency_in_figure : (n : ℕ) (found : Option ProfileAndRows) → LawfulFound n found → IfSome (frequency_in found) LawfulFigure
  frequency_in_figure n None f = tt
  frequency_in_figure n (Some (profile, rows)) f = f.0.frequency.value

  frequency_figure : (column : Option ℕ) → IfSome (frequency_of sheet column) LawfulFigure
  frequency_figure None = tt
  frequency_figure (Some column) = frequency_in_figure (length sheet.sketches) (profile_and_rows sheet column) (profile_lawful sheet h column)

  share : (x : Float) → LawfulFigure x → Unit01 (clamp_unit (div binary64 x (larger_rows sheet)))
  share x f =
      let rows = f64_max sheet.left_rows.value sheet.right_rows.value in
      let m = figure_max_one_order rows (figure_max sheet.left_rows.value sheet.right_rows.value h.left_rows.value h.right_rows.value) in
      figure_quotient_unit x (f64_max rows f64_one) f m.low m.above

  null_unit : (x : Option Float) → IfSome x LawfulFigure → Unit01 (is_null_selectivity x (larger_rows sheet))
  null_unit None f = tenth_unit
  null_unit (Some x) f = complement_unit (clamp_unit (div binary64 x (larger_rows sheet))) (share x f)

  not_null_unit : (x : Option Float) → IfSome x LawfulFigure → Unit01 (is_not_null_selectivity x (larger_rows sheet))
  not_null_unit None f = nine_tenths_unit
  not_null_unit (Some x) f = share x f

  pub unary_bounded : (op : UnaryOp) (expr : ℕ) → BoundedInUnit (unary_selectivity sheet op expr)
  unfolding unary_selectivity
  unary_bounded Not expr = default_bounded sheet h
  unary_bounded IsNull expr =
      let x = frequency_of sheet (column_ref (expression_of sheet expr)) in
      unit_bounded (is_null_selectivity x (larger_rows sheet)) (null_unit x (frequency_figure (column_ref (expression_of sheet expr))))
  unary_bounded IsNotNull expr =
      let x = frequency_of sheet (column_ref (expression_of sheet expr)) in
      unit_bounded (is_not_null_selectivity x (larger_rows sheet)) (not_null_unit x (frequency_figure (column_ref (expression_of sheet expr))))
  unary_bounded Negate expr = default_bounded sheet h
