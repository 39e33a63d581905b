-- Every figure of a join's answer lies in its range, for every accepted sheet. Assumes nothing.
use Prim.Native.Nat.{ℕ}
use mathlib.Core.Path.{◌≡◌, refl, sym, subst}
use mathlib.Core.Bool.{Bool}
use mathlib.Core.List.{List}
use lib.Dec.{T}
use lib.Ieee.{Float, binary64, mul, lt, le}
use Rattle.float.specs.Order.{f64_zero, f64_max, ordinary, Unit01}
use Rattle.float.proofs.UnitLaws.{zero_unit, mul_unit}
use Rattle.le.proofs.FieldLaws.{Bytes}
use Rattle.sheet.specs.Check.{sheet_refusal}
use Rattle.sheet.specs.Sheet.{Sheet, sheet_in, conjuncts_in}
use Rattle.lawful.specs.Lawful.{Each, LawfulSheet}
use Rattle.lawful.proofs.LawfulLaws.{accepted_sheet}
use Rattle.units.proofs.SizeLaws.{nonneg_ordinary, clamped_up_to}
use Rattle.units.proofs.FigureLaws.{figure_up_to}
use Rattle.units.proofs.UnitOperations.{nonneg_not_below, le_not_lt}
use Rattle.fraction_range.proofs.DistinctLaws.{max_right}
use Rattle.predicate_range.specs.Range.{BoundedInUnit}
use Rattle.predicate_range.proofs.NumberRange.{either}
use Rattle.predicate_range.proofs.LeafRange.{from_zero, unit_bounded}
use Rattle.class_state.specs.State.{from_profiles}
use Rattle.equality_pairs.specs.Pairs.{equality_pairs}
use Rattle.equality_pairs.specs.declared.pairs.EqualityPair.{EqualityPair}
use Rattle.equality_pairs.specs.NonNull.{non_null_marks, marked_columns}
use Rattle.edge.specs.declared.EqualityEdge.{EqualityEdge}
use Rattle.edge_fold.specs.Edges.{equality_edges}
use Rattle.edge_fold.specs.Fold.{Folded, folded_pairs}
use Rattle.join.specs.Residual.{residual_match_probability, residual_selectivity}
use Rattle.join.specs.Join.{join_selectivity, first_moment_upper, join_match, match_estimate, join_estimate, join_selectivity_from_conjuncts}
use Rattle.join_range.specs.Range.{EdgeInRange, JoinInRange}
use Rattle.join_range.proofs.ResidualRange.{residual_unit}
use Rattle.join_range.proofs.ClassRange.{profiles_lawful, returned_lawful}
use Rattle.join_range.proofs.EdgesRange.{edges_range}
use Rattle.join_range.proofs.FoldRange.{FoldedInRange, folded_range}
use Rattle.join_range.proofs.MatchRange.{own_clamp_unit, rows_part_up_to, residual_match_unit}

-- ---- the match
-- the value of the match is the match itself
match_own : (match upper : Float) → Unit01 match → Unit01 upper → (match_estimate match upper).value ≡ match
unfolding match_estimate
match_own match upper m u = rw (nonneg_not_below match m.low, nonneg_not_below match m.low, le_not_lt match (f64_max upper match) m.low (either Unit01 (lt upper match) match upper m u).low (max_right upper match u.low m.low)) refl

match_bounded : (match upper : Float) → Unit01 match → Unit01 upper → BoundedInUnit (match_estimate match upper)
unfolding match_estimate
match_bounded match upper m u =
    let e = match_own match upper m u in
    record {
      value = subst Unit01 (sym e) m;
      lower = zero_unit;
      upper = either Unit01 (lt upper match) match upper m u;
      has_lower = refl;
      has_upper = refl;
      above = subst (λ (z : Float). T (le f64_zero z)) (sym e) (from_zero match m);
      below = subst (λ (z : Float). T (le z (f64_max upper match))) (sym e) (max_right upper match u.low m.low);
    }

-- ---- the whole
module _ (sheet : Sheet) (h : LawfulSheet sheet) where
  estimate_range : (state : Folded) (residual : Float) (non_null : List ℕ) → FoldedInRange state → Unit01 residual → JoinInRange (join_estimate sheet state residual non_null)
  unfolding join_estimate
  estimate_range state residual non_null f r =
      let figures = state.figures in
      let rows = sheet.right_rows.value in
      let selectivity = join_selectivity figures.selectivity residual in
      let upper = first_moment_upper rows selectivity in
      let s : Unit01 selectivity = own_clamp_unit (mul binary64 figures.selectivity residual) (mul_unit figures.selectivity residual f.figures.selectivity r) in
      let u : Unit01 upper = clamped_up_to 64 (mul binary64 rows selectivity) (rows_part_up_to rows selectivity h.right_rows.value s) in
      let through = residual_match_probability figures.match_probability figures.selectivity rows residual in
      let m : Unit01 (join_match figures rows residual upper) = either Unit01 figures.has_cross_input_equality through upper (residual_match_unit figures.match_probability figures.selectivity rows residual f.figures.match_probability f.figures.selectivity h.right_rows.value r) u in
      record {
        selectivity = unit_bounded selectivity s;
        selectivity_lower = refl;
        selectivity_upper = refl;
        equivalence_classes = returned_lawful state.classes f.classes;
        match_probability = match_bounded (join_match figures rows residual upper) upper m u;
        match_lower = refl;
        left_equality_coverages = f.coverages;
        residual_selectivity = r;
      }

  pub lawful_join : (conjuncts : List ℕ) → JoinInRange (join_selectivity_from_conjuncts sheet conjuncts)
  unfolding join_selectivity_from_conjuncts
  lawful_join conjuncts =
      let pairs = equality_pairs sheet conjuncts in
      estimate_range (folded_pairs sheet pairs) (residual_selectivity sheet conjuncts) (marked_columns (non_null_marks pairs)) (folded_range sheet h pairs) (residual_unit sheet h conjuncts)

-- ---- of an accepted sheet
pub accepted_join : (s : List ℕ) → Bytes s → sheet_refusal s ≡ 0 → JoinInRange (join_selectivity_from_conjuncts (sheet_in s) (conjuncts_in s))
accepted_join s b k = lawful_join (sheet_in s) (accepted_sheet s b k) (conjuncts_in s)

-- ---- the distincts by which the edges of an accepted sheet are ordered, for any pairs of columns: no NaN and no -0 stands among them
pub accepted_edges : (s : List ℕ) → Bytes s → sheet_refusal s ≡ 0 → (marks : List Bool) (pairs : List EqualityPair) → Each EdgeInRange (equality_edges (from_profiles (sheet_in s)) marks pairs)
accepted_edges s b k marks pairs = edges_range (from_profiles (sheet_in s)) (profiles_lawful (sheet_in s) (accepted_sheet s b k)) marks pairs

pub accepted_order : (s : List ℕ) → Bytes s → sheet_refusal s ≡ 0 → (marks : List Bool) (pairs : List EqualityPair)
    → Each (λ (x : EqualityEdge). T (ordinary x.chosen_ndv.value)) (equality_edges (from_profiles (sheet_in s)) marks pairs)
accepted_order s b k marks pairs x m =
    let f = (accepted_edges s b k marks pairs x m).chosen_ndv.value in
    nonneg_ordinary x.chosen_ndv.value (figure_up_to x.chosen_ndv.value f).low
