-- Edges folded one by one. Assumes nothing.
use Prim.Native.Nat.{ℕ, ◌+◌, ◌≤◌, ◌<◌}
use mathlib.Core.Path.{◌≡◌, refl, sym, ap, ◌∙◌}
use mathlib.Core.Bool.{Bool}
use mathlib.Core.List.{List, [], ◌++◌, map}
use native.Mathlib.Omega.{arith}
use native.Mathlib.Numerals.{add-one}
use lib.ListN.{length, get_or, drop, drop_of_length-le}
use lib.Seq.{drop-cons}
use Rattle.le.specs.Fields.{onto}
use Rattle.sheet.specs.Sheet.{Sheet}
use Rattle.class_state.specs.State.{equivalent, union}
use Rattle.class_state.specs.declared.EquivalenceClassState.{EquivalenceClassState}
use Rattle.edge.specs.declared.EqualityEdge.{EqualityEdge}
use Rattle.edge.specs.declared.LeftEqualityCoverage.{LeftEqualityCoverage}
use Rattle.edge_fold.specs.Fold.{Folded, no_equality, no_edges, edge_figures, edge_coverages, with_edge, with_edges}
use Rattle.edge_fold.specs.Coverages.{coverages_bytes, Appended}
use Rattle.edge_fold.specs.declared.fold.EqualityFigures.{EqualityFigures}
use Rattle.edge_fold.proofs.CoverageLaws.{appended_onto}
use Rattle.edge_fold.proofs.CountLaws.{edge_coverage}

module _ (sheet : Sheet) where
  abbrev pub folded : EquivalenceClassState → EqualityFigures → List LeftEqualityCoverage → Folded
  folded classes figures coverages = record { classes = classes; figures = figures; coverages = coverages }

  -- where a loop stands at the i-th of the numbers in `order`, and n coverages are put
  module _ (edges : ℕ → EqualityEdge) (order : List ℕ) (whole : Folded) where
    pub record FoldRest (classes : EquivalenceClassState) (figures : EqualityFigures) (n : ℕ) (out₀ out : List ℕ) (i : ℕ) : Type 0 where
      pub coverages : List LeftEqualityCoverage
      pub count : n ≡ length coverages
      pub bytes : out ≡ onto (coverages_bytes coverages) out₀
      pub rest : with_edges sheet (folded classes figures coverages) (map edges (drop i order)) ≡ whole
      pub few : n ≤ i

    module _ (edge : EqualityEdge) (classes classes' : EquivalenceClassState) (same : Bool) (figures figures' : EqualityFigures) (n m : ℕ) (out₀ out out' : List ℕ) (i : ℕ) where
      pub fold_next : classes' ≡ union classes edge.left edge.right edge.chosen_ndv
          → same ≡ equivalent classes edge.left edge.right
          → figures' ≡ edge_figures sheet figures edge same
          → m ≡ n + length (edge_coverages sheet edge same)
          → Appended n (edge_coverages sheet edge same) out out'
          → i < length order → edge ≡ edges (get_or order i 0) → FoldRest classes figures n out₀ out i → FoldRest classes' figures' m out₀ out' (i + 1)
      unfolding with_edges with_edge
      fold_next u t f g a h e r =
          let b = appended_onto r.coverages (edge_coverages sheet edge same) out₀ out out' n m r.bytes r.count g a in
          let c = edge_coverage sheet edge same in
          let few = r.few in
          let one : folded classes' figures' (r.coverages ++ edge_coverages sheet edge same) ≡ with_edge sheet (folded classes figures r.coverages) edge
          = (λ k. folded (u k) (f k) (r.coverages ++ edge_coverages sheet edge same))
          ∙ λ k. folded (union classes edge.left edge.right edge.chosen_ndv) (edge_figures sheet figures edge (t k)) (r.coverages ++ edge_coverages sheet edge (t k)) in
          record {
            coverages = r.coverages ++ edge_coverages sheet edge same;
            count = b.1;
            bytes = b.0;
            rest =
                ap (λ (state : Folded). with_edges sheet state (map edges (drop (i + 1) order))) one
                ∙ ap (λ (g : EqualityEdge). with_edges sheet (with_edge sheet (folded classes figures r.coverages) g) (map edges (drop (i + 1) order))) e
                ∙ ap (λ (k : ℕ). with_edges sheet (with_edge sheet (folded classes figures r.coverages) (edges (get_or order i 0))) (map edges (drop k order))) (add-one i)
                ∙ ap (λ (l : List ℕ). with_edges sheet (folded classes figures r.coverages) (map edges l)) (sym (drop-cons order i 0 h))
                ∙ r.rest;
            few = omega arith;
          }

    pub fold_all : (classes : EquivalenceClassState) (figures : EqualityFigures) (n : ℕ) (out₀ out : List ℕ) (i : ℕ) → length order ≤ i → (r : FoldRest classes figures n out₀ out i) → folded classes figures r.coverages ≡ whole
    unfolding with_edges
    fold_all classes figures n out₀ out i h r = ap (λ (l : List ℕ). with_edges sheet (folded classes figures r.coverages) (map edges l)) (sym (drop_of_length-le order h)) ∙ r.rest

  pub fold_first : (edges : ℕ → EqualityEdge) (order : List ℕ) (classes : EquivalenceClassState) (out : List ℕ)
      → FoldRest edges order (with_edges sheet (no_edges classes) (map edges order)) classes no_equality 0 out out 0
  unfolding onto coverages_bytes
  fold_first edges order classes out = record { coverages = []; count = refl; bytes = refl; rest = refl; few = omega arith }
