-- Each turn folds the edge of one number. Assumes nothing.
use Prim.Native.Nat.{ℕ, ◌+◌, ◌-◌, ◌*◌}
use mathlib.Core.Path.{refl, ap, subst, ◌∙◌}
use mathlib.Core.List.{List}
use borrow.Author.Rules.{rules}
use lib.Dec.{eqb}
use lib.Ieee.{of_bits}
use lib.ListN.{length, take, drop}
use Rattle.le.specs.Fields.{onto}
use Rattle.sheet.specs.Sheet.{viewed}
use Rattle.class_state.proofs.ProfileLaws.{union_keeps}
use Rattle.edge.specs.declared.EqualityEdge.{EqualityEdge}
use Rattle.edge_fold.specs.Coverages.{coverages_bytes}
use Rattle.edge_fold.specs.Fold.{Folded, no_equality, no_edges, with_edges, edge_figures, edge_coverages}
use Rattle.edge_fold.proofs.CoverageLaws.{appended_part}
use Rattle.edge_fold.proofs.EdgeLaws.{edge_at, edges_in_order, order_placed, edge_at_is}
use Rattle.edge_fold.proofs.FoldLaws.{FoldRest, fold_first, fold_next, fold_all}
use Rattle.join.specs.Totals.{equality_totals}
use Rattle.join.proofs.fold.fold_in_order.Goals as goal

pub loop-i-init : goal.loop-i-init
unfolding of_bits
loop-i-init c =
    let a = c.args in
    let sheet = viewed a.inputs.now.sheet in
    let edges = edge_at a.classes.now a.marks.now a.pairs.now in
    record {
      size = refl;
      rooted = c.requires.2;
      folded = subst (λ (l : List EqualityEdge). FoldRest sheet edges a.order.now (with_edges sheet (no_edges a.classes.now) l) a.classes.now no_equality 0 a.coverages.now a.coverages.now 0) (edges_in_order a.classes.now a.marks.now a.pairs.now a.order.now c.requires.0) (fold_first sheet edges a.order.now a.classes.now a.coverages.now);
    }

pub loop-i-preserved : goal.loop-i-preserved
loop-i-preserved c =
    let a = c.args in
    let l = c.loop-i in
    let sheet = viewed a.inputs.now.sheet in
    let edge = c.edge_of-edge.result in
    let same = eqb c.root_of.result c.root_of-in-loop-i.result in
    let view = c.placed.ensures.same_sheet in
    let placed = c.placed.ensures.same_edge in
    let put = c.add_edge-count.ensures in
    let behind = take (length l.coverages - 43 * l.count) (drop (43 * l.count) l.coverages) in
    let part = appended_part l.count l.coverages (edge_coverages sheet edge same) _ _ c.add_edge-count.new.out refl refl (put.out_after ∙ λ k. onto (coverages_bytes (edge_coverages (viewed (view k)) (placed k) same)) behind) in
    record {
      size = search rules;
      rooted = union_keeps _ _ _ _ _ c.union.ensures l.invariant.rooted;
      folded =
          fold_next sheet _ _ _ edge l.classes _ same l.figures _ l.count _ _ _ _ l.i-index c.union.ensures (λ k. eqb (c.root_of.ensures k) (c.root_of-in-loop-i.ensures k))
          (put.figures_after ∙ λ k. edge_figures (viewed (view k)) l.figures (placed k) same)
          (ap (λ (n : ℕ). l.count + n) (put.value ∙ λ k. length (edge_coverages (viewed (view k)) (placed k) same)))
          part c.loop-i-test.true
          (edge_at_is a.classes.now a.marks.now a.pairs.now edge _ _ _ c.from.ensures (order_placed c.args.classes.now c.args.marks.now c.args.pairs.now c.args.order.now c.requires.0 l.i-index c.loop-i-test.true) c.edge_of-edge.ensures)
          l.invariant.folded;
    }

pub returns : goal.returns
returns c =
    let a = c.args in
    let l = c.loop-i in
    let sheet = viewed a.inputs.now.sheet in
    let r = l.invariant.folded in
    let all = fold_all sheet _ _ _ l.classes l.figures l.count _ l.coverages l.i-index c.loop-i-test.false r in
    record {
      value = (λ k. record { figures = l.figures; coverages = r.count k }) ∙ ap equality_totals all;
      classes_after = ap (λ (state : Folded). state.classes) all;
      coverages_after = r.bytes ∙ ap (λ (state : Folded). onto (coverages_bytes state.coverages) a.coverages.now) all;
    }
