-- Each turn takes the pair of one conjunct, where it has one, and multiplies it in where it has none. Assumes nothing.
use Prim.Native.Nat.{◌+◌}
use mathlib.Core.Path.{sym, subst, ◌∙◌}
use mathlib.Core.List.{[], ◌∷◌}
use native.Mathlib.Omega.{arith}
use lib.Ieee.{binary64, mul}
use lib.ListN.{length-append}
use Rattle.estimate.specs.declared.Estimate.{Estimate}
use Rattle.sheet.specs.Sheet.{viewed}
use Rattle.equality_pairs.proofs.PairLaws.{pairs_next, pairs_same}
use Rattle.join.proofs.ResidualLaws.{ResidualRest, residual_times, residual_same}
use Rattle.join.proofs.conjuncts.take_conjuncts.Goals as goal
use Rattle.join.proofs.conjuncts.take_conjuncts.Goals.{in-Some, in-None}

pub loop-e-preserved : goal.loop-e-preserved
loop-e-preserved c =
    let l = c.loop-e in
    let es = c.args.conjuncts.now in
    let sheet = viewed c.args.sheet.now in
    let t = c.loop-e-test.true in
    let is = sym c.equality_pair.ensures in
    elim c.match-equality_pair.branch [
      | in-Some w ↦ rw (w.pairs-is, w.product-is, w.push.ensures) (
        omega (arith, length-append l.pairs (w.in-Some.pair ∷ []), l.invariant.0),
        pairs_next sheet es l.pairs l.e-index t l.invariant.1 _ (is ∙ w.in-Some.is),
        residual_same sheet es l.product l.e-index t l.invariant.2 _ (is ∙ w.in-Some.is),
      )
      | in-None w ↦ rw (w.pairs-is, w.product-is) (
        omega (arith, l.invariant.0),
        pairs_same sheet es l.pairs l.e-index t l.invariant.1 (is ∙ w.in-None.is),
        subst (λ (x : Estimate). ResidualRest sheet es (mul binary64 l.product x.value) (l.e-index + 1)) (sym w.filter_selectivity_for_predicate-product.ensures) (residual_times sheet es l.product l.e-index t l.invariant.2 (is ∙ w.in-None.is)),
      )
    ]
