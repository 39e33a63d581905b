-- The product over conjuncts, where a loop stands at the i-th of them. Assumes nothing.
use Prim.Native.Nat.{ℕ, ◌+◌, ◌≤◌, ◌<◌}
use mathlib.Core.Path.{◌≡◌, refl, sym, ap, ◌∙◌}
use mathlib.Core.List.{List}
use native.Mathlib.Numerals.{add-one}
use lib.Ieee.{Float, binary64, mul}
use Rattle.std.specs.Prelude.{Option, None, Some, option_map}
use Rattle.std.proofs.lemmas.Option.{none-some}
use lib.ListN.{length, get_or, drop, drop_of_length-le}
use lib.Seq.{drop-cons}
use Rattle.parts.specs.Parts.{column_equality}
use Rattle.parts.specs.declared.equalities.EqualColumns.{EqualColumns}
use Rattle.sheet.specs.Sheet.{Sheet}
use Rattle.lookup.specs.Lookup.{expression_of}
use Rattle.predicate.specs.Predicate.{filter_selectivity_for_predicate}
use Rattle.equality_pairs.specs.Pairs.{null_safe_in, pair_of, equality_pair}
use Rattle.equality_pairs.specs.declared.pairs.EqualityPair.{EqualityPair}
use Rattle.join.specs.Residual.{times_predicate, residual_from, residual_selectivity}

module _ (sheet : Sheet) (conjuncts : List ℕ) where
  abbrev pub ResidualRest : Float → ℕ → Type 0
  ResidualRest product i = residual_from sheet product (drop i conjuncts) ≡ residual_selectivity sheet conjuncts

  residual_next : (product next : Float) (i : ℕ) → i < length conjuncts → next ≡ times_predicate sheet product (get_or conjuncts i 0) (column_equality sheet (get_or conjuncts i 0)) → ResidualRest product i → ResidualRest next (i + 1)
  unfolding residual_from
  residual_next product next i h e rest =
      ap (λ (p : Float). residual_from sheet p (drop (i + 1) conjuncts)) e
      ∙ ap (λ (k : ℕ). residual_from sheet (times_predicate sheet product (get_or conjuncts i 0) (column_equality sheet (get_or conjuncts i 0))) (drop k conjuncts)) (add-one i)
      ∙ ap (residual_from sheet product) (sym (drop-cons conjuncts i 0 h))
      ∙ rest

  module _ (product : Float) (i : ℕ) (h : i < length conjuncts) (rest : ResidualRest product i) where
    -- a conjunct that equates no columns
    pub residual_times : equality_pair sheet (get_or conjuncts i 0) ≡ None → ResidualRest (mul binary64 product (filter_selectivity_for_predicate sheet (get_or conjuncts i 0)).value) (i + 1)
    unfolding equality_pair
    residual_times e = residual_next product _ i h (go (column_equality sheet (get_or conjuncts i 0)) e) rest
      where
        go : (x : Option EqualColumns) → option_map (pair_of (null_safe_in (expression_of sheet (get_or conjuncts i 0)))) x ≡ None → mul binary64 product (filter_selectivity_for_predicate sheet (get_or conjuncts i 0)).value ≡ times_predicate sheet product (get_or conjuncts i 0) x
        go None e = refl
        go (Some columns) e = absurd (none-some _ (sym e))

    -- and one that does
    pub residual_same : (pair : EqualityPair) → equality_pair sheet (get_or conjuncts i 0) ≡ Some pair → ResidualRest product (i + 1)
    unfolding equality_pair
    residual_same pair e = residual_next product _ i h (go (column_equality sheet (get_or conjuncts i 0)) e) rest
      where
        go : (x : Option EqualColumns) → option_map (pair_of (null_safe_in (expression_of sheet (get_or conjuncts i 0)))) x ≡ Some pair → product ≡ times_predicate sheet product (get_or conjuncts i 0) x
        go None e = absurd (none-some _ e)
        go (Some columns) e = refl

  pub residual_end : (product : Float) (i : ℕ) → length conjuncts ≤ i → ResidualRest product i → product ≡ residual_selectivity sheet conjuncts
  unfolding residual_from
  residual_end product i h rest = ap (residual_from sheet product) (sym (drop_of_length-le conjuncts h)) ∙ rest
