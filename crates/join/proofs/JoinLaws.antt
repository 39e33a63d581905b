-- What the parts of a join come to together. Assumes nothing.
use Prim.Native.Nat.{ℕ, ◌+◌, ◌≤◌, ◌<◌}
use mathlib.Core.Path.{◌≡◌, sym, ap, ◌∙◌, subst}
use mathlib.Core.Bool.{Bool}
use mathlib.Core.List.{List, [], ◌∷◌, ◌++◌, map}
use native.Mathlib.Omega.{arith}
use lib.Ieee.{Float}
use lib.ListN.{length, get_or, set, take}
use lib.Seq.{take_all}
use Rattle.std.proofs.lemmas.List.{map_more, take_more_set}
use Rattle.le.specs.Fields.{onto}
use Rattle.layout.specs.Places.{conjunct_limit}
use Rattle.sheet.specs.Sheet.{Sheet}
use Rattle.class_state.specs.State.{Rooted, from_profiles}
use Rattle.class_state.specs.declared.EquivalenceClassState.{EquivalenceClassState}
use Rattle.class_state.proofs.ProfileLaws.{from_profiles_rooted}
use Rattle.equality_pairs.specs.Pairs.{equality_pairs}
use Rattle.equality_pairs.proofs.PairLaws.{pairs_length}
use Rattle.equality_pairs.specs.declared.pairs.EqualityPair.{EqualityPair}
use Rattle.equality_pairs.specs.NonNull.{non_null_marks}
use Rattle.edge_fold.specs.Fold.{Folded, folded_edges, folded_pairs}
use Rattle.edge_fold.specs.Coverages.{coverages_bytes}
use Rattle.join.specs.Residual.{residual_selectivity}
use Rattle.join.specs.Join.{join_figures, join_estimate, join_selectivity_from_conjuncts}
use Rattle.join.specs.Conjuncts.{take_conjuncts}
use Rattle.join.specs.Joined.{joined}
use Rattle.join.specs.Totals.{equality_totals}
use Rattle.join.specs.declared.conjuncts.Conjuncts.{Conjuncts}
use Rattle.join.specs.declared.fold.EqualityTotals.{EqualityTotals}
use Rattle.join.specs.declared.Joined.{Joined}
use Rattle.join.specs.declared.figures.JoinFigures.{JoinFigures}

-- ---- the conjuncts, taken

module _ (sheet : Sheet) (conjuncts : List ℕ) (taken : Conjuncts) (e : taken ≡ take_conjuncts sheet conjuncts) where
  pub taken_pairs : taken.pairs ≡ equality_pairs sheet conjuncts
  unfolding take_conjuncts
  taken_pairs = ap (λ (t : Conjuncts). t.pairs) e

  pub taken_residual : taken.residual_selectivity ≡ residual_selectivity sheet conjuncts
  unfolding take_conjuncts
  taken_residual = ap (λ (t : Conjuncts). t.residual_selectivity) e

-- ---- the whole

module _ (sheet : Sheet) (conjuncts : List ℕ) (pairs : List EqualityPair) (p : pairs ≡ equality_pairs sheet conjuncts) where
  pub pairs_few : length conjuncts ≤ conjunct_limit → length pairs ≤ conjunct_limit
  pairs_few most =
      let n = pairs_length sheet conjuncts in
      let m = ap length p in
      omega arith

  module _ (before : EquivalenceClassState) (c : before ≡ from_profiles sheet) where
    pub profiles_rooted : Rooted before.roots
    profiles_rooted = subst (λ (state : EquivalenceClassState). Rooted state.roots) (sym c) (from_profiles_rooted sheet)

    module _ (marks : List Bool) (m : marks ≡ non_null_marks pairs) where
      abbrev state : Folded
      state = folded_edges sheet before marks pairs

      state_is : state ≡ folded_pairs sheet (equality_pairs sheet conjuncts)
      unfolding folded_pairs
      state_is = (λ k. folded_edges sheet (c k) (m k) pairs) ∙ ap (folded_pairs sheet) p

      pub joined_is : (figures : JoinFigures) (rows residual : Float) (totals : EqualityTotals) (classes : EquivalenceClassState)
          → totals ≡ equality_totals state → classes ≡ state.classes
          → residual ≡ residual_selectivity sheet conjuncts → rows ≡ sheet.right_rows.value
          → figures ≡ join_figures totals.figures rows residual
          → record {
            selectivity = figures.selectivity;
            match_probability = figures.match_probability;
            residual_selectivity = residual;
            classes = classes;
            marks = marks;
            coverages = totals.coverages;
          }
          ≡ joined sheet conjuncts
      unfolding joined join_selectivity_from_conjuncts join_estimate
      joined_is figures rows residual totals classes t u r w g =
          (λ k. record {
            selectivity = (g k).selectivity;
            match_probability = (g k).match_probability;
            residual_selectivity = residual;
            classes = u k;
            marks = marks;
            coverages = totals.coverages;
          })
          ∙ (λ k. record {
            selectivity = (join_figures (t k).figures (w k) residual).selectivity;
            match_probability = (join_figures (t k).figures (w k) residual).match_probability;
            residual_selectivity = residual;
            classes = state.classes;
            marks = marks;
            coverages = (t k).coverages;
          })
          ∙ λ k. made (state_is k) (r k) ((m ∙ ap non_null_marks p) k)
        where
          made : Folded → Float → List Bool → Joined
          made state residual marks = record {
            selectivity = (join_figures state.figures sheet.right_rows.value residual).selectivity;
            match_probability = (join_figures state.figures sheet.right_rows.value residual).match_probability;
            residual_selectivity = residual;
            classes = state.classes;
            marks = marks;
            coverages = length state.coverages;
          }

      pub covered_is : (out after : List ℕ) → after ≡ onto (coverages_bytes state.coverages) out → after ≡ onto (coverages_bytes (join_selectivity_from_conjuncts sheet conjuncts).left_equality_coverages) out
      unfolding join_estimate join_selectivity_from_conjuncts
      covered_is out after b = b ∙ ap (λ (folded : Folded). onto (coverages_bytes folded.coverages) out) state_is

-- ---- a list whose places are stored one by one

module _ {A B : Type 0} (f : A → B) (from : List A) where
  -- the first i
  abbrev pub StoredFirst : List B → ℕ → Type 0
  StoredFirst to i = take i to ≡ map f (take i from)

  pub stored_next : (to : List B) (i : ℕ) (d : A) (y : B) → i < length to → i < length from → y ≡ f (get_or from i d) → StoredFirst to i → StoredFirst (set to i y) (i + 1)
  stored_next to i d y h g e s = take_more_set to i y h ∙ (λ k. s k ++ e k ∷ []) ∙ sym (map_more f from i d g)

  pub stored_all : (to : List B) (i : ℕ) → length to ≡ length from → length from ≤ i → StoredFirst to i → to ≡ map f from
  stored_all to i n h s = sym (take_all i to (omega arith)) ∙ s ∙ ap (map f) (take_all i from h)
