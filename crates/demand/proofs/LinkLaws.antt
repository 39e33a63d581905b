-- The roots of a whole join, all below 128, agree exactly where a chain of its facts links. Assumes nothing.
use Prim.Native.Nat.{ℕ, ◌<◌}
use mathlib.Core.Path.{◌≡◌, refl, sym, subst, ◌∙◌, ap}
use mathlib.Core.Logic.{◌↔◌, ◌≢◌, ⊎_elim}
use mathlib.Core.Bool.{Bool}
use mathlib.Core.List.{List, [], ◌∷◌, ◌++◌, map, Memᴰ}
use Rattle.records.proofs.ListLaws.{tabulate_length, tabulate_at}
use Rattle.sheet.specs.Sheet.{Sheet}
use Rattle.records.specs.Lists.{itself}
use Rattle.class_state.specs.State.{find, apart, with_classes, from_profiles}
use Rattle.class_state.specs.declared.EquivalenceClassState.{EquivalenceClassState}
use Rattle.equality_pairs.specs.Pairs.{equality_pairs}
use Rattle.equality_pairs.specs.declared.pairs.EqualityPair.{EqualityPair}
use Rattle.equality_pairs.specs.NonNull.{non_null_marks}
use Rattle.edge_order.proofs.SortLaws.{sort_in, in_sort}
use Rattle.edge.specs.declared.EqualityEdge.{EqualityEdge}
use Rattle.edge_fold.specs.Edges.{equality_edge, edge_of, edge_before, equality_edges}
use Rattle.edge_fold.specs.Fold.{no_equality, folded_pairs}
use Rattle.demand.specs.Claim.{Columns, Join, Equates, equated, Fact, of_left, of_right, of_conjunct, Linked, no_step, step}
use Rattle.demand.proofs.Kept.{Kept}
use Rattle.demand.proofs.KeptLaws.{pairs_law}
use Rattle.demand.proofs.ChainLaws.{one_step, turned}
use Rattle.demand.proofs.RootLaws.{root_of, Sound, Two, joined_all, Agree, Joins, joined_append, joined_all_law, all_pairs, classes_roots, ends, edges_roots, class_agrees, all_pair, pair_all, along}

-- ---- columns are below 128

of_two : (P : ℕ → Type 0) (first second : ℕ) → P first → P second → (a : ℕ) → Memᴰ a (first ∷ second ∷ []) → P a
of_two P first second p q a m =
    ⊎_elim (λ (e : a ≡ first). subst P (sym e) p)
    (λ (n : Memᴰ a (second ∷ [])). subst P (sym (mathlib.Core.List.Memᴰ.eq_of_singleton n)) q)
    (mathlib.Core.List.Memᴰ.cases_cons m)

fact_below : (join : Join) → Kept join → (f : Columns) (a : ℕ) → Fact join f → Memᴰ a f → a < 128
fact_below join kept f a (of_left class n e) m = kept.left class a n (subst (λ (l : Columns). Memᴰ a l) (sym e) m)
fact_below join kept f a (of_right class n e) m = kept.right class a n (subst (λ (l : Columns). Memᴰ a l) (sym e) m)
fact_below join kept f a (of_conjunct (equated first second null_safe n e)) m =
    let h = kept.equated first second null_safe n in
    of_two (λ (c : ℕ). c < 128) first second h.0 h.1 a (subst (λ (l : Columns). Memᴰ a l) (sym e) m)

begins_below : (join : Join) → Kept join → {a b : ℕ} → Linked (Fact join) a b → a ≢ b → a < 128
begins_below join kept (no_step e) n = absurd (n e)
begins_below join kept (step {a = a} t l) n = fact_below join kept t.0 a t.1 t.2

-- the ends of a chain of one step or more
pub chain_below : (join : Join) → Kept join → {a b : ℕ} → Linked (Fact join) a b → a ≢ b → (a < 128) × (b < 128)
chain_below join kept l n = (begins_below join kept l n, begins_below join kept (turned l) (λ e. n (sym e)))

-- ---- every column alone

apart_sound : (F : Columns → Type 0) (sheet : Sheet) → Sound F (apart sheet).roots
unfolding apart
apart_sound F sheet = record {
  size = tabulate_length itself 128;
  range = λ c h. subst (λ (z : ℕ). z < 128) (sym (tabulate_at itself 128 c 0 h)) h;
  linked = λ a b ha hb e. no_step (sym (tabulate_at itself 128 a 0 ha) ∙ e ∙ tabulate_at itself 128 b 0 hb);
}

-- ---- the unions of a whole join

-- its classes behind all its edges
abbrev pub join_state : Join → EquivalenceClassState
join_state join = (folded_pairs join.sheet (equality_pairs join.sheet join.conjuncts)).classes

module _ (join : Join) where
  edges : List EqualityEdge
  edges = equality_edges (from_profiles join.sheet) (non_null_marks (equality_pairs join.sheet join.conjuncts)) (equality_pairs join.sheet join.conjuncts)

  edge_for : EqualityPair → EqualityEdge
  edge_for pair = edge_of (from_profiles join.sheet) (non_null_marks (equality_pairs join.sheet join.conjuncts)) pair

  -- in order
  unions : List Two
  unions = all_pairs join.sheet.left_classes ++ (all_pairs join.sheet.right_classes ++ map ends edges)

  roots_are : (join_state join).roots ≡ joined_all (apart join.sheet).roots unions
  unfolding unions edges folded_pairs from_profiles
  roots_are =
      edges_roots join.sheet (record { classes = from_profiles join.sheet; figures = no_equality; coverages = [] }) edges
      ∙ ap (λ (l : List ℕ). joined_all l (map ends edges))
      (classes_roots (with_classes (apart join.sheet) join.sheet.left_classes) join.sheet.right_classes
      ∙ ap (λ (l : List ℕ). joined_all l (all_pairs join.sheet.right_classes)) (classes_roots (apart join.sheet) join.sheet.left_classes))
      ∙ sym (joined_append (joined_all (apart join.sheet).roots (all_pairs join.sheet.left_classes)) (all_pairs join.sheet.right_classes) (map ends edges))
      ∙ sym (joined_append (apart join.sheet).roots (all_pairs join.sheet.left_classes) (all_pairs join.sheet.right_classes ++ map ends edges))

  -- ---- the edges are the equating conjuncts

  edge_ends : (pair : EqualityPair) → ends (edge_for pair) ≡ (pair.left, pair.right)
  unfolding edge_for edge_of equality_edge
  edge_ends pair = refl

  edge_from : (p : Two) → Memᴰ p (map ends edges) → (pair : EqualityPair) × Equates join pair.left pair.right pair.null_safe × ((pair.left, pair.right) ≡ p)
  unfolding edges edge_for equality_edges
  edge_from p m =
      let e = mathlib.Core.List.Memᴰ.of_map ends edges m in
      let pairs = equality_pairs join.sheet join.conjuncts in
      let r = mathlib.Core.List.Memᴰ.of_map edge_for pairs (sort_in edge_before (map edge_for pairs) e.0 e.1) in
      (r.0, (pairs_law join r.0).0 r.1, sym (edge_ends r.0) ∙ ap ends r.2 ∙ e.2)

  edge_to : (first second : ℕ) (null_safe : Bool) → Equates join first second null_safe → Memᴰ (first, second) (map ends edges)
  unfolding edges edge_for equality_edges
  edge_to first second null_safe h =
      let pair : EqualityPair = record { left = first; right = second; null_safe = null_safe } in
      let pairs = equality_pairs join.sheet join.conjuncts in
      subst (λ (p : Two). Memᴰ p (map ends edges)) (edge_ends pair) (mathlib.Core.List.Memᴰ.map ends (in_sort edge_before (map edge_for pairs) (edge_for pair) (mathlib.Core.List.Memᴰ.map edge_for ((pairs_law join pair).1 h))))

  -- ---- a union is of two columns of a fact

  module _ (kept : Kept join) where
    joins : (p : Two) (f : Columns) → Fact join f → Memᴰ p.0 f → Memᴰ p.1 f → Joins (Fact join) p
    joins p f h m n = (fact_below join kept f p.0 h m, fact_below join kept f p.1 h n, one_step (f, h, m, n))

    edge_joins : (p : Two) → Memᴰ p (map ends edges) → Joins (Fact join) p
    edge_joins p m =
        let r = edge_from p m in
        let first = r.0.left in
        let second = r.0.right in
        subst (Joins (Fact join)) r.2 (joins (first, second) (first ∷ second ∷ []) (of_conjunct (equated first second r.0.null_safe r.1 refl)) (mathlib.Core.List.Memᴰ.head refl) (mathlib.Core.List.Memᴰ.tail (mathlib.Core.List.Memᴰ.head refl)))

    union_joins : (p : Two) → Memᴰ p unions → Joins (Fact join) p
    unfolding unions
    union_joins p m =
        ⊎_elim (λ (n : Memᴰ p (all_pairs join.sheet.left_classes)). let r = all_pair join.sheet.left_classes p n in joins p r.0.columns (of_left r.0 r.1 refl) r.2 r.3)
        (λ (n : Memᴰ p (all_pairs join.sheet.right_classes ++ map ends edges)). ⊎_elim
        (λ (o : Memᴰ p (all_pairs join.sheet.right_classes)). let r = all_pair join.sheet.right_classes p o in joins p r.0.columns (of_right r.0 r.1 refl) r.2 r.3)
        (λ (o : Memᴰ p (map ends edges)). edge_joins p o)
        (mathlib.Core.List.Memᴰ.append_cases (all_pairs join.sheet.right_classes) n))
        (mathlib.Core.List.Memᴰ.append_cases (all_pairs join.sheet.left_classes) m)

  -- ---- the columns of a fact are joined by unions

  fact_agrees : (l : List ℕ) → ((p : Two) → Memᴰ p unions → Agree l p) → (f : Columns) (a b : ℕ) → Fact join f → Memᴰ a f → Memᴰ b f → root_of l a ≡ root_of l b
  unfolding unions
  fact_agrees l h f a b (of_left class n e) p q =
      class_agrees l class.columns (λ z m. h z (mathlib.Core.List.Memᴰ.append_left (all_pairs join.sheet.right_classes ++ map ends edges) (pair_all join.sheet.left_classes class n z m)))
      a b (subst (λ (k : Columns). Memᴰ a k) (sym e) p) (subst (λ (k : Columns). Memᴰ b k) (sym e) q)
  fact_agrees l h f a b (of_right class n e) p q =
      class_agrees l class.columns (λ z m. h z (mathlib.Core.List.Memᴰ.append_right (all_pairs join.sheet.left_classes) (mathlib.Core.List.Memᴰ.append_left (map ends edges) (pair_all join.sheet.right_classes class n z m))))
      a b (subst (λ (k : Columns). Memᴰ a k) (sym e) p) (subst (λ (k : Columns). Memᴰ b k) (sym e) q)
  fact_agrees l h f a b (of_conjunct (equated first second null_safe n e)) p q =
      let w : root_of l first ≡ root_of l second = h (first, second) (mathlib.Core.List.Memᴰ.append_right (all_pairs join.sheet.left_classes) (mathlib.Core.List.Memᴰ.append_right (all_pairs join.sheet.right_classes) (edge_to first second null_safe n))) in
      let to = of_two (λ (c : ℕ). root_of l c ≡ root_of l first) first second refl (sym w) in
      to a (subst (λ (k : Columns). Memᴰ a k) (sym e) p) ∙ sym (to b (subst (λ (k : Columns). Memᴰ b k) (sym e) q))

  -- ---- the whole

  module _ (kept : Kept join) where
    all_joined : Sound (Fact join) (join_state join).roots × ((p : Two) → Memᴰ p unions → Agree (join_state join).roots p)
    all_joined =
        let r = joined_all_law (Fact join) (apart join.sheet).roots unions (apart_sound (Fact join) join.sheet) (union_joins kept) in
        subst (λ (l : List ℕ). Sound (Fact join) l × ((p : Two) → Memᴰ p unions → Agree l p)) (sym roots_are) (r.0, r.2)

    -- columns have one root exactly when a chain of facts links them
    pub root_law : (a b : ℕ) → a < 128 → b < 128 → (find (join_state join) a ≡ find (join_state join) b) ↔ Linked (Fact join) a b
    root_law a b ha hb = (all_joined.0.linked a b ha hb, λ l. along (Fact join) (join_state join).roots (fact_agrees (join_state join).roots all_joined.1) l)

    pub root_below : (c : ℕ) → c < 128 → find (join_state join) c < 128
    root_below c h = all_joined.0.range c h
