-- Edges by their numbers. Assumes nothing.
use Prim.Native.Nat.{ℕ, zero, suc, ◌<◌}
use mathlib.Core.Path.{◌≡◌, refl, sym, ap, ◌∙◌, subst}
use mathlib.Core.Bool.{Bool}
use mathlib.Core.List.{List, [], ◌∷◌, Memᴰ, map}
use native.Mathlib.Omega.{arith}
use lib.ListN.{length, get_or, get_or-map, length-map}
use lib.Seq.{ext_get_or}
use Rattle.estimate.specs.declared.Estimate.{Estimate}
use Rattle.records.specs.Lists.{tabulate, itself}
use Rattle.records.proofs.ListLaws.{tabulate_at, tabulate_in, tabulate_length}
use Rattle.class_state.specs.State.{no_distinct}
use Rattle.class_state.specs.declared.EquivalenceClassState.{EquivalenceClassState}
use Rattle.equality_pairs.specs.declared.pairs.EqualityPair.{EqualityPair}
use Rattle.equality_pairs.specs.Padded.{no_pair}
use Rattle.edge_order.specs.Sort.{sort}
use Rattle.edge_order.specs.Order.{no_key, key_before, number_before, edge_order}
use Rattle.edge_order.specs.declared.EdgeKey.{EdgeKey}
use Rattle.edge_order.proofs.PlaceLaws.{get_or_within}
use Rattle.edge_order.proofs.OrderLaws.{edge_order_map, map_itself}
use Rattle.edge_order.proofs.SortLaws.{sort_in, sort_length}
use Rattle.edge.specs.declared.EqualityEdge.{EqualityEdge}
use Rattle.edge_fold.specs.Edges.{equality_edge, edge_of, edge_key, edge_keys, edge_before, equality_edges}

-- the edge of the i-th of the pairs
unfoldable pub edge_at : EquivalenceClassState → List Bool → List EqualityPair → ℕ → EqualityEdge
unfolding edge_of
edge_at classes marks pairs i = edge_of classes marks (get_or pairs i no_pair)

-- made from the distincts that stand at the columns' roots
pub edge_made : (classes : EquivalenceClassState) (marks : List Bool) (edge : EqualityEdge) (d e : Estimate) (pair : EqualityPair) (a b : ℕ)
    → a ≡ get_or classes.roots pair.left 0 → b ≡ get_or classes.roots pair.right 0
    → a < length classes.distincts → b < length classes.distincts
    → edge ≡ equality_edge marks pair (get_or classes.distincts a d) (get_or classes.distincts b e)
    → edge ≡ edge_of classes marks pair
unfolding edge_of
edge_made classes marks edge d e pair a b at bt ah bh is =
    is
    ∙ (λ k. equality_edge marks pair (get_or_within classes.distincts a d no_distinct ah k) (get_or_within classes.distincts b e no_distinct bh k))
    ∙ (λ k. equality_edge marks pair (get_or classes.distincts (at k) no_distinct) (get_or classes.distincts (bt k) no_distinct))

each_below : (n : ℕ) (l : List ℕ) → ((x : ℕ) → Memᴰ x l → x < n) → (j : ℕ) → j < length l → get_or l j 0 < n
each_below n [] h j k = absurd (none j k)
  where
    none : (j : ℕ) → j < 0 → ⊥
    none j k = omega arith
each_below n (x ∷ l) h zero k = h x (Memᴰ.head refl)
each_below n (x ∷ l) h (suc j) k = each_below n l (λ (y : ℕ) (m : Memᴰ y l). h y (Memᴰ.tail m)) j (less j (length l) k)
  where
    less : (j m : ℕ) → suc j < suc m → j < m
    less j m k = omega arith

-- ---- sorted numbers are the numbers of the sorted edges

module _ (classes : EquivalenceClassState) (marks : List Bool) (pairs : List EqualityPair) where
  abbrev edge : ℕ → EqualityEdge
  edge = edge_at classes marks pairs

  abbrev keys : List EdgeKey
  keys = edge_keys classes marks pairs

  abbrev key : EqualityPair → EdgeKey
  key pair = edge_key (edge_of classes marks pair)

  key_at : (i : ℕ) → i < length pairs → get_or keys i no_key ≡ edge_key (edge i)
  unfolding edge_at
  key_at i h =
      get_or_within keys i no_key (key no_pair) (let n = length-map pairs key in omega arith)
      ∙ get_or-map key pairs i no_pair

  all_edges : tabulate edge (length pairs) ≡ map (edge_of classes marks) pairs
  unfolding edge_at
  all_edges = ext_get_or (edge_of classes marks no_pair) (tabulate edge (length pairs)) (map (edge_of classes marks) pairs) (size ∙ sym (length-map pairs (edge_of classes marks))) each
    where
      size : length (tabulate edge (length pairs)) ≡ length pairs
      size = tabulate_length edge (length pairs)

      each : (i : ℕ) → i < length (tabulate edge (length pairs)) → get_or (tabulate edge (length pairs)) i (edge_of classes marks no_pair) ≡ get_or (map (edge_of classes marks) pairs) i (edge_of classes marks no_pair)
      each i h = tabulate_at edge (length pairs) i (edge_of classes marks no_pair) (let n = size in omega arith) ∙ sym (get_or-map (edge_of classes marks) pairs i no_pair)

  pub edges_in_order : (order : List ℕ) → order ≡ edge_order keys (length pairs) → map edge order ≡ equality_edges classes marks pairs
  unfolding number_before equality_edges
  edges_in_order order e =
      ap (map edge) e
      ∙ edge_order_map keys (length pairs) edge edge_before (λ (i j : ℕ) (h : i < length pairs) (g : j < length pairs). λ k. key_before (key_at i h k) (key_at j g k))
      ∙ ap (sort edge_before) (map_itself edge (length pairs) ∙ all_edges)

  pub order_length : (order : List ℕ) → order ≡ edge_order keys (length pairs) → length order ≡ length pairs
  unfolding edge_order
  order_length order e = ap length e ∙ sort_length (number_before keys) (tabulate itself (length pairs)) ∙ tabulate_length itself (length pairs)

  -- an edge that is made of the pair at a number
  pub edge_at_is : (edge : EqualityEdge) (d : EqualityPair) (j i : ℕ) → j ≡ i → i < length pairs → edge ≡ edge_of classes marks (get_or pairs j d) → edge ≡ edge_at classes marks pairs i
  unfolding edge_at
  edge_at_is edge d j i n h e = e ∙ (λ k. edge_of classes marks (get_or pairs (n k) d)) ∙ ap (edge_of classes marks) (get_or_within pairs i d no_pair h)

  -- every number is that of a pair
  pub order_placed : (order : List ℕ) → order ≡ edge_order keys (length pairs) → (j : ℕ) → j < length order → get_or order j 0 < length pairs
  unfolding edge_order
  order_placed order e = subst (λ (l : List ℕ). (j : ℕ) → j < length l → get_or l j 0 < length pairs) (sym e) (each_below (length pairs) (edge_order keys (length pairs)) within)
    where
      within : (x : ℕ) → Memᴰ x (edge_order keys (length pairs)) → x < length pairs
      within x m =
          let r = tabulate_in itself (length pairs) x (sort_in (number_before keys) (tabulate itself (length pairs)) x m) in
          less r.0 r.1 r.2
        where
          less : (i : ℕ) → i < length pairs → x ≡ i → x < length pairs
          less i g f = omega arith
