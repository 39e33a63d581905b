-- Laws of the order of edges: the steps that make it, and what stands in it. Assumes nothing.
use Rattle.std.proofs.Common.{◌≡◌, ℕ, zero, suc, ◌+◌, ◌-◌, ◌<◌, ◌≤◌, Bool, List, [], ◌∷◌, map, ◌++◌, length, get_or, take, drop, set, refl, sym, ap, ◌∙◌, arith, le_refl, append-nil, length-drop}
use Rattle.std.specs.List.{prefix_len, copy_within}
use Rattle.std.proofs.lemmas.Slice.{between_to_end}
use borrow.Rule.Slice.PartMut.{put_mid}
use mathlib.Core.List.{Memᴰ}
use lib.ListN.{drop_of_length-le}
use lib.Seq.{take_all, take-append-le, take-take, drop_at, drop-drop, length-take-le}
use Rattle.layout.specs.Places.{conjunct_limit}
use Rattle.records.specs.Lists.{tabulate_from, tabulate, itself}
use Rattle.records.proofs.ListLaws.{tabulate_in, tabulate_step, tabulate_end}
use Rattle.edge_order.specs.declared.EdgeKey.{EdgeKey}
use Rattle.edge_order.specs.Sort.{insert, sort}
use Rattle.edge_order.specs.Order.{no_key, key_before, number_before, edge_order}
use Rattle.edge_order.proofs.PlaceLaws.{placed}
use Rattle.edge_order.proofs.SortLaws.{sort_map_within}

-- ---- a list from its a-th element on

behind : (a : ℕ) (xs : List ℕ) → take (length xs - a) (drop a xs) ≡ drop a xs
behind a xs = between_to_end xs a (length xs) (le_refl (length xs))

-- with ys there
put_behind : (a : ℕ) (xs ys : List ℕ) → put_mid a (length xs - a) xs ys ≡ take a xs ++ ys
put_behind a xs ys =
    ap (λ (l : List ℕ). take a xs ++ (ys ++ l)) (drop_of_length-le (drop a xs) (omega (arith, length-drop a xs)))
    ∙ ap (λ (l : List ℕ). take a xs ++ l) (append-nil ys)

-- ---- where a loop has sorted the numbers from k up to n, into the places from k on

module _ (before : ℕ → ℕ → Bool) (n : ℕ) where
  abbrev pub sorted_from : ℕ → List ℕ
  sorted_from k = sort before (tabulate_from itself k (n - k))

  -- the places in front of them are as they were
  abbrev pub ordered_from : List ℕ → ℕ → List ℕ
  ordered_from start k = take k start ++ sorted_from k

  pub order_first : (start : List ℕ) → length start ≡ n → start ≡ ordered_from start n
  unfolding sort
  order_first start h =
      sym (append-nil start)
      ∙ ap (λ (l : List ℕ). l ++ []) (sym (take_all n start (omega arith)))
      ∙ ap (λ (l : List ℕ). take n start ++ sort before l) (sym (tabulate_end itself n n (omega arith)))

  -- one more number in front
  pub order_next : (k : ℕ) (order next start : List ℕ) → length start ≡ n → 0 < k → k ≤ n → order ≡ ordered_from start k
      → next ≡ insert before (k - 1) (drop 1 (take (length order - (k - 1)) (drop (k - 1) order)))
      → put_mid (k - 1) (length order - (k - 1)) order next ≡ ordered_from start (k - 1)
  unfolding sort
  order_next k order next start s h l f g =
      put_behind (k - 1) order next
      ∙ ap (λ (r : List ℕ). r ++ next) front
      ∙ ap (λ (r : List ℕ). take (k - 1) start ++ r)
      (g
      ∙ ap (λ (r : List ℕ). insert before (k - 1) (drop 1 r)) (behind (k - 1) order)
      ∙ ap (insert before (k - 1)) (drop-drop 1 (k - 1) order ∙ rest (k - 1 + 1) (omega arith))
      ∙ ap (sort before) (sym (tabulate_step itself (k - 1) n (omega arith))))
    where
      held : length (take k start) ≡ k
      held = length-take-le k start (omega arith)

      front : take (k - 1) order ≡ take (k - 1) start
      front = ap (take (k - 1)) f ∙ take-append-le (k - 1) (take k start) (sorted_from k) (let e = held in omega arith) ∙ take-take (k - 1) k start (omega arith)

      rest : (j : ℕ) → j ≡ k → drop j order ≡ sorted_from j
      rest j e = rw e (ap (drop k) f ∙ drop_at (take k start) (sorted_from k) k held)

  pub order_all : (k : ℕ) (order start : List ℕ) → k ≤ 0 → order ≡ ordered_from start k → order ≡ sort before (tabulate itself n)
  order_all k order start h f = f ∙ ap (ordered_from start) (none k h) ∙ ap (λ (m : ℕ). sort before (tabulate_from itself 0 m)) (omega arith)
    where
      none : (k : ℕ) → k ≤ 0 → k ≡ 0
      none k h = omega arith

-- ---- what stands in it

-- one more number, put behind those whose keys stand before its own
pub number_placed : (keys : List EdgeKey) (order after : List ℕ) (x n : ℕ) (key : EdgeKey) → 0 < length order → key ≡ get_or keys x no_key
    → n ≡ prefix_len (λ (y : ℕ). key_before (get_or keys y no_key) key) (take (length order - 1) (drop 1 order))
    → after ≡ copy_within order 1 (n + 1) 0
    → set after n x ≡ insert (number_before keys) x (drop 1 order)
unfolding number_before
number_placed keys order after x n key h e f g = placed (number_before keys) x order after n h (f ∙ λ k. prefix_len (λ (y : ℕ). key_before (get_or keys y no_key) (e k)) (behind 1 order k)) g

module _ (keys : List EdgeKey) (n : ℕ) where
  -- edges that are told by their numbers are sorted as their numbers are
  pub edge_order_map : {A : Type 0} (f : ℕ → A) (before : A → A → Bool) → ((i j : ℕ) → i < n → j < n → number_before keys i j ≡ before (f i) (f j)) → map f (edge_order keys n) ≡ sort before (map f (tabulate itself n))
  unfolding edge_order
  edge_order_map f before h = sort_map_within f (number_before keys) before (tabulate itself n)
      (λ (i j : ℕ) (p : Memᴰ i (tabulate itself n)) (q : Memᴰ j (tabulate itself n)). h i j (below i p) (below j q))
    where
      below : (i : ℕ) → Memᴰ i (tabulate itself n) → i < n
      below i m =
          let r = tabulate_in itself n i m in
          less r.0 r.1 r.2
        where
          less : (j : ℕ) → j < n → i ≡ j → i < n
          less j h e = omega arith

-- the last n places of a list, where a loop has put them in order
pub order_last : (keys : List EdgeKey) (n : ℕ) (start next : List ℕ) → n ≤ conjunct_limit → length start ≡ conjunct_limit
    → next ≡ edge_order keys (length (take (length start - (conjunct_limit - n)) (drop (conjunct_limit - n) start)))
    → put_mid (conjunct_limit - n) (length start - (conjunct_limit - n)) start next ≡ take (conjunct_limit - n) start ++ edge_order keys n
order_last keys n start next h l e =
    put_behind (conjunct_limit - n) start next
    ∙ ap (λ (r : List ℕ). take (conjunct_limit - n) start ++ r) (e ∙ ap (edge_order keys) (ap length (behind (conjunct_limit - n) start) ∙ omega (arith, length-drop (conjunct_limit - n) start)))

map_from {ℓ} : {A : Type ℓ} (f : ℕ → A) (i n : ℕ) → map f (tabulate_from itself i n) ≡ tabulate_from f i n
unfolding tabulate_from
map_from f i zero = refl
map_from {A = A} f i (suc n) = ap (λ (l : List A). f i ∷ l) (map_from f (i + 1) n)

pub map_itself {ℓ} : {A : Type ℓ} (f : ℕ → A) (n : ℕ) → map f (tabulate itself n) ≡ tabulate f n
map_itself f n = map_from f 0 n
