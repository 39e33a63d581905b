-- One more pair in an array of pairs. Assumes nothing.
use Prim.Native.Nat.{ℕ, suc, ◌+◌, ◌-◌, ◌<◌, ◌≤◌}
use mathlib.Core.Path.{◌≡◌, sym, ap, ◌∙◌}
use mathlib.Core.List.{List, [], ◌∷◌, ◌++◌, append_assoc}
use native.Mathlib.Omega.{arith}
use lib.ListN.{length, take, set, replicate, length-append}
use lib.Seq.{set-append_seam, take_at}
use Rattle.layout.specs.Places.{conjunct_limit}
use Rattle.equality_pairs.specs.Padded.{no_pair, padded}
use Rattle.equality_pairs.specs.declared.pairs.EqualityPair.{EqualityPair}

module _ (l : List EqualityPair) (h : length l < conjunct_limit) (pair : EqualityPair) where
  abbrev behind : List EqualityPair
  behind = replicate (conjunct_limit - (length l + 1)) no_pair

  room : conjunct_limit - length l ≡ suc (conjunct_limit - (length l + 1))
  room = omega arith

  pub longer : length (l ++ pair ∷ []) ≡ length l + 1
  longer = length-append l (pair ∷ [])

  -- it is stored behind the last
  stored : set (padded l) (length l) pair ≡ padded (l ++ pair ∷ [])
  stored =
      (λ k. set (l ++ replicate (room k) no_pair) (length l) pair)
      ∙ set-append_seam l no_pair behind pair
      ∙ sym (append_assoc l (pair ∷ []) behind)
      ∙ λ k. (l ++ pair ∷ []) ++ replicate (conjunct_limit - sym longer k) no_pair

module _ (pairs : List EqualityPair) (n : ℕ) (pair : EqualityPair) (i : n ≡ length (take n pairs)) (p : pairs ≡ padded (take n pairs)) (h : length (take n pairs) < conjunct_limit) where
  abbrev after : List EqualityPair
  after = set pairs n pair

  abbrev front : List EqualityPair
  front = take n pairs ++ pair ∷ []

  all : after ≡ padded front
  all = (λ k. set (p k) (i k) pair) ∙ stored (take n pairs) h pair

  count : length front ≡ n + 1
  count = longer (take n pairs) h pair ∙ ap (λ (m : ℕ). m + 1) (sym i)

  taken : take (n + 1) after ≡ front
  taken = ap (take (n + 1)) all ∙ take_at front (replicate (conjunct_limit - length front) no_pair) (n + 1) count

  pub pushed : (n + 1 ≤ conjunct_limit) × (n + 1 ≡ length (take (n + 1) after)) × (after ≡ padded (take (n + 1) after))
  pushed = (omega (arith, i, h), sym count ∙ ap length (sym taken), all ∙ ap padded (sym taken))
