-- Laws of the pairs that conjuncts give: how many there are, and what a loop that stands at the i-th conjunct has of them. Assumes nothing.
use Prim.Native.Nat.{ℕ, ◌+◌, ◌≤◌, ◌<◌}
use mathlib.Core.Path.{◌≡◌, sym, ap, ◌∙◌}
use mathlib.Core.List.{List, [], ◌∷◌, ◌++◌, append_assoc, append-nil}
use native.Mathlib.Omega.{arith}
use native.Mathlib.Numerals.{add-one}
use Rattle.std.specs.Prelude.{Option, None, Some, option_to_list}
use lib.ListN.{length, get_or, drop, length-append, drop_of_length-le}
use lib.Seq.{drop-cons}
use Rattle.sheet.specs.Sheet.{Sheet}
use Rattle.equality_pairs.specs.Pairs.{equality_pair, equality_pairs}
use Rattle.equality_pairs.specs.declared.pairs.EqualityPair.{EqualityPair}

-- ---- how many there are

one_at_most : (pair : Option EqualityPair) → length (option_to_list pair) ≤ 1
one_at_most None = omega arith
one_at_most (Some pair) = omega arith

pub pairs_length : (sheet : Sheet) (es : List ℕ) → length (equality_pairs sheet es) ≤ length es
unfolding equality_pairs
pairs_length sheet [] = omega arith
pairs_length sheet (e ∷ es) =
    let a = length-append (option_to_list (equality_pair sheet e)) (equality_pairs sheet es) in
    let p = one_at_most (equality_pair sheet e) in
    let r = pairs_length sheet es in
    omega arith

-- ---- the loop over the conjuncts

module _ (sheet : Sheet) (es : List ℕ) where
  pairs_step : (i : ℕ) → i < length es → equality_pairs sheet (drop i es) ≡ option_to_list (equality_pair sheet (get_or es i 0)) ++ equality_pairs sheet (drop (i + 1) es)
  unfolding equality_pairs
  pairs_step i h = ap (equality_pairs sheet) (drop-cons es i 0 h) ∙ ap (λ (k : ℕ). option_to_list (equality_pair sheet (get_or es i 0)) ++ equality_pairs sheet (drop k es)) (sym (add-one i))

  pairs_over : (i : ℕ) → length es ≤ i → equality_pairs sheet (drop i es) ≡ []
  unfolding equality_pairs
  pairs_over i h = ap (equality_pairs sheet) (drop_of_length-le es h)

  -- the pairs of the first i conjuncts, and then those of the others
  abbrev pub PairsRest : List EqualityPair → ℕ → Type 0
  PairsRest pairs i = pairs ++ equality_pairs sheet (drop i es) ≡ equality_pairs sheet es

  module _ (pairs : List EqualityPair) (i : ℕ) (h : i < length es) (rest : PairsRest pairs i) where
    step : (o : Option EqualityPair) → equality_pair sheet (get_or es i 0) ≡ o → equality_pairs sheet (drop i es) ≡ option_to_list o ++ equality_pairs sheet (drop (i + 1) es)
    step o e = pairs_step i h ∙ ap (λ (p : Option EqualityPair). option_to_list p ++ equality_pairs sheet (drop (i + 1) es)) e

    pub pairs_next : (pair : EqualityPair) → equality_pair sheet (get_or es i 0) ≡ Some pair → PairsRest (pairs ++ pair ∷ []) (i + 1)
    pairs_next pair e = append_assoc pairs (pair ∷ []) (equality_pairs sheet (drop (i + 1) es)) ∙ ap (λ (l : List EqualityPair). pairs ++ l) (sym (step (Some pair) e)) ∙ rest

    pub pairs_same : equality_pair sheet (get_or es i 0) ≡ None → PairsRest pairs (i + 1)
    pairs_same e = ap (λ (l : List EqualityPair). pairs ++ l) (sym (step None e)) ∙ rest

  pub pairs_all : (pairs : List EqualityPair) (i : ℕ) → length es ≤ i → PairsRest pairs i → pairs ≡ equality_pairs sheet es
  pairs_all pairs i h rest = sym (append-nil pairs) ∙ ap (λ (l : List EqualityPair). pairs ++ l) (sym (pairs_over i h)) ∙ rest
