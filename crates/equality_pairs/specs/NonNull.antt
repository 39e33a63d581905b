-- The columns that equalities show to be non-null (`non_null_equality_columns` in the source's analysis.rs): a mark for each column. Definitions only.
use Rattle.std.specs.Prelude.{ℕ, zero, suc, ◌+◌, Bool, true, false, ◌||◌, not, cond, List, [], ◌∷◌, eqb, get_or, set, replicate}
use Rattle.std.specs.Bool.{beq}
use Rattle.float.specs.Integers.{bit}
use Rattle.selection.specs.Selected.{selected}
use Rattle.layout.specs.Places.{column_limit}
use Rattle.equality_pairs.specs.declared.pairs.EqualityPair.{EqualityPair}

abbrev pub is_marked : List Bool → ℕ → Bool
is_marked marks column = get_or marks column false

-- both columns of a pair
unfoldable pub with_both : List Bool → EqualityPair → List Bool
with_both marks pair = set (set marks pair.left true) pair.right true

-- those of ordinary equalities
unfoldable pub with_ordinary : List Bool → List EqualityPair → List Bool
unfolding with_both
with_ordinary marks [] = marks
with_ordinary marks (pair ∷ pairs) = with_ordinary (cond pair.null_safe marks (with_both marks pair)) pairs

abbrev pub extended : List Bool → EqualityPair → List Bool
extended marks pair = cond (is_marked marks pair.left || is_marked marks pair.right) (with_both marks pair) marks

-- whether one of the two columns is marked and the other is not
abbrev pub extends : List Bool → EqualityPair → Bool
extends marks pair = not (beq (is_marked marks pair.left) (is_marked marks pair.right))

-- once over all pairs, of either kind
unfoldable pub pass : List Bool → List EqualityPair → List Bool
unfolding with_both
pass marks [] = marks
pass marks (pair ∷ pairs) = pass (extended marks pair) pairs

-- whether any pair extends the marks that it comes upon
unfoldable pub pass_extends : List Bool → List EqualityPair → Bool
unfolding with_both
pass_extends marks [] = false
pass_extends marks (pair ∷ pairs) = extends marks pair || pass_extends (extended marks pair) pairs

unfoldable pub count : List Bool → ℕ
count [] = 0
count (b ∷ bs) = bit b + count bs

-- passes, at most n, until one adds no column
unfoldable pub passes : ℕ → List Bool → List EqualityPair → List Bool
unfolding pass count
passes zero marks pairs = marks
passes (suc n) marks pairs = elim (eqb (count (pass marks pairs)) (count marks)) [ true ↦ pass marks pairs | false ↦ passes n (pass marks pairs) pairs ]

-- one pass more than there are columns is enough for the last to add none
unfoldable pub non_null_marks : List EqualityPair → List Bool
unfolding with_ordinary passes
non_null_marks pairs = passes (column_limit + 1) (with_ordinary (replicate column_limit false) pairs) pairs

-- the marked columns, ascending
unfoldable pub marked_columns : List Bool → List ℕ
unfolding selected
marked_columns marks = selected (is_marked marks) 0 column_limit
