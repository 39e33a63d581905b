-- `EquivalenceClassState` of the source's analysis.rs. Where the source keeps a parent for each column and follows it up, each column has its root here; columns that neither a class nor an equality names are alone and are not returned. Definitions only.
use Rattle.std.specs.Prelude.{ℕ, ◌<◌, Bool, cond, List, [], ◌∷◌, map, eqb, leb, length, get_or, set, Option, None, Some}
use Rattle.float.specs.Order.{f64_zero}
use Rattle.layout.specs.Places.{column_limit, class_least}
use Rattle.estimate.specs.Estimates.{default, min_by_value}
use Rattle.estimate.specs.declared.Estimate.{Estimate}
use Rattle.records.specs.Lists.{tabulate_from, tabulate, itself}
use Rattle.records.specs.Classes.{ColumnEquivalenceClass}
use Rattle.sheet.specs.Sheet.{Sheet}
use Rattle.lookup.specs.Lookup.{ProfileAndRows, profile_and_rows}
use Rattle.selection.specs.Selected.{selected}
use Rattle.class_state.specs.declared.EquivalenceClassState.{EquivalenceClassState}

-- every column's root is a column
abbrev pub Rooted : List ℕ → Type 0
Rooted roots = (column : ℕ) → get_or roots column 0 < column_limit

-- ---- one column

abbrev pub find : EquivalenceClassState → ℕ → ℕ
find state column = get_or state.roots column 0

abbrev pub equivalent : EquivalenceClassState → ℕ → ℕ → Bool
equivalent state left right = eqb (find state left) (find state right)

-- past the end, which no root reaches
unfoldable pub no_distinct : Estimate
unfolding default
no_distinct = default f64_zero

abbrev pub root_distinct : EquivalenceClassState → ℕ → Estimate
root_distinct state root = get_or state.distincts root no_distinct

abbrev pub class_distinct : EquivalenceClassState → ℕ → Estimate
class_distinct state column = root_distinct state (find state column)

-- ---- union

abbrev pub moved : ℕ → ℕ → ℕ → ℕ
moved from to root = cond (eqb root from) to root

-- of two classes made one
abbrev pub union_distinct : Estimate → Estimate → Estimate → Estimate
union_distinct left right distinct = min_by_value (min_by_value left right) distinct

-- of the class that stays, where both may be one already
abbrev pub united : Bool → Estimate → Estimate → Estimate → Estimate
united same left right distinct = cond same left (union_distinct left right distinct)

-- the class at the root `from` goes under the root `to`
unfoldable pub under : EquivalenceClassState → ℕ → ℕ → Estimate → EquivalenceClassState
unfolding no_distinct min_by_value
under state to from distinct = record {
  roots = map (moved from to) state.roots;
  distincts = set state.distincts to (union_distinct (root_distinct state to) (root_distinct state from) distinct);
}

-- the right root goes under the left
unfoldable pub union : EquivalenceClassState → ℕ → ℕ → Estimate → EquivalenceClassState
unfolding under
union state left right distinct = cond (equivalent state left right) state (under state (find state left) (find state right) distinct)

-- ---- from the profiles

-- of a column with no profile
unfoldable pub unknown_distinct : Sheet → Estimate
unfolding default
unknown_distinct sheet = default sheet.settings.unknown_column_ndv_cap

abbrev pub own_distinct : Sheet → Option ProfileAndRows → Estimate
own_distinct sheet None = unknown_distinct sheet
own_distinct sheet (Some (profile, rows)) = profile.distinct

abbrev pub column_distinct : Sheet → ℕ → Estimate
column_distinct sheet column = own_distinct sheet (profile_and_rows sheet column)

-- every column alone
unfoldable pub apart : Sheet → EquivalenceClassState
unfolding tabulate_from unknown_distinct profile_and_rows
apart sheet = record { roots = tabulate itself column_limit; distincts = tabulate (column_distinct sheet) column_limit }

unfoldable pub union_each : EquivalenceClassState → ℕ → List ℕ → Estimate → EquivalenceClassState
unfolding union
union_each state first [] distinct = state
union_each state first (column ∷ columns) distinct = union_each (union state first column distinct) first columns distinct

-- the class's distinct overwrites the one at its first column's root
unfoldable pub overwritten : EquivalenceClassState → ℕ → Estimate → EquivalenceClassState
overwritten state first distinct = record { roots = state.roots; distincts = set state.distincts (find state first) distinct }

-- a class of fewer than two columns is passed over
unfoldable pub with_columns : EquivalenceClassState → List ℕ → Estimate → EquivalenceClassState
unfolding union_each overwritten
with_columns state [] distinct = state
with_columns state (first ∷ []) distinct = state
with_columns state (first ∷ second ∷ columns) distinct = union_each (overwritten state first distinct) first (second ∷ columns) distinct

unfoldable pub with_classes : EquivalenceClassState → List ColumnEquivalenceClass → EquivalenceClassState
unfolding with_columns
with_classes state [] = state
with_classes state (class ∷ classes) = with_classes (with_columns state class.columns class.distinct) classes

-- the left classes, then the right ones
unfoldable pub from_profiles : Sheet → EquivalenceClassState
unfolding apart with_classes
from_profiles sheet = with_classes (with_classes (apart sheet) sheet.left_classes) sheet.right_classes

-- ---- what is returned

abbrev pub has_root : List ℕ → ℕ → ℕ → Bool
has_root roots root column = eqb (get_or roots column 0) root

unfoldable pub members : List ℕ → ℕ → List ℕ
unfolding selected
members roots root = selected (has_root roots root) 0 column_limit

abbrev pub is_returned : List ℕ → ℕ → Bool
is_returned roots root = leb class_least (length (members roots root))

unfoldable pub returned_roots : List ℕ → List ℕ
unfolding selected members
returned_roots roots = selected (is_returned roots) 0 column_limit

abbrev pub class_at_root : EquivalenceClassState → ℕ → ColumnEquivalenceClass
class_at_root state root = record { columns = members state.roots root; distinct = root_distinct state root }

-- classes of two columns or more, ascending by the column at their root
unfoldable pub into_classes : EquivalenceClassState → List ColumnEquivalenceClass
unfolding members returned_roots no_distinct
into_classes state = map (class_at_root state) (returned_roots state.roots)
