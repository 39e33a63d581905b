-- Which inputs of a join have a column (`column_sides` of the source's analysis.rs). Definitions only.
use Rattle.std.specs.Prelude.{ℕ, Bool, ◌&&◌, not, List, Option, is_some}
use Rattle.std.specs.Bool.{beq}
use Rattle.records.specs.declared.columns.ColumnProfile.{ColumnProfile}
use Rattle.sheet.specs.Sheet.{Sheet}
use Rattle.scan.specs.Scan.{first_with, is_numbered}
use Rattle.lookup.specs.Lookup.{column_of}
use Rattle.edge.specs.declared.places.EdgePlaces.{EdgePlaces}

abbrev pub has_column : ℕ → List ColumnProfile → Bool
has_column column profiles = is_numbered column_of column profiles

abbrev pub same_side : List ColumnProfile → ℕ → ℕ → Bool
same_side columns left right = beq (has_column left columns) (has_column right columns)

-- the two columns do not stand in the same inputs
unfoldable pub connects_inputs : Sheet → ℕ → ℕ → Bool
unfolding first_with
connects_inputs sheet left right = not (same_side sheet.left_columns left right && same_side sheet.right_columns left right)

-- ---- by the places of an edge's columns

abbrev pub both_or_neither : Option ℕ → Option ℕ → Bool
both_or_neither a b = beq (is_some a) (is_some b)

abbrev pub connects_places : EdgePlaces → Bool
connects_places places = not (both_or_neither places.left_in_left places.right_in_left && both_or_neither places.left_in_right places.right_in_right)
