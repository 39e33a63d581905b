-- The columns of an equality by where their profiles stand in the bytes, in each input that has one. Definitions only.
use Rattle.std.specs.Prelude.{ℕ, List, Float, Option, None, Some}
use Rattle.float.specs.Order.{f64_one}
use Rattle.records.specs.Columns.{column_profile_at}
use Rattle.sheet.specs.declared.Sections.{Sections}
use Rattle.lookup.specs.Lookup.{column_place}
use Rattle.range.specs.Selectivity.{non_null_fraction}
use Rattle.edge.specs.declared.places.EdgePlaces.{EdgePlaces}

abbrev pub edge_places : List ℕ → Sections → ℕ → ℕ → EdgePlaces
edge_places s q left right = record {
  left_in_left = column_place s q.left_columns left;
  left_in_right = column_place s q.right_columns left;
  right_in_left = column_place s q.left_columns right;
  right_in_right = column_place s q.right_columns right;
}

-- of the columns exchanged
abbrev pub exchanged_places : EdgePlaces → EdgePlaces
exchanged_places places = record {
  left_in_left = places.right_in_left;
  left_in_right = places.right_in_right;
  right_in_left = places.left_in_left;
  right_in_right = places.left_in_right;
}

-- the left input's before the right input's
abbrev pub placed_distinct : List ℕ → Option ℕ → Option ℕ → Float
placed_distinct s (Some on_left) on_right = (column_profile_at s on_left).distinct.value
placed_distinct s None (Some on_right) = (column_profile_at s on_right).distinct.value
placed_distinct s None None = f64_one

-- of a column that is non-null this often in the right input
abbrev pub placed_fraction : List ℕ → Option ℕ → Float → Float → Float → Float
placed_fraction s (Some on_left) left_rows frequency right_rows = non_null_fraction (column_profile_at s on_left).frequency.value left_rows
placed_fraction s None left_rows frequency right_rows = non_null_fraction frequency right_rows
