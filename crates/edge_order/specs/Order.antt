-- The order of a join's edges (`equality_edges.sort_by` in the source's analysis.rs): by falling distinct, ordinary ones first where distincts are equal. The source compares by `total_cmp`, which is this order where no NaN and no -0 stands. Definitions only.
use Rattle.std.specs.Prelude.{ℕ, Bool, false, ◌&&◌, ◌||◌, not, List, get_or, Float}
use Rattle.std.specs.Float.Ieee.{lt, eq}
use Rattle.float.specs.Order.{f64_zero}
use Rattle.records.specs.Lists.{tabulate_from, tabulate, itself}
use Rattle.edge_order.specs.declared.EdgeKey.{EdgeKey}
use Rattle.edge_order.specs.Sort.{sort}

-- whether an edge of the first distinct must stand before one of the second
unfoldable pub stands_before : Float → Bool → Float → Bool → Bool
stands_before distinct null_safe other other_null_safe = lt other distinct || (eq other distinct && (not null_safe && other_null_safe))

abbrev pub key_before : EdgeKey → EdgeKey → Bool
key_before a b = stands_before a.distinct a.null_safe b.distinct b.null_safe

-- ---- edges by their numbers, where their keys stand in a list

abbrev pub no_key : EdgeKey
no_key = record { distinct = f64_zero; null_safe = false }

unfoldable pub number_before : List EdgeKey → ℕ → ℕ → Bool
unfolding stands_before
number_before keys i j = key_before (get_or keys i no_key) (get_or keys j no_key)

unfoldable pub edge_order : List EdgeKey → ℕ → List ℕ
unfolding sort number_before tabulate_from
edge_order keys n = sort (number_before keys) (tabulate itself n)
