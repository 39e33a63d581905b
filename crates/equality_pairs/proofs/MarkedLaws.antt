-- How many columns are marked at most. Assumes nothing.
use Prim.Native.Nat.{◌≤◌}
use mathlib.Core.Bool.{Bool}
use mathlib.Core.List.{List}
use lib.ListN.{length}
use Rattle.selection.proofs.SelectedLaws.{selected_length}
use Rattle.equality_pairs.specs.NonNull.{is_marked, marked_columns}

pub marked_below : (marks : List Bool) → length (marked_columns marks) ≤ 128
unfolding marked_columns
marked_below marks = selected_length (is_marked marks) 0 128
