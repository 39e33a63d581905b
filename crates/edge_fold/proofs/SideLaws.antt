-- An input has a column where the column has a place in it. Assumes nothing.
use Prim.Native.Nat.{ℕ}
use mathlib.Core.Path.{◌≡◌, refl}
use mathlib.Core.Bool.{not, ◌&&◌, beq}
use mathlib.Core.List.{List}
use Rattle.std.specs.Prelude.{is_some}
use Rattle.le.specs.Fields.{u16_at}
use Rattle.layout.specs.Places.{column_size}
use Rattle.records.specs.Columns.{column_profile_at}
use Rattle.sheet.specs.Sheet.{sheet_of, records_in}
use Rattle.sheet.specs.declared.Sections.{Sections}
use Rattle.sheet.specs.declared.order.Kind.TheVariants.{Columns}
use Rattle.sheet.proofs.PlaceLaws.{columns_fixed}
use Rattle.scan.proofs.ScanLaws.{numbered_is}
use Rattle.lookup.specs.Lookup.{column_of, column_place}
use Rattle.edge.specs.Places.{edge_places}
use Rattle.edge_fold.specs.Sides.{has_column, connects_inputs, connects_places}

front : (s : List ℕ) (at : ℕ) → (column_profile_at s at).column ≡ u16_at s at
unfolding column_profile_at
front s at = refl

has_is : (s : List ℕ) (start column : ℕ) → is_some (column_place s start column) ≡ has_column column (records_in Columns column_profile_at s start)
has_is s start column = numbered_is Columns column_profile_at column_size columns_fixed column_of front s start column (column_place s start column) refl

pub connects_is : (s : List ℕ) (q : Sections) (left right : ℕ) → connects_places (edge_places s q left right) ≡ connects_inputs (sheet_of s q) left right
unfolding connects_inputs sheet_of
connects_is s q left right = λ k.
    not (beq (has_is s q.left_columns left k) (has_is s q.left_columns right k) && beq (has_is s q.right_columns left k) (has_is s q.right_columns right k))
