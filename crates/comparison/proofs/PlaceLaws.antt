-- What is found by its place, as it stands in the sheet. Assumes nothing.
use Rattle.std.proofs.Common.{◌≡◌, ℕ, List, Some, None, sym}
use Rattle.scalar_bytes.specs.Reading.{scalar_at}
use Rattle.records.specs.Columns.{column_profile_at}
use Rattle.records.specs.declared.expressions.BinaryOp.{BinaryOp}
use Rattle.sheet.specs.Sheet.{sheet_of}
use Rattle.sheet.specs.declared.Sections.{Sections}
use Rattle.lookup.specs.Lookup.{expression_of, profile_place, profile_and_rows}
use Rattle.lookup.specs.declared.profiles.ProfilePlace.{ProfilePlace}
use Rattle.lookup.proofs.LookupLaws.{placed_profile_law}
use Rattle.parts.specs.Parts.{column_literal_place, column_literal}
use Rattle.parts.specs.declared.literals.PlacedLiteral.{PlacedLiteral}
use Rattle.parts.proofs.KindLaws.{placed_literal_law}

module _ (s : List ℕ) (q : Sections) where
  pub profile_found : (column : ℕ) (place : ProfilePlace) → Some (place.at, place.rows) ≡ profile_place s q column → profile_and_rows (sheet_of s q) column ≡ Some (column_profile_at s place.at, place.rows)
  profile_found column place is = sym (placed_profile_law s q column (Some (place.at, place.rows)) is)

  pub profile_none : (column : ℕ) → None ≡ profile_place s q column → profile_and_rows (sheet_of s q) column ≡ None
  profile_none column is = sym (placed_profile_law s q column None is)

  pub literal_found : (op : BinaryOp) (left right : ℕ) (place : PlacedLiteral) → Some (place.column, place.at, place.op) ≡ column_literal_place s q op left right → column_literal op (expression_of (sheet_of s q) left) (expression_of (sheet_of s q) right) ≡ Some (place.column, scalar_at s place.at, place.op)
  literal_found op left right place is = sym (placed_literal_law s q op left right (Some (place.column, place.at, place.op)) is)

  pub literal_none : (op : BinaryOp) (left right : ℕ) → None ≡ column_literal_place s q op left right → column_literal op (expression_of (sheet_of s q) left) (expression_of (sheet_of s q) right) ≡ None
  literal_none op left right is = sym (placed_literal_law s q op left right None is)
