use mathlib.Core.Path.{sym, ap, ◌∙◌}
use Rattle.std.specs.Prelude.{Some}
use Rattle.records.specs.declared.columns.ColumnProfile.{ColumnProfile}
use Rattle.sheet.specs.Sheet.{sheet_of}
use Rattle.edge.specs.declared.places.EdgePlaces.{EdgePlaces}
use Rattle.edge.proofs.OrientedLaws.{found_left, found_right}
use Rattle.edge.proofs.oriented_estimate.Goals as goal

pub edge_inputs-x-requires : goal.edge_inputs-x-requires
edge_inputs-x-requires c =
    let x = c.args.placed.now in
    let s = x.sheet.bytes.now in
    let q = x.sheet.sections in
    let sheet = sheet_of s q in (
      sym (found_left s q x.edge.left (Some c.args.left_at) (sym c.requires.0 ∙ ap (λ (p : EdgePlaces). p.left_in_left) x.placed)) ∙ ap (λ (p : ColumnProfile). Some (p, sheet.left_rows.value)) (sym c.column_profile_at-left.ensures),
      sym (found_right s q x.edge.right (Some c.args.right_at) (sym c.requires.1 ∙ ap (λ (p : EdgePlaces). p.right_in_right) x.placed)) ∙ ap (λ (p : ColumnProfile). Some (p, sheet.right_rows.value)) (sym c.column_profile_at-right.ensures),
    )
