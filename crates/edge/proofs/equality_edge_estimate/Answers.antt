use mathlib.Core.Path.{sym, ap, ◌∙◌}
use Rattle.sheet.specs.Sheet.{sheet_of}
use Rattle.edge.specs.declared.places.EdgePlaces.{EdgePlaces}
use Rattle.edge.specs.Edge.{unoriented_estimate}
use Rattle.edge.proofs.OrientedLaws.{oriented_none, distinct_placed}
use Rattle.edge.proofs.EdgeLaws.{estimate_unoriented}
use Rattle.edge.proofs.equality_edge_estimate.Goals as goal

pub returns : goal.returns
returns c =
    let x = c.args.placed.now in
    let s = x.sheet.bytes.now in
    let q = x.sheet.sections in
    let sheet = sheet_of s q in
    let left = c.placed_distinct-first.ensures ∙ distinct_placed s q x.edge.left _ (ap (λ (p : EdgePlaces). p.left_in_left) x.placed) _ (ap (λ (p : EdgePlaces). p.left_in_right) x.placed) in
    let right = c.placed_distinct-second.ensures ∙ distinct_placed s q x.edge.right _ (ap (λ (p : EdgePlaces). p.right_in_left) x.placed) _ (ap (λ (p : EdgePlaces). p.right_in_right) x.placed) in
    c.unoriented_estimate.ensures ∙ (λ k. unoriented_estimate sheet (left k) (right k)) ∙ estimate_unoriented sheet x.edge (oriented_none s q x.edge.left x.edge.right x.places x.placed (sym c.in_default.ensures) (sym c.in_default-zip.ensures))
