use mathlib.Core.Path.{ap, ◌∙◌}
use lib.ListN.{replicate}
use Rattle.estimate.specs.declared.Estimate.{Estimate}
use Rattle.class_state.specs.Distincts.{store_distincts}
use Rattle.class_state.proofs.ApartLaws.{apart_is}
use Rattle.class_state.proofs.apart.apart.Goals as goal

pub returns : goal.returns
returns c =
    let right = c.store_distincts.ensures ∙ ap (λ (d : Estimate). store_distincts c.args.sheet.now.bytes.now c.args.sheet.now.sections.right_columns (replicate 128 d)) c.unknown_distinct-unknown.ensures in
    apart_is c.args.sheet.now.bytes.now c.args.sheet.now.sections _ _ _ c.own_roots.ensures right c.store_distincts-2.ensures
